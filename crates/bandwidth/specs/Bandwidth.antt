-- A preference that follows bandwidth (document 02, M-108): a step added upon a preference.
--   highest          == the highest preference, and the longest step either way
--   clamped z        == the number z, stopped at 0 and at the highest preference
--   is_step s         == whether s is a step: from -65,535 to 65,535
--   Sum              == what the call answers: a number, and a preference
--   sum n p          == the answer with the number n and the preference p
--   sum_of a         == the answer that a says: 0 and the sum, or the number of a refusal and 0
--   add_step p s      == the whole answer for the preference p and the step s
--   preference_after p s == the preference in it
--   GivesBack p      == the claim of a step from p and the same step the other way
--   KeepsOrder p s   == the claim of larger preferences and larger steps
use Rattle.std.specs.Prelude.{ℕ, ◌+◌, ◌≤◌, ◌≡◌, ◌↔◌, Bool, true, cond, ◌&&◌, leb, ℤ, pos, negsuc, neg_ℤ, ◌+ℤ◌, ◌≤ℤ◌, Result, Ok, Err}
use Rattle.std.specs.Int.Signed.{le_z}
use Rattle.refusals.specs.Refusals.{step_out_of_range}
use Rattle.refusals.specs.Numbers.{refusal_number}
use Rattle.refusals.specs.declared.Refusal.{Refusal}

abbrev pub highest : ℕ
highest = 65535

unfoldable pub clamped : ℤ → ℕ
clamped (negsuc n) = 0
clamped (pos n) = cond {A = ℕ} (leb n highest) n highest

unfoldable pub is_step : ℤ → Bool
is_step s = le_z (neg_ℤ (pos highest)) s && le_z s (pos highest)

pub record Sum : Type 0 where
  pub number : ℕ
  pub preference : ℕ

abbrev pub sum : ℕ → ℕ → Sum
sum n p = record { number = n; preference = p }

abbrev pub sum_of : Result ℕ Refusal → Sum
sum_of (Ok p) = sum 0 p
sum_of (Err r) = sum (refusal_number r) 0

-- the sum of the preference and the step as integers, stopped at both ends; 19 for what is no step
unfoldable pub add_step : ℕ → ℤ → Sum
add_step p s = cond (is_step s) (sum 0 (clamped (pos p +ℤ s))) (sum step_out_of_range 0)

abbrev pub preference_after : ℕ → ℤ → ℕ
preference_after p s = (add_step p s).preference

pub record GivesBack (p : ℕ) : Type 0 where
  -- a step down by d and the same step up give back the old preference exactly if the first did not stop short (to reach 0 is not to stop short)
  pub down_then_up : (d : ℕ) → d ≤ highest → (preference_after (preference_after p (neg_ℤ (pos d))) (pos d) ≡ p) ↔ (d ≤ p)
  -- and so do a step up and the same step down
  pub up_then_down : (d : ℕ) → d ≤ highest → (preference_after (preference_after p (pos d)) (neg_ℤ (pos d)) ≡ p) ↔ (p + d ≤ highest)

pub record KeepsOrder (p : ℕ) (s : ℤ) : Type 0 where
  -- a preference at least as large and a step at least as large give a sum at least as large
  pub monotone : (q : ℕ) (t : ℤ) → is_step s ≡ true → is_step t ≡ true → p ≤ q → s ≤ℤ t → preference_after p s ≤ preference_after q t
  -- a step up never lowers, a step down never raises
  pub up : is_step s ≡ true → pos 0 ≤ℤ s → p ≤ preference_after p s
  pub down : is_step s ≡ true → s ≤ℤ pos 0 → preference_after p s ≤ p
