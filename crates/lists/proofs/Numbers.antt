-- How two numbers stand to each other, as cases and as bits. Assumes nothing.
use Prim.Native.Nat.{ℕ, ◌≤◌, ◌<◌}
use native.Mathlib.Decide.{dec_lt, ℕ_discrete}
use native.Mathlib.Omega.{arith}
use mathlib.Core.Path.{◌≡◌, ap, ◌∙◌, sym}
use mathlib.Core.Bool.{◌&&◌, and-false, and-true}
use lib.Bits.{bit_or, bit_xor, xor_self, or_zero_r, or_add_and, xor_add_and, and_le_l, and_le_r}
use lib.Dec.{eqb}
use borrow.Author.Tests.{eq-eqb, ne_eqb}

module _ {P : Type 0} (a b : ℕ) where
  -- less, or not
  pub either : (a < b → P) → (b ≤ a → P) → P
  either less more = go (dec_lt a b)
    where
      go : Dec (a < b) → P
      go (yes h) = less h
      go (no h) = more (omega (arith, h))

  -- the same, or not
  pub whether : (a ≡ b → P) → ((a ≡ b → ⊥) → P) → P
  whether same other = go (ℕ_discrete a b)
    where
      go : Dec (a ≡ b) → P
      go (yes e) = same e
      go (no n) = other n

  -- less, the same or more
  pub ordered : (a < b → P) → (a ≡ b → P) → (b < a → P) → P
  ordered less same more = either less (λ h. whether same (λ n. more (omega (arith, n))))

-- numbers compared one after the other: nothing differs so far, and not here. A number that differs leaves a bit
pub differ-step : (d x k : ℕ) → eqb (bit_or d (bit_xor x k)) 0 ≡ (eqb d 0 && eqb x k)
differ-step d x k =
    let a = bit_xor x k in
    whether x k
    (λ e. let z : bit_xor x k ≡ 0 = ap (λ (y : ℕ). bit_xor y k) e ∙ xor_self k in rw (z, or_zero_r d, eq-eqb x k e) (sym (and-true (eqb d 0))))
    (λ n.
    rw (ne_eqb x k n, ne_eqb (bit_or d a) 0 (λ z. n (omega (arith, z, or_add_and d a, and_le_l d a, xor_add_and x k, and_le_l x k, and_le_r x k))))
    (sym (and-false (eqb d 0))))
