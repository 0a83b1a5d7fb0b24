-- Laws of a step added upon a preference. The sum in ℕ: x stopped at 65,535 is 65535 - (65535 - x), with ℕ's difference, which stops at 0.
--   after-up, after-down                       what a step up and a step down give, in ℕ
--   gives_back, keeps_order                    what `add_step` promises besides its answer
--   refused-low, refused-high                  the answer for what is no step
--   is-step                                    what is between the tests is a step
--   stops-low, stops-high, adds                the answer for a step, by the tests of the sum
--   below, above, under, over, between         the same by the machine's tests, which read the step and the sum back from their bits
-- Assumes nothing.
use Prim.Native.Nat.{ℕ, zero, suc, ◌+◌, ◌-◌, ◌≤◌, ◌<◌}
use mathlib.Core.Path.{◌≡◌, refl, sym, ap, ◌∙◌, subst}
use mathlib.Core.Logic.{◌↔◌}
use mathlib.Core.Bool.{Bool, true, false, cond, ◌&&◌}
use native.Mathlib.Omega.{arith}
use lib.Dec.{T, leb, ltb, leb→le}
use lib.IntN.{ℤ, pos, negsuc, neg_ℤ, sub_ℕ, ◌+ℤ◌, nat_abs}
use lib.Signed.{lt_z, mag, ◌≤ℤ◌}
use mir.Syntax.{w32}
use mir.Val.{to_z, of_z, SFits}
use mir.ValLaws.{to_z-of_z, to_z_pos}
use borrow.Author.Tests.{le-leb, lt-leb, leb-true, leb-false, ltb-true, ltb-false}
use Rattle.bandwidth.specs.Bandwidth.{clamped, is_step, sum, add_step, preference_after, GivesBack, KeepsOrder}

stopped-pos : (b : Bool) (n : ℕ) → leb n 65535 ≡ b → cond {A = ℕ} b n 65535 ≡ 65535 - (65535 - n)
stopped-pos true n e = let h = leb-true n 65535 e in omega arith
stopped-pos false n e = let h = leb-false n 65535 e in omega arith

stopped-is : (n : ℕ) → clamped (pos n) ≡ 65535 - (65535 - n)
unfolding clamped
stopped-is n = stopped-pos (leb n 65535) n refl

sub_is : (b : Bool) (p d : ℕ) → ltb p d ≡ b → clamped (cond b (negsuc (d - suc p)) (pos (p - d))) ≡ 65535 - (65535 - (p - d))
unfolding clamped
sub_is true p d e = let h = ltb-true p d e in omega arith
sub_is false p d e = stopped-is (p - d)

stopped-sub : (p d : ℕ) → clamped (sub_ℕ p d) ≡ 65535 - (65535 - (p - d))
stopped-sub p d = sub_is (ltb p d) p d refl

-- ---- what is a step
step-up : (a : ℕ) → a ≤ 65535 → is_step (pos a) ≡ true
unfolding is_step
step-up a h = le-leb a 65535 h

and-true : (b : Bool) → b ≡ true → (b && true) ≡ true
and-true true e = refl
and-true false e = e

and_left : (b : Bool) → (b && true) ≡ true → b ≡ true
and_left true e = refl
and_left false e = e

step_down : (b : ℕ) → suc b ≤ 65535 → is_step (negsuc b) ≡ true
unfolding is_step
step_down b h = and-true (leb b 65534) (le-leb b 65534 (omega arith))

up_step : (a : ℕ) → is_step (pos a) ≡ true → a ≤ 65535
unfolding is_step
up_step a e = leb-true a 65535 e

down_step : (b : ℕ) → is_step (negsuc b) ≡ true → suc b ≤ 65535
unfolding is_step
down_step b e = let h = leb-true b 65534 (and_left (leb b 65534) e) in omega arith

-- ---- the sum
accepted : (p : ℕ) (s : ℤ) → is_step s ≡ true → add_step p s ≡ sum 0 (clamped (pos p +ℤ s))
unfolding add_step
accepted p s e = rw e

refused : (p : ℕ) (s : ℤ) → is_step s ≡ false → add_step p s ≡ sum 19 0
unfolding add_step
refused p s e = rw e

after_is : (p : ℕ) (s : ℤ) → is_step s ≡ true → preference_after p s ≡ clamped (pos p +ℤ s)
after_is p s e = ap (λ (x : _). x.preference) (accepted p s e)

pub after-up : (p a : ℕ) → a ≤ 65535 → preference_after p (pos a) ≡ 65535 - (65535 - (p + a))
after-up p a h = after_is p (pos a) (step-up a h) ∙ stopped-is (p + a)

pub after-down : (p d : ℕ) → d ≤ 65535 → preference_after p (neg_ℤ (pos d)) ≡ 65535 - (65535 - (p - d))
after-down p zero h = after-up p 0 h ∙ omega arith
after-down p (suc b) h = after_is p (negsuc b) (step_down b h) ∙ stopped-sub p (suc b)

-- ---- the claims
down-up : (p d : ℕ) → p ≤ 65535 → d ≤ 65535 → (preference_after (preference_after p (neg_ℤ (pos d))) (pos d) ≡ p) ↔ (d ≤ p)
down-up p d hp hd = rw (after-up (preference_after p (neg_ℤ (pos d))) d hd, after-down p d hd) ((λ e. omega arith), (λ h. omega arith))

up-down : (p d : ℕ) → p ≤ 65535 → d ≤ 65535 → (preference_after (preference_after p (pos d)) (neg_ℤ (pos d)) ≡ p) ↔ (p + d ≤ 65535)
up-down p d hp hd = rw (after-down (preference_after p (pos d)) d hd, after-up p d hd) ((λ e. omega arith), (λ h. omega arith))

monotone : (p q : ℕ) (s t : ℤ) → is_step s ≡ true → is_step t ≡ true → p ≤ q → s ≤ℤ t → preference_after p s ≤ preference_after q t
monotone p q (pos a) (pos b) es et h k =
    let le = leb→le a b k.le in
    rw (after-up p a (up_step a es), after-up q b (up_step b et)) (omega arith)
monotone p q (pos a) (negsuc b) es et h k = absurd k.le
monotone p q (negsuc a) (pos b) es et h k = rw (after-down p (suc a) (down_step a es), after-up q b (up_step b et)) (omega arith)
monotone p q (negsuc a) (negsuc b) es et h k =
    let le = leb→le b a k.le in
    rw (after-down p (suc a) (down_step a es), after-down q (suc b) (down_step b et)) (omega arith)

never-lowers : (p : ℕ) (s : ℤ) → p ≤ 65535 → is_step s ≡ true → pos 0 ≤ℤ s → p ≤ preference_after p s
never-lowers p (pos a) h e k = rw (after-up p a (up_step a e)) (omega arith)
never-lowers p (negsuc a) h e k = absurd k.le

never-raises : (p : ℕ) (s : ℤ) → is_step s ≡ true → s ≤ℤ pos 0 → preference_after p s ≤ p
never-raises p (pos a) e k = let le = leb→le a 0 k.le in rw (after-up p a (up_step a e)) (omega arith)
never-raises p (negsuc a) e k = rw (after-down p (suc a) (down_step a e)) (omega arith)

pub gives_back : (p : ℕ) → p ≤ 65535 → GivesBack p
gives_back p h = record { down_then_up = λ d hd. down-up p d h hd; up_then_down = λ d hd. up-down p d h hd }

pub keeps_order : (p : ℕ) (s : ℤ) → p ≤ 65535 → KeepsOrder p s
keeps_order p s h = record { monotone = λ q t. monotone p q s t; up = never-lowers p s h; down = never-raises p s }

-- ---- the answer, by the code's tests
false-true : {X : Type 0} → false ≡ true → X
false-true e = absurd (subst T (sym e) tt)

pub refused-low : (p : ℕ) (s : ℤ) → lt_z s (negsuc 65534) ≡ true → sum 19 0 ≡ add_step p s
unfolding is_step
refused-low p (pos a) e = false-true e
refused-low p (negsuc b) e = sym (refused p (negsuc b) (ap (λ (x : Bool). x && true) (lt-leb b 65534 (ltb-true 65534 b e))))

pub refused-high : (p : ℕ) (s : ℤ) → lt_z (pos 65535) s ≡ true → sum 19 0 ≡ add_step p s
unfolding is_step
refused-high p (pos a) e = sym (refused p (pos a) (lt-leb a 65535 (ltb-true 65535 a e)))
refused-high p (negsuc b) e = false-true e

pub is-step : (s : ℤ) → lt_z s (negsuc 65534) ≡ false → lt_z (pos 65535) s ≡ false → is_step s ≡ true
is-step (pos a) l h = step-up a (ltb-false 65535 a h)
is-step (negsuc b) l h = let k = ltb-false 65534 b l in step_down b (omega arith)

-- with a preference of 16 bits and a step the sum fits
sub-mag : (t : Bool) (p b : ℕ) → p ≤ 65535 → suc b ≤ 65535 → mag (cond t (negsuc (suc b - suc p)) (pos (p - suc b))) < 2147483648
sub-mag true p b hp hb = omega arith
sub-mag false p b hp hb = omega arith

pub sum_fits : (p : ℕ) (s : ℤ) → p ≤ 65535 → is_step s ≡ true → mag (pos p +ℤ s) < 2147483648
sum_fits p (pos a) h e = let k = up_step a e in omega arith
sum_fits p (negsuc b) h e = sub-mag (ltb p (suc b)) p b h (down_step b e)

stopped-low : (z : ℤ) → lt_z z (pos 0) ≡ true → clamped z ≡ 0
unfolding clamped
stopped-low (pos n) e = let h = ltb-true n 0 e in omega arith
stopped-low (negsuc n) e = refl

stopped-high : (z : ℤ) → lt_z (pos 65535) z ≡ true → clamped z ≡ 65535
stopped-high (pos n) e = let h = ltb-true 65535 n e in stopped-is n ∙ omega arith
stopped-high (negsuc n) e = false-true e

stopped-between : (z : ℤ) → lt_z z (pos 0) ≡ false → lt_z (pos 65535) z ≡ false → clamped z ≡ nat_abs z
stopped-between (pos n) l h = let k = ltb-false 65535 n h in stopped-is n ∙ omega arith
stopped-between (negsuc n) l h = false-true (sym l)

answered : (p : ℕ) (s : ℤ) (n : ℕ) → is_step s ≡ true → clamped (pos p +ℤ s) ≡ n → sum 0 n ≡ add_step p s
answered p s n e k = sym (accepted p s e ∙ ap (λ (x : ℕ). sum 0 x) k)

pub stops-low : (p : ℕ) (s : ℤ) → is_step s ≡ true → lt_z (pos p +ℤ s) (pos 0) ≡ true → sum 0 0 ≡ add_step p s
stops-low p s e l = answered p s 0 e (stopped-low (pos p +ℤ s) l)

pub stops-high : (p : ℕ) (s : ℤ) → is_step s ≡ true → lt_z (pos 65535) (pos p +ℤ s) ≡ true → sum 0 65535 ≡ add_step p s
stops-high p s e h = answered p s 65535 e (stopped-high (pos p +ℤ s) h)

pub adds : (p : ℕ) (s : ℤ) → is_step s ≡ true → lt_z (pos p +ℤ s) (pos 0) ≡ false → lt_z (pos 65535) (pos p +ℤ s) ≡ false
    → sum 0 (nat_abs (pos p +ℤ s)) ≡ add_step p s
adds p s e l h = answered p s (nat_abs (pos p +ℤ s)) e (stopped-between (pos p +ℤ s) l h)

-- ---- the answer, by the tests as the machine makes them
-- what the machine reads back from the bits of a step and of the sum is the step and the sum
module _ (p : ℕ) (s : ℤ) (low : p < 65536) (fits : SFits w32 s) where
  abbrev step-read : ℤ
  step-read = to_z w32 (of_z w32 s)

  abbrev sum-read : ℤ
  sum-read = to_z w32 (of_z w32 (to_z w32 p +ℤ step-read))

  step_is : step-read ≡ s
  step_is = to_z-of_z w32 s fits

  exact : to_z w32 p +ℤ step-read ≡ pos p +ℤ s
  exact = ap (λ (v : ℤ). v +ℤ step-read) (to_z_pos w32 p (omega arith)) ∙ ap (λ (v : ℤ). pos p +ℤ v) step_is

  pub below : lt_z step-read (negsuc 65534) ≡ true → sum 19 0 ≡ add_step p s
  below e = refused-low p s (ap (λ (v : ℤ). lt_z v (negsuc 65534)) (sym step_is) ∙ e)

  pub above : lt_z (pos 65535) step-read ≡ true → sum 19 0 ≡ add_step p s
  above e = refused-high p s (ap (λ (v : ℤ). lt_z (pos 65535) v) (sym step_is) ∙ e)

  -- past the two tests the step is one
  module _ (l : lt_z step-read (negsuc 65534) ≡ false) (h : lt_z (pos 65535) step-read ≡ false) where
    one : is_step s ≡ true
    one = is-step s (ap (λ (v : ℤ). lt_z v (negsuc 65534)) (sym step_is) ∙ l) (ap (λ (v : ℤ). lt_z (pos 65535) v) (sym step_is) ∙ h)

    sum_is : sum-read ≡ pos p +ℤ s
    sum_is = to_z-of_z w32 (to_z w32 p +ℤ step-read) (subst (SFits w32) (sym exact) (record { sfits = sum_fits p s (omega arith) one })) ∙ exact

    pub under : lt_z sum-read (pos 0) ≡ true → sum 0 0 ≡ add_step p s
    under e = stops-low p s one (ap (λ (v : ℤ). lt_z v (pos 0)) (sym sum_is) ∙ e)

    pub over : lt_z (pos 65535) sum-read ≡ true → sum 0 65535 ≡ add_step p s
    over e = stops-high p s one (ap (λ (v : ℤ). lt_z (pos 65535) v) (sym sum_is) ∙ e)

    pub between : lt_z sum-read (pos 0) ≡ false → lt_z (pos 65535) sum-read ≡ false → sum 0 (nat_abs sum-read) ≡ add_step p s
    between a b =
        ap (λ (v : ℤ). sum 0 (nat_abs v)) sum_is ∙ adds p s one (ap (λ (v : ℤ). lt_z v (pos 0)) (sym sum_is) ∙ a) (ap (λ (v : ℤ). lt_z (pos 65535) v) (sym sum_is) ∙ b)

-- what `add_step` answers and promises
pub ruleset step_laws = (gives_back, keeps_order, below, above, under, over, between)
