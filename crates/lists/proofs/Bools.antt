-- Laws of tests, and of a test as a number. Assumes nothing.
use Prim.Native.Nat.{ℕ, zero, suc, ◌+◌, ◌*◌, ◌/◌, ◌%◌, ◌≤◌, ◌<◌}
use native.Mathlib.Omega.{arith}
use mathlib.Core.Path.{◌≡◌, refl, ap}
use mathlib.Core.Bool.{Bool, true, false, cond, not, ◌||◌}
use lib.Dec.{ltb, eqb}
use mir.Val.{bool_byte}
use borrow.Author.Tests.{not-true, ltb-true, eqb-false, eq-eqb, ne_eqb}
use Rattle.lists.specs.Lists.{bit}
use Rattle.lists.proofs.Numbers.{whether}

-- ONE TEST
pub true-false : {b : Bool} → b ≡ true → b ≡ false → ⊥
true-false p q = let z : ◌≡◌ {A = ℕ} 0 1 = cc in omega arith

-- a test that is not true is false, and the other way round
pub not-true-false : {b : Bool} → (b ≡ true → ⊥) → b ≡ false
not-true-false {b = true} n = absurd (n refl)
not-true-false {b = false} n = refl

pub not-false-true : {b : Bool} → (b ≡ false → ⊥) → b ≡ true
not-false-true {b = true} n = refl
not-false-true {b = false} n = absurd (n refl)

-- two tests
pub or_left : (a b : Bool) → (a || b) ≡ false → a ≡ false
or_left true b h = h
or_left false b h = refl

pub or_right : (a b : Bool) → (a || b) ≡ false → b ≡ false
or_right true b h = cc
or_right false b h = h

pub or_swap : (a b c : Bool) → (a || (b || c)) ≡ (b || (a || c))
or_swap true true c = refl
or_swap true false c = refl
or_swap false true c = refl
or_swap false false c = refl

-- room for a new one: what is not there, and may be taken, is taken below the capacity
pub room-left : (b : Bool) (n c : ℕ) → b ≡ false → (b || ltb n c) ≡ true → n < c
room-left true n c f h = absurd (true-false refl f)
room-left false n c f h = ltb-true n c h

-- the two cases of a test, and what holds of both cases of a choice
pub by-test : {P : Type 0} (b : Bool) → (b ≡ true → P) → (b ≡ false → P) → P
by-test true f g = f refl
by-test false f g = g refl

module _ {A : Type 0} where
  pub cond-by : (P : A → Type 0) (b : Bool) {x y : A} → (b ≡ true → P x) → (b ≡ false → P y) → P (cond b x y)
  cond-by P true f g = f refl
  cond-by P false f g = g refl

  -- a choice between the same two
  pub no-choice : (b c : Bool) (x : A) → cond b x x ≡ cond c x x
  no-choice true true x = refl
  no-choice true false x = refl
  no-choice false true x = refl
  no-choice false false x = refl

-- A TEST THAT TWO NUMBERS DIFFER
pub eq-not : {a b : ℕ} → a ≡ b → not (eqb a b) ≡ false
eq-not h = ap not (eq-eqb _ _ h)

pub ne-not : {a b : ℕ} → (a ≡ b → ⊥) → not (eqb a b) ≡ true
ne-not h = ap not (ne_eqb _ _ h)

pub not-eq : {a b : ℕ} → not (eqb a b) ≡ true → a ≡ b → ⊥
not-eq h = eqb-false _ _ (not-true _ h)

-- one of two numbers that follow each other
pub one_of_two : (n a : ℕ) → n ≤ a → a ≤ suc n → (eqb a n || eqb a (suc n)) ≡ true
one_of_two n a h k =
    whether a n
    (λ e. rw (eq-eqb a n e))
    (λ d. let e : a ≡ suc n = omega (arith, d) in rw (ne_eqb a n d, eq-eqb a (suc n) e))

-- A TEST AS A NUMBER, also as the code makes it one
pub bit-of : (b : Bool) → bool_byte b ≡ bit b
bit-of true = refl
bit-of false = refl

pub bit-less : (b : Bool) → bit b < 2
bit-less true = omega arith
bit-less false = omega arith

pub bit-eqb : (n : ℕ) → n < 2 → bit (eqb n 1) ≡ n
bit-eqb zero h = refl
bit-eqb (suc zero) h = refl
bit-eqb (suc (suc n)) h = absurd (omega arith)

-- a number and a test in one number
pub bit-halves : (x : ℕ) (b : Bool) → ((x * 2 + bit b) / 2 ≡ x) × (eqb ((x * 2 + bit b) % 2) 1 ≡ b)
bit-halves x true = (omega arith, eq-eqb ((x * 2 + 1) % 2) 1 (omega arith))
bit-halves x false = (omega arith, ne_eqb ((x * 2 + 0) % 2) 1 (λ f. omega arith))
