-- Laws on digits: the number of a digit, the digit of a number, and the one from the other.
-- Assumes nothing.
use Prim.Native.Nat.{ℕ, zero, suc, ◌-◌, ◌≤◌, ◌<◌}
use native.Mathlib.Nat.{not-suc-le-zero, le_of_suc-le-suc, eq-or-lt_of_le}
use native.Mathlib.Omega.{arith}
use mathlib.Core.Path.{◌≡◌, refl}
use mathlib.Core.Bool.{Bool, true, false, cond, ◌&&◌, and-eq-true_iff, and-false}
use mathlib.Core.Logic.{⊎_elim}
use lib.Dec.{leb, ltb, eqb}
use borrow.Author.Tests.{le-leb, lt-leb, lt-ltb, eqb-true}
use Rattle.octets.specs.Octets.{hex_digit}
use Rattle.esi.specs.Text.{between, value_of_digit, lower_character}

-- ---- the number of a digit

module _ (a b c : ℕ) where
  pub inside : a ≤ c → c ≤ b → between a b c ≡ true
  inside h k = rw (le-leb a c h, le-leb c b k)

  pub under : c < a → between a b c ≡ false
  under h = rw (lt-leb a c h)

  pub over : b < c → between a b c ≡ false
  over h = rw (lt-leb c b h) (and-false (leb a c))

pub value-decimal : (c : ℕ) → 48 ≤ c → c < 58 → value_of_digit c ≡ c - 48
unfolding value_of_digit
value-decimal c h k = rw (inside 48 57 c h (omega arith))

pub value-lower : (c : ℕ) → 97 ≤ c → c < 103 → value_of_digit c ≡ c - 87
unfolding value_of_digit
value-lower c h k = rw (over 48 57 c (omega arith), inside 97 102 c h (omega arith))

pub value-upper : (c : ℕ) → 65 ≤ c → c < 71 → value_of_digit c ≡ c - 55
unfolding value_of_digit
value-upper c h k = rw (over 48 57 c (omega arith), under 97 102 c (omega arith), inside 65 70 c h (omega arith))

pub value_none : (c : ℕ) → between 48 57 c ≡ false → between 97 102 c ≡ false → between 65 70 c ≡ false → value_of_digit c ≡ 16
unfolding value_of_digit
value_none c d l u = rw (d, l, u)

-- ---- the one from the other, by a test of every number below 16 and of every octet

all_below : (ℕ → Bool) → ℕ → Bool
all_below f zero = true
all_below f (suc n) = f n && all_below f n

all-below : (f : ℕ → Bool) (n : ℕ) → all_below f n ≡ true → (k : ℕ) → k < n → f k ≡ true
unfolding all_below
all-below f zero h k l = absurd (not-suc-le-zero l)
all-below f (suc n) h k l =
    let p = (and-eq-true_iff (f n) (all_below f n)).0 h in
    ⊎_elim (λ e. rw e p.0) (λ l'. all-below f n p.1 k l') (eq-or-lt_of_le (le_of_suc-le-suc l))

pub value-digit : (n : ℕ) → n < 16 → value_of_digit (hex_digit n) ≡ n
unfolding value_of_digit hex_digit all_below
value-digit n h = eqb-true (value_of_digit (hex_digit n)) n (all-below (λ k. eqb (value_of_digit (hex_digit k)) k) 16 refl n h)

pub digit_value : (c : ℕ) → c < 256 → value_of_digit c < 16 → hex_digit (value_of_digit c) ≡ lower_character c
unfolding value_of_digit hex_digit lower_character all_below
digit_value c h v =
    let t = all-below (λ k. cond (ltb (value_of_digit k) 16) (eqb (hex_digit (value_of_digit k)) (lower_character k)) true) 256 refl c h in
    eqb-true (hex_digit (value_of_digit c)) (lower_character c) (rw (lt-ltb (value_of_digit c) 16 v) at t)
