-- A number by its lowest bit: the clauses of `places`, of ones, of trailing zeros, of s & (s - 1), s | (s - 1) and s & (s + 1) at even and at odd numbers, and induction bit by bit.
-- Assumes nothing.
use Prim.Native.Nat.{ℕ, zero, suc, ◌+◌, ◌-◌, ◌*◌, ◌/◌, ◌%◌, ◌^◌}
use native.Mathlib.Nat.{zero-add, two-pow-succ}
use native.Mathlib.Omega.{arith}
use mathlib.Core.Path.{◌≡◌, refl, subst}
use mathlib.Core.List.{List, [], ◌∷◌}
use lib.Pow.{pow_pos}
use lib.Bits.{bit_and, bit_or, bit_xor, and_step, and_self, or_step, or_self, xor_step}
use lib.Count.{ones, ones_step, count_trailing_zeros}
use Rattle.places.specs.Places.{places_from}

pub half-even : (q : ℕ) → 2 * q / 2 ≡ q
half-even q = omega arith

pub half-odd : (q : ℕ) → (2 * q + 1) / 2 ≡ q
half-odd q = omega arith

pub low-even : (q : ℕ) → 2 * q % 2 ≡ 0
low-even q = omega arith

pub low-odd : (q : ℕ) → (2 * q + 1) % 2 ≡ 1
low-odd q = omega arith

pub over : (i n : ℕ) → i + suc n ≡ suc i + n
over i n = omega arith

pub cons-none : {A : Type 0} {x : A} {l : List A} → x ∷ l ≡ [] → ⊥
cons-none e = let z : ◌≡◌ {A = ℕ} 0 1 = cc in omega arith

-- what holds of the n lowest bits of s, counted from i, is shown bit by bit
module _ (P : ℕ → ℕ → ℕ → Type 0) (none : (i s : ℕ) → P zero i s)
    (even : (n i q : ℕ) → P n (suc i) q → P (suc n) i (2 * q))
    (odd : (n i q : ℕ) → P n (suc i) q → P (suc n) i (2 * q + 1)) where
  pub by_bits : (n i s : ℕ) → P n i s
  by_bits zero i s = none i s
  by_bits (suc n) i s = go (s % 2) refl (by_bits n (suc i) (s / 2))
    where
      go : (r : ℕ) → s % 2 ≡ r → P n (suc i) (s / 2) → P (suc n) i s
      go zero e p = let h : 2 * (s / 2) ≡ s = omega arith in subst (P (suc n) i) h (even n i (s / 2) p)
      go (suc zero) e p = let h : 2 * (s / 2) + 1 ≡ s = omega arith in subst (P (suc n) i) h (odd n i (s / 2) p)
      go (suc (suc r)) e p = absurd (omega arith)

-- the clauses of each operation at an even and at an odd number
module _ (n i q : ℕ) where
  pub from-even : places_from (suc n) i (2 * q) ≡ places_from n (suc i) q
  unfolding places_from
  from-even = rw (low-even q, half-even q)

  pub from-odd : places_from (suc n) i (2 * q + 1) ≡ i ∷ places_from n (suc i) q
  unfolding places_from
  from-odd = rw (low-odd q, half-odd q)

module _ (q : ℕ) where
  pub ones-even : ones (2 * q) ≡ ones q
  ones-even = rw (ones_step (2 * q), low-even q, half-even q) (zero-add (ones q))

  pub ones_odd : ones (2 * q + 1) ≡ suc (ones q)
  ones_odd = rw (ones_step (2 * q + 1), low-odd q, half-odd q) (omega arith)

  pub trailing_even : (k : ℕ) → count_trailing_zeros (suc k) (2 * q) ≡ suc (count_trailing_zeros k q)
  unfolding count_trailing_zeros
  trailing_even k = rw (low-even q, half-even q)

  pub trailing_odd : (k : ℕ) → count_trailing_zeros (suc k) (2 * q + 1) ≡ 0
  unfolding count_trailing_zeros
  trailing_odd k = rw (low-odd q)

  pub rest-odd : bit_and (2 * q + 1) (2 * q + 1 - 1) ≡ 2 * q
  rest-odd =
      let h : 2 * q + 1 - 1 ≡ 2 * q = omega arith in
      rw (h, and_step (2 * q + 1) (2 * q), half-odd q, half-even q, low-odd q, low-even q, and_self q) (omega arith)

pub rest-even : (q : ℕ) → bit_and (2 * q) (2 * q - 1) ≡ 2 * bit_and q (q - 1)
rest-even zero = refl
rest-even (suc p) =
    let h : (2 * suc p - 1) / 2 ≡ suc p - 1 = omega arith in
    let o : (2 * suc p - 1) % 2 ≡ 1 = omega arith in
    rw (and_step (2 * suc p) (2 * suc p - 1), half-even (suc p), low-even (suc p), h, o) (omega arith)

-- s filled below its lowest one, and without its trailing ones
pub fill-odd : (q : ℕ) → bit_or (2 * q + 1) (2 * q + 1 - 1) ≡ 2 * q + 1
fill-odd q =
    let h : 2 * q + 1 - 1 ≡ 2 * q = omega arith in
    rw (h, or_step (2 * q + 1) (2 * q), half-odd q, half-even q, low-odd q, low-even q, or_self q) (omega arith)

pub fill-even : (q : ℕ) → (q ≡ 0 → ⊥) → bit_or (2 * q) (2 * q - 1) ≡ 2 * bit_or q (q - 1) + 1
fill-even q n =
    let h : (2 * q - 1) / 2 ≡ q - 1 = omega arith in
    let o : (2 * q - 1) % 2 ≡ 1 = omega arith in
    rw (or_step (2 * q) (2 * q - 1), half-even q, low-even q, h, o) (omega arith)

module _ (q : ℕ) where
  pub clear-even : bit_and (2 * q) (2 * q + 1) ≡ 2 * q
  clear-even = rw (and_step (2 * q) (2 * q + 1), half-odd q, half-even q, low-odd q, low-even q, and_self q) (omega arith)

  pub clear-odd : bit_and (2 * q + 1) (2 * q + 1 + 1) ≡ 2 * bit_and q (q + 1)
  clear-odd =
      let h : (2 * q + 1 + 1) / 2 ≡ q + 1 = omega arith in
      let o : (2 * q + 1 + 1) % 2 ≡ 0 = omega arith in
      rw (and_step (2 * q + 1) (2 * q + 1 + 1), half-odd q, low-odd q, h, o) (omega arith)

-- the trailing ones of s, as the trailing zeros of its complement
module _ (n q : ℕ) where
  half-mask : (2 ^ suc n - 1) / 2 ≡ 2 ^ n - 1
  half-mask = omega (arith, two-pow-succ n, pow_pos n)

  low_mask : (2 ^ suc n - 1) % 2 ≡ 1
  low_mask = omega (arith, two-pow-succ n, pow_pos n)

  pub ones-end : count_trailing_zeros (suc n) (bit_xor (2 * q) (2 ^ suc n - 1)) ≡ 0
  ones-end =
      let e : bit_xor (2 * q) (2 ^ suc n - 1) ≡ 2 * bit_xor q (2 ^ n - 1) + 1 = rw (xor_step (2 * q) (2 ^ suc n - 1), half-even q, low-even q, half-mask, low_mask) (omega arith) in
      rw e (trailing_odd (bit_xor q (2 ^ n - 1)) n)

  pub ones-more : count_trailing_zeros (suc n) (bit_xor (2 * q + 1) (2 ^ suc n - 1)) ≡ suc (count_trailing_zeros n (bit_xor q (2 ^ n - 1)))
  ones-more =
      let e : bit_xor (2 * q + 1) (2 ^ suc n - 1) ≡ 2 * bit_xor q (2 ^ n - 1) = rw (xor_step (2 * q + 1) (2 ^ suc n - 1), half-odd q, low-odd q, half-mask, low_mask) (omega arith) in
      rw e (trailing_even (bit_xor q (2 ^ n - 1)) n)

-- no bits, and bits that are all zero
pub from-none : (i s : ℕ) → places_from 0 i s ≡ []
unfolding places_from
from-none i s = refl

pub from_zero : (n i : ℕ) → places_from n i 0 ≡ []
unfolding places_from
from_zero zero i = refl
from_zero (suc n) i = from_zero n (suc i)
