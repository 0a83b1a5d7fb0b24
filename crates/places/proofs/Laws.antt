-- Laws of the places of a set: how many they are, their order, the lowest and the rest.
-- Assumes nothing.
use Prim.Native.Nat.{ℕ, zero, suc, ◌+◌, ◌-◌, ◌*◌, ◌/◌, ◌%◌, ◌^◌, ◌≤◌, ◌<◌}
use native.Mathlib.Nat.{le_of_suc-le-suc, not-suc-le-zero, le_refl, zero-lt-suc, zero-add, add-zero, one-mul, two-pow-succ, lt_of_lt_of_le}
use native.Mathlib.Omega.{arith}
use mathlib.Core.Path.{◌≡◌, refl, ap, ap₂, sym, ◌∙◌, subst}
use mathlib.Core.Bool.{Bool, true, false, cond}
use mathlib.Core.List.{List, [], ◌∷◌, ◌++◌}
use lib.ListN.{length, get_or, drop}
use lib.Dec.{lit<, eqb}
use lib.Arith.{lt-one}
use lib.Pow.{shl_exact, pow_mono}
use lib.Bits.{bit_and, and_le_r}
use lib.Count.{ones, count_trailing_zeros, trailing_le}
use Rattle.places.specs.Places.{places_from, places}
use Rattle.places.proofs.Bits.{over, cons-none, by_bits, from-even, from-odd, from-none, from_zero, ones-even, ones_odd, trailing_even, trailing_odd, rest-even, rest-odd}

-- ---- lists of numbers that rise

-- every number of l is at least a and below b, and each is above the one before it
abbrev pub Rises : ℕ → ℕ → List ℕ → Type 0
Rises a b [] = Unit {0}
Rises a b (x ∷ l) = (a ≤ x) × (x < b) × Rises (suc x) b l

pub rises-weaken : (a b : ℕ) (l : List ℕ) → Rises (suc a) b l → Rises a b l
rises-weaken a b [] r = tt
rises-weaken a b (x ∷ l) r = (omega (arith, r.0), r.1, r.2)

pub rises-least : (a b : ℕ) (l : List ℕ) (k d : ℕ) → Rises a b l → k < length l → a ≤ get_or l k d
rises-least a b [] k d r h = absurd (not-suc-le-zero h)
rises-least a b (x ∷ l) zero d r h = r.0
rises-least a b (x ∷ l) (suc k) d r h = omega (arith, rises-least (suc x) b l k d r.2 (le_of_suc-le-suc h), r.0)

pub rises-below : (a b : ℕ) (l : List ℕ) (k d : ℕ) → Rises a b l → k < length l → get_or l k d < b
rises-below a b [] k d r h = absurd (not-suc-le-zero h)
rises-below a b (x ∷ l) zero d r h = r.1
rises-below a b (x ∷ l) (suc k) d r h = rises-below (suc x) b l k d r.2 (le_of_suc-le-suc h)

pub rises-at : (a b : ℕ) (l : List ℕ) (j k d : ℕ) → Rises a b l → j < k → k < length l → get_or l j d < get_or l k d
rises-at a b [] j k d r g h = absurd (not-suc-le-zero h)
rises-at a b (x ∷ l) j zero d r g h = absurd (not-suc-le-zero g)
rises-at a b (x ∷ l) zero (suc k) d r g h = rises-least (suc x) b l k d r.2 (le_of_suc-le-suc h)
rises-at a b (x ∷ l) (suc j) (suc k) d r g h = rises-at (suc x) b l j k d r.2 (le_of_suc-le-suc g) (le_of_suc-le-suc h)

-- ---- the places of a set

-- as many as ones
length_from : (n i s : ℕ) → s < 2 ^ n → length (places_from n i s) ≡ ones s
unfolding ones
length_from =
    by_bits (λ n i s. s < 2 ^ n → length (places_from n i s) ≡ ones s)
    (λ i s h. rw (from-none i s) (sym (ap ones (lt-one h))))
    (λ n i q ih h. rw (from-even n i q, ones-even q) (ih (omega arith)))
    (λ n i q ih h. rw (from-odd n i q, ones_odd q) (ap suc (ih (omega arith))))

-- the lowest place
first-from : (n i s : ℕ) → i + count_trailing_zeros n s ≡ get_or (places_from n i s) 0 (i + n)
unfolding count_trailing_zeros
first-from =
    by_bits (λ n i s. i + count_trailing_zeros n s ≡ get_or (places_from n i s) 0 (i + n))
    (λ i s. rw (from-none i s))
    (λ n i q ih. rw (from-even n i q, trailing_even q n, over i n) (omega (arith, ih)))
    (λ n i q ih. rw (from-odd n i q, trailing_odd q n) (add-zero i))

-- without the lowest place
rest_from : (n i s : ℕ) → places_from n i (bit_and s (s - 1)) ≡ drop 1 (places_from n i s)
rest_from =
    by_bits (λ n i s. places_from n i (bit_and s (s - 1)) ≡ drop 1 (places_from n i s))
    (λ i s. rw (from-none i s, from-none i (bit_and s (s - 1))))
    (λ n i q ih. rw (rest-even q, from-even n i q, from-even n i (bit_and q (q - 1))) ih)
    (λ n i q ih. rw (rest-odd q, from-even n i q, from-odd n i q))

-- only the empty set has no place
empty-from : (n i s : ℕ) → s < 2 ^ n → places_from n i s ≡ [] → s ≡ 0
empty-from =
    by_bits (λ n i s. s < 2 ^ n → places_from n i s ≡ [] → s ≡ 0)
    (λ i s h e. lt-one h)
    (λ n i q ih h e. let z : q ≡ 0 = ih (omega arith) (sym (from-even n i q) ∙ e) in omega arith)
    (λ n i q ih h e. let f : i ∷ places_from n (suc i) q ≡ [] = sym (from-odd n i q) ∙ e in absurd (cons-none f))

-- places rise, from the first that is looked at to the last
pub from-rises : (n i s : ℕ) → Rises i (i + n) (places_from n i s)
from-rises =
    by_bits (λ n i s. Rises i (i + n) (places_from n i s))
    (λ i s. rw (from-none i s) tt)
    (λ n i q ih. rw (from-even n i q, over i n) (rises-weaken i (suc i + n) (places_from n (suc i) q) ih))
    (λ n i q ih. rw (from-odd n i q, over i n) (le_refl i, omega arith, ih))

module _ (s : ℕ) where
  -- the places of s rise, and each is below 64
  pub places-rise : Rises 0 64 (places s)
  unfolding places
  places-rise = from-rises 64 0 s

  pub place-lt : (k d : ℕ) → k < length (places s) → get_or (places s) k d < 64
  place-lt k d h = rises-below 0 64 (places s) k d places-rise h

  -- the lowest place, and the set without it
  pub places-first : count_trailing_zeros 64 s ≡ get_or (places s) 0 64
  unfolding places
  places-first = sym (zero-add (count_trailing_zeros 64 s)) ∙ first-from 64 0 s

  pub first-le : get_or (places s) 0 64 ≤ 64
  first-le = rw (← places-first) (trailing_le 64 s)

  pub places-rest : places (bit_and s (s - 1)) ≡ drop 1 (places s)
  unfolding places
  places-rest = rest_from 64 0 s

  pub rest-less : (s ≡ 0 → ⊥) → bit_and s (s - 1) < s
  rest-less h = omega (arith, and_le_r s (s - 1))

  module _ (h : s < 2 ^ 64) where
    pub length-places : length (places s) ≡ ones s
    unfolding places
    length-places = length_from 64 0 s h

    pub places-empty : places s ≡ [] → s ≡ 0
    unfolding places
    places-empty = empty-from 64 0 s h

    -- a set that is not empty is its lowest place and the rest
    pub places-walk : (s ≡ 0 → ⊥) → places s ≡ get_or (places s) 0 64 ∷ drop 1 (places s)
    places-walk n = go (places s) refl
      where
        go : (l : List ℕ) → places s ≡ l → l ≡ get_or l 0 64 ∷ drop 1 l
        go [] e = absurd (n (places-empty e))
        go (x ∷ l) e = refl

    pub first-lt : (s ≡ 0 → ⊥) → get_or (places s) 0 64 < 64
    first-lt n = place-lt 0 64 (subst (λ (l : List ℕ). 0 < length l) (sym (places-walk n)) (zero-lt-suc (length (drop 1 (places s)))))

    -- a step of a walk, as `first` and `rest` say what they give
    pub places-next : (f r : ℕ) → (s ≡ 0 → ⊥) → f ≡ get_or (places s) 0 64 → places r ≡ drop 1 (places s) → places s ≡ f ∷ places r
    places-next f r n p q = places-walk n ∙ ap₂ ◌∷◌ (sym p) (sym q)

-- A SET BELOW 2^n has only places below n
under-step : (m i s n : ℕ) (b : Bool) → Rises (suc i) (suc i + n) (places_from m (suc i) (s / 2))
    → Rises i (i + suc n) (cond b (i ∷ []) [] ++ places_from m (suc i) (s / 2))
under-step m i s n true r = rw (over i n) (le_refl i, omega arith, r)
under-step m i s n false r = rw (over i n) (rises-weaken i (suc i + n) (places_from m (suc i) (s / 2)) r)

from-under : (m i s n : ℕ) → s < 2 ^ n → Rises i (i + n) (places_from m i s)
unfolding places_from
from-under zero i s n h = tt
from-under (suc m) i s zero h = let z : s ≡ 0 = lt-one h in rw (z, from_zero (suc m) i) tt
from-under (suc m) i s (suc n) h = under-step m i s n (eqb (s % 2) 1) (from-under m (suc i) (s / 2) n (omega (arith, two-pow-succ n)))

pub places-under : (s n : ℕ) → s < 2 ^ n → Rises 0 n (places s)
unfolding places
places-under s n h = rw zero-add at (from-under 64 0 s n h)

-- the lowest place of a set that is not empty
pub first_under : (s n : ℕ) → s < 2 ^ n → n ≤ 64 → (s ≡ 0 → ⊥) → get_or (places s) 0 64 < n
first_under s n h k z =
    let f : s < 2 ^ 64 = lt_of_lt_of_le h (pow_mono k) in
    let w = places-walk s f z in
    rises-below 0 n (places s) 0 64 (places-under s n h) (subst (λ (l : List ℕ). 0 < length l) (sym w) (zero-lt-suc (length (drop 1 (places s)))))

pub places-none : places 0 ≡ []
unfolding places
places-none = from_zero 64 0

-- a set is told by its places: it is the sum of the powers of two at them
abbrev pub total : List ℕ → ℕ
total [] = 0
total (p ∷ l) = 2 ^ p + total l

-- a one that is shifted to a place
pub shift_one : (i : ℕ) → i < 64 → 1 * 2 ^ i % 2 ^ 64 ≡ 2 ^ i
shift_one i h = shl_exact 1 i 64 (lit< tt) (omega arith) ∙ one-mul (2 ^ i)
