-- Laws of sets that are made of flags, and of what they pick from a list.
-- Assumes nothing.
use Prim.Native.Nat.{ℕ, zero, suc, ◌+◌, ◌-◌, ◌*◌, ◌/◌, ◌%◌, ◌^◌, ◌≤◌, ◌<◌, max}
use native.Mathlib.Nat.{le_of_suc-le-suc, not-suc-le-zero, le_refl, zero-add, max-zero, div-one, two-pow-succ, div-add-mod', mul-le-mul_right}
use native.Mathlib.Omega.{arith}
use mathlib.Core.Path.{◌≡◌, refl, ap, sym, ◌∙◌}
use mathlib.Core.Bool.{Bool, true, false, cond}
use mathlib.Core.List.{List, [], ◌∷◌, ◌++◌, map}
use lib.ListN.{length, get_or, set, replicate, length-append, length-map, get_or-map, get_or-eq_default}
use lib.Pow.{pow_pos, shr-shr, high, ones_lt, ones_split}
use lib.Bits.{bit_or, or_step, or_zero_r}
use borrow.Author.Tests.{lt-ltb, le-ltb, eq-eqb, ne_eqb}
use Rattle.places.specs.Places.{places_from, places, set_of, picked, with_place, without_place}
use Rattle.places.proofs.Bits.{half-even, half-odd, low-even, low-odd, over, from-even, from-odd, from_zero}
use Rattle.places.proofs.Laws.{Rises, rises-weaken, rises-below, rises-at}

-- the places of the true flags of bs, counted from i
abbrev pub trues_from : ℕ → List Bool → List ℕ
trues_from i [] = []
trues_from i (b ∷ bs) = cond b (i ∷ []) [] ++ trues_from (suc i) bs

pub set_of-none : set_of [] ≡ 0
unfolding set_of
set_of-none = refl

set_of-false : (bs : List Bool) → set_of (false ∷ bs) ≡ 2 * set_of bs
unfolding set_of
set_of-false bs = omega arith

set_of-true : (bs : List Bool) → set_of (true ∷ bs) ≡ 2 * set_of bs + 1
unfolding set_of
set_of-true bs = omega arith

set_of-half : (b : Bool) (bs : List Bool) → set_of (b ∷ bs) / 2 ≡ set_of bs
set_of-half false bs = rw (set_of-false bs) (half-even (set_of bs))
set_of-half true bs = rw (set_of-true bs) (half-odd (set_of bs))

set_of-low : (b : Bool) (bs : List Bool) → set_of (b ∷ bs) % 2 ≡ cond b 1 0
set_of-low false bs = rw (set_of-false bs) (low-even (set_of bs))
set_of-low true bs = rw (set_of-true bs) (low-odd (set_of bs))

pub set_of-lt : (bs : List Bool) → set_of bs < 2 ^ length bs
set_of-lt [] = rw set_of-none (omega arith)
set_of-lt (false ∷ bs) = rw (set_of-false bs) (omega (arith, set_of-lt bs, two-pow-succ (length bs)))
set_of-lt (true ∷ bs) = rw (set_of-true bs) (omega (arith, set_of-lt bs, two-pow-succ (length bs)))

-- its places are those of the true flags
from-set_of : (n i : ℕ) (bs : List Bool) → length bs ≤ n → places_from n i (set_of bs) ≡ trues_from i bs
from-set_of n i [] h = rw set_of-none (from_zero n i)
from-set_of zero i (b ∷ bs) h = absurd (not-suc-le-zero h)
from-set_of (suc n) i (false ∷ bs) h = rw (set_of-false bs, from-even n i (set_of bs)) (from-set_of n (suc i) bs (le_of_suc-le-suc h))
from-set_of (suc n) i (true ∷ bs) h = rw (set_of-true bs, from-odd n i (set_of bs)) (ap (i ∷◌) (from-set_of n (suc i) bs (le_of_suc-le-suc h)))

pub places-set_of : (bs : List Bool) → length bs ≤ 64 → places (set_of bs) ≡ trues_from 0 bs
unfolding places
places-set_of bs h = from-set_of 64 0 bs h

-- they rise, below the number of flags
trues-rise : (i : ℕ) (bs : List Bool) → Rises i (i + length bs) (trues_from i bs)
trues-rise i [] = tt
trues-rise i (false ∷ bs) = rw (over i (length bs)) (rises-weaken i (suc i + length bs) (trues_from (suc i) bs) (trues-rise (suc i) bs))
trues-rise i (true ∷ bs) = rw (over i (length bs)) (le_refl i, omega arith, trues-rise (suc i) bs)

pub places-set_of-rise : (bs : List Bool) → length bs ≤ 64 → Rises 0 (length bs) (places (set_of bs))
places-set_of-rise bs h = rw (places-set_of bs h) (rw zero-add at (trues-rise 0 bs))

half-shift : (s i : ℕ) → s / 2 ^ suc i ≡ s / 2 / 2 ^ i
half-shift s i = let h : suc i ≡ 1 + i = omega arith in ap (λ (k : ℕ). s / 2 ^ k) h ∙ sym (shr-shr s 1 i)

-- bit i is one exactly if the i-th flag is true
pub bit-set_of : (bs : List Bool) (i : ℕ) → set_of bs / 2 ^ i % 2 ≡ cond (get_or bs i false) 1 0
bit-set_of [] zero = rw set_of-none
bit-set_of [] (suc i) = rw (set_of-none, half-shift 0 i) (rw set_of-none at (bit-set_of [] i))
bit-set_of (b ∷ bs) zero = rw (div-one (set_of (b ∷ bs))) (set_of-low b bs)
bit-set_of (b ∷ bs) (suc i) = rw (half-shift (set_of (b ∷ bs)) i, set_of-half b bs) (bit-set_of bs i)

pub set_of-trues : (n : ℕ) → set_of (replicate n true) ≡ 2 ^ n - 1
set_of-trues zero = set_of-none
set_of-trues (suc n) = rw (set_of-true (replicate n true), set_of-trues n) (omega (arith, pow_pos n))

-- the places below n: all ones, shifted down to n of them
pub ones_below : (n : ℕ) → n ≤ 64 → (2 ^ 64 - 1) / 2 ^ (64 - n) ≡ set_of (replicate n true)
ones_below n h =
    let e : 64 ≡ n + (64 - n) = omega arith in
    ap (λ (m : ℕ). (2 ^ m - 1) / 2 ^ (64 - n)) e
    ∙ ap (λ (m : ℕ). m / 2 ^ (64 - n)) (ones_split n (64 - n))
    ∙ high (2 ^ n - 1) (64 - n) (ones_lt (64 - n))
    ∙ sym (set_of-trues n)

max-one : (b : Bool) → max (cond b 1 0) 1 ≡ 1
max-one false = refl
max-one true = refl

-- a flag that is set
pub set_of-set : (bs : List Bool) (i : ℕ) → i < length bs → bit_or (set_of bs) (2 ^ i) ≡ set_of (set bs i true)
unfolding set_of
set_of-set [] i h = absurd (not-suc-le-zero h)
set_of-set (b ∷ bs) zero h =
    rw (or_step (set_of (b ∷ bs)) 1, set_of-half b bs, set_of-low b bs, or_zero_r (set_of bs), max-one b, set_of-true bs) (omega arith)
set_of-set (b ∷ bs) (suc i) h =
    let e : 2 ^ suc i / 2 ≡ 2 ^ i = omega arith in
    let o : 2 ^ suc i % 2 ≡ 0 = omega arith in
    rw (or_step (set_of (b ∷ bs)) (2 ^ suc i), e, o, set_of-half b bs, set_of-low b bs, set_of-set bs i (le_of_suc-le-suc h), max-zero (cond b 1 0)) (omega arith)

pub with_place-in : (s i : ℕ) → i < 64 → with_place s i ≡ bit_or s (2 ^ i)
unfolding with_place
with_place-in s i h = simp (lt-ltb i 64 h)

pub with_place-set : (bs : List Bool) (i : ℕ) → i < length bs → length bs ≤ 64 → with_place (set_of bs) i ≡ set_of (set bs i true)
with_place-set bs i h k = with_place-in (set_of bs) i (omega arith) ∙ set_of-set bs i h

-- one flag more at the end
pub set_of-last-false : (bs : List Bool) → set_of (bs ++ false ∷ []) ≡ set_of bs
unfolding set_of
set_of-last-false [] = refl
set_of-last-false (b ∷ bs) = rw (set_of-last-false bs)

pub set_of-last-true : (bs : List Bool) (n : ℕ) → length bs ≡ n → n < 64 → with_place (set_of bs) n ≡ set_of (bs ++ true ∷ [])
set_of-last-true bs n e h =
    let l = length-append bs (false ∷ []) in
    ap (λ (s : ℕ). with_place s n) (sym (set_of-last-false bs))
    ∙ with_place-set (bs ++ false ∷ []) n (omega arith) (omega arith)
    ∙ ap set_of (last_set bs n e)
  where
    last_set : (cs : List Bool) (m : ℕ) → length cs ≡ m → set (cs ++ false ∷ []) m true ≡ cs ++ true ∷ []
    last_set [] zero q = refl
    last_set [] (suc m) q = absurd (omega arith)
    last_set (c ∷ cs) zero q = absurd (omega arith)
    last_set (c ∷ cs) (suc m) q = ap (c ∷◌) (last_set cs m (omega arith))

-- a flag that is cleared
set_of-clear : (bs : List Bool) (i : ℕ) → get_or bs i false ≡ true → set_of (set bs i false) + 2 ^ i ≡ set_of bs
set_of-clear [] i h = let z : ◌≡◌ {A = ℕ} 0 1 = cc in absurd (omega arith)
set_of-clear (true ∷ bs) zero h = rw (set_of-false bs, set_of-true bs)
set_of-clear (false ∷ bs) zero h = let z : ◌≡◌ {A = ℕ} 0 1 = cc in absurd (omega arith)
set_of-clear (true ∷ bs) (suc i) h = rw (set_of-true bs, set_of-true (set bs i false)) (omega (arith, set_of-clear bs i h, two-pow-succ i))
set_of-clear (false ∷ bs) (suc i) h = rw (set_of-false bs, set_of-false (set bs i false)) (omega (arith, set_of-clear bs i h, two-pow-succ i))

module _ (s i : ℕ) where
  pub without_place-out : 64 ≤ i → without_place s i ≡ s
  unfolding without_place
  without_place-out h = rw (le-ltb i 64 h)

  pub without_place-none : i < 64 → (s / 2 ^ i % 2 ≡ 1 → ⊥) → without_place s i ≡ s
  unfolding without_place
  without_place-none h n = rw (lt-ltb i 64 h, ne_eqb (s / 2 ^ i % 2) 1 n)

  pub without_place-one : i < 64 → s / 2 ^ i % 2 ≡ 1 → without_place s i ≡ s - 2 ^ i
  unfolding without_place
  without_place-one h e = rw (lt-ltb i 64 h, eq-eqb (s / 2 ^ i % 2) 1 e)

  -- a bit that is one is part of the number
  pub bit-there : s / 2 ^ i % 2 ≡ 1 → 2 ^ i ≤ s
  bit-there e =
      let q : 1 ≤ s / 2 ^ i = omega arith in
      omega (arith, div-add-mod' s (2 ^ i), mul-le-mul_right (2 ^ i) q)

-- a place that is in the set can be taken from it
pub ruleset one_less = (bit-there, pow_pos)

pub without_place-set : (bs : List Bool) (i : ℕ) → i < 64 → get_or bs i false ≡ true → without_place (set_of bs) i ≡ set_of (set bs i false)
unfolding without_place
without_place-set bs i h q =
    let b : set_of bs / 2 ^ i % 2 ≡ 1 = bit-set_of bs i ∙ rw q in
    rw (lt-ltb i 64 h, b) (omega (arith, set_of-clear bs i q))

-- ---- what a set picks from a list

module _ {A : Type 0} where
  map-trues_from : (f : ℕ → A) (i : ℕ) (bs : List Bool) → map f (trues_from (suc i) bs) ≡ map (λ (j : ℕ). f (suc j)) (trues_from i bs)
  map-trues_from f i [] = refl
  map-trues_from f i (false ∷ bs) = map-trues_from f (suc i) bs
  map-trues_from f i (true ∷ bs) = ap (f (suc i) ∷◌) (map-trues_from f (suc i) bs)

  picked-trues : (bs : List Bool) (l : List A) (d : A) → length l ≡ length bs → map (λ (i : ℕ). get_or l i d) (trues_from 0 bs) ≡ picked bs l
  unfolding picked
  picked-trues [] l d h = refl
  picked-trues (b ∷ bs) [] d h = absurd (omega arith)
  picked-trues (false ∷ bs) (x ∷ l) d h = map-trues_from (λ (i : ℕ). get_or (x ∷ l) i d) 0 bs ∙ picked-trues bs l d (omega arith)
  picked-trues (true ∷ bs) (x ∷ l) d h = ap (x ∷◌) (map-trues_from (λ (i : ℕ). get_or (x ∷ l) i d) 0 bs ∙ picked-trues bs l d (omega arith))

  module _ (bs : List Bool) (l : List A) (d : A) (h : length l ≡ length bs) (k : length bs ≤ 64) where
    -- the elements at the places of the set are those that the flags pick
    pub picked-places : map (λ (i : ℕ). get_or l i d) (places (set_of bs)) ≡ picked bs l
    picked-places = rw (places-set_of bs k) (picked-trues bs l d h)

    -- one by one, and none past the last
    pub picked-at : (j : ℕ) → get_or (picked bs l) j d ≡ get_or l (get_or (places (set_of bs)) j 64) d
    picked-at j =
        let f : ℕ → A = λ (i : ℕ). get_or l i d in
        let out : get_or l 64 d ≡ d = get_or-eq_default l d (omega arith) in
        ap (λ (m : List A). get_or m j d) (sym picked-places)
        ∙ ap (λ (e : A). get_or (map f (places (set_of bs))) j e) (sym out)
        ∙ get_or-map f (places (set_of bs)) j 64

    -- what holds of any two elements of the list in their order holds of any two that are picked
    pub picked-pairs : (R : A → A → Type 0) → ((i j : ℕ) → i < j → j < length l → R (get_or l i d) (get_or l j d))
        → (i j : ℕ) → i < j → j < length (picked bs l) → R (get_or (picked bs l) i d) (get_or (picked bs l) j d)
    picked-pairs R r i j g m =
        let ps = places (set_of bs) in
        let rise : Rises 0 (length bs) ps = places-set_of-rise bs k in
        let short : j < length ps = omega (arith, ap length picked-places, length-map ps (λ (i : ℕ). get_or l i d)) in
        rw (picked-at i, picked-at j)
        (r (get_or ps i 64) (get_or ps j 64) (rises-at 0 (length bs) ps i j 64 rise g short) (omega (arith, rises-below 0 (length bs) ps j 64 rise short)))

  -- where every flag is true all is picked, and what is picked is always from the list
  pub picked_all : (l : List A) → picked (replicate (length l) true) l ≡ l
  unfolding picked
  picked_all [] = refl
  picked_all (x ∷ l) = ap (x ∷◌) (picked_all l)
