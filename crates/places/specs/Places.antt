-- Sets of places 0 to 63 as the bits of a number: place i is in the set s exactly if bit i of s is one (document 01, "The election": the 64-bit candidate
-- set, and "List of forms by place": N counted by its ones, places found by trailing zeros).
--   places_from n i s  == the places of the n lowest bits of s that are one, rising, the lowest bit counted as place i
--   places s          == the places of the set s, rising
--   consecutive i l   == how many of l, from the first on, are i, i + 1 and so on
--   lowest_run l       == how long the first run of l is: how many of l, from the first on, are each one more than the one before
--   stretch i n       == the n numbers i, i + 1 and so on
--   set_of bs          == the set of the places whose flag is true: bit i is one exactly if the i-th flag of bs is true
--   picked bs l       == the elements of l whose flag in bs is true, in their order
--   with_place s i     == the set s with the place i; s itself where i is no place, that is, 64 or more
--   without_place s i  == the set s without the place i; s itself where i is not in it
use Rattle.std.specs.Prelude.{ℕ, zero, suc, ◌+◌, ◌-◌, ◌*◌, ◌/◌, ◌%◌, ◌^◌, Bool, cond, ◌&&◌, List, [], ◌∷◌, ◌++◌, ltb, eqb, get_or}
use Rattle.std.specs.Int.Bits.{bit_or}

unfoldable pub places_from : ℕ → ℕ → ℕ → List ℕ
places_from zero i s = []
places_from (suc n) i s = cond (eqb (s % 2) 1) (i ∷ []) [] ++ places_from n (suc i) (s / 2)

unfoldable pub places : ℕ → List ℕ
places s = places_from 64 0 s

unfoldable pub consecutive : ℕ → List ℕ → ℕ
consecutive i [] = 0
consecutive i (x ∷ l) = cond (eqb x i) (suc (consecutive (suc i) l)) 0

abbrev pub lowest_run : List ℕ → ℕ
lowest_run l = consecutive (get_or l 0 64) l

unfoldable pub stretch : ℕ → ℕ → List ℕ
stretch i zero = []
stretch i (suc n) = i ∷ stretch (suc i) n

unfoldable pub set_of : List Bool → ℕ
set_of [] = 0
set_of (b ∷ bs) = cond b 1 0 + 2 * set_of bs

unfoldable pub picked : {A : Type 0} → List Bool → List A → List A
picked [] l = []
picked (b ∷ bs) [] = []
picked (b ∷ bs) (x ∷ l) = cond b (x ∷ []) [] ++ picked bs l

unfoldable pub with_place : ℕ → ℕ → ℕ
with_place s i = cond (ltb i 64) (bit_or s (2 ^ i)) s

unfoldable pub without_place : ℕ → ℕ → ℕ
without_place s i = cond (ltb i 64 && eqb (s / 2 ^ i % 2) 1) (s - 2 ^ i) s
