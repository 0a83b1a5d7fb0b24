-- Laws of `specs/Words.antt`: octets put into a number, the first low, and taken out again. Assumes nothing.
use Prim.Native.Nat.{ℕ, suc, ◌+◌, ◌*◌, ◌/◌, ◌%◌, ◌≤◌, ◌<◌}
use native.Mathlib.Numerals.{add-one}
use native.Mathlib.Omega.{arith}
use mathlib.Core.Path.{◌≡◌, refl, ap, ◌∙◌, sym}
use mathlib.Core.List.{List, [], ◌∷◌}
use lib.ListN.{length, get_or, take, drop, length-drop}
use lib.Seq.{length-take-le}
use Rattle.lists.specs.Lists.{Every}
use Rattle.lists.proofs.Lists.{every_take, every_drop}
use Rattle.octets.specs.Octets.{number_of}
use Rattle.octets.proofs.Laws.{take-elements}
use Rattle.octet_words.specs.Words.{low_first, low_octets}

-- octets put in and taken out again
pub low-back : (s : List ℕ) → Every (λ o. o < 256) s → low_octets (length s) (low_first s) ≡ s
unfolding low_octets low_first Every
low-back [] h = refl
low-back (x ∷ s) h =
    let q : (x + 256 * low_first s) / 256 ≡ low_first s = omega (arith, h.0) in
    let r : (x + 256 * low_first s) % 256 ≡ x = omega (arith, h.0) in
    rw (q, r, low-back s h.1)

-- two and four octets, the first low, as the number of the same in the other order
low-two : (a b : ℕ) → low_first (a ∷ b ∷ []) ≡ number_of (b ∷ a ∷ [])
unfolding low_first number_of
low-two a b = omega arith

low-four : (a b c d : ℕ) → low_first (a ∷ b ∷ c ∷ d ∷ []) ≡ number_of (d ∷ c ∷ b ∷ a ∷ [])
unfolding low_first number_of
low-four a b c d = omega arith

-- the four octets of a word
pub low-four-octets : (x : ℕ) → low_octets 4 x ≡ x % 256 ∷ x / 256 % 256 ∷ x / 65536 % 256 ∷ x / 16777216 % 256 ∷ []
unfolding low_octets
low-four-octets x =
    let b : x / 256 / 256 ≡ x / 65536 = omega arith in
    let c : x / 65536 / 256 ≡ x / 16777216 = omega arith in
    rw (b, c)

-- octets of a run put in and taken out again
pub low_part : (s : List ℕ) (i n : ℕ) → Every (λ o. o < 256) s → i + n ≤ length s → low_octets n (low_first (take n (drop i s))) ≡ take n (drop i s)
low_part s i n o h =
    let part = take n (drop i s) in
    let l : length part ≡ n = length-take-le n (drop i s) (rw length-drop (omega arith)) in
    ap (λ (k : ℕ). low_octets k (low_first part)) (sym l) ∙ low-back part (every_take (λ (x : ℕ). x < 256) n (drop i s) (every_drop (λ (x : ℕ). x < 256) i s o))

-- two and four octets of a run
module _ (i v : ℕ) (s : List ℕ) where
  pub low-two-at : i + 2 ≤ length s → v ≡ number_of (get_or s (i + 1) 0 ∷ get_or s i 0 ∷ []) → v ≡ low_first (take 2 (drop i s))
  low-two-at h q = q ∙ rw add-one (sym (ap low_first (take-elements 2 i s h) ∙ low-two (get_or s i 0) (get_or s (suc i) 0)))

  pub low-four-at : i + 4 ≤ length s → v ≡ number_of (get_or s (i + 3) 0 ∷ get_or s (i + 2) 0 ∷ get_or s (i + 1) 0 ∷ get_or s i 0 ∷ []) → v ≡ low_first (take 4 (drop i s))
  low-four-at h q =
      let two : i + 2 ≡ suc (suc i) = omega arith in
      let three : i + 3 ≡ suc (suc (suc i)) = omega arith in
      q ∙ rw (three, two, add-one) (sym (ap low_first (take-elements 4 i s h) ∙ low-four (get_or s i 0) (get_or s (suc i) 0) (get_or s (suc (suc i)) 0) (get_or s (suc (suc (suc i))) 0)))

-- the same as std reads them
pub low_two_at : (i : ℕ) (s : List ℕ) → i + 2 ≤ length s → low_first (take 2 (drop i s)) ≡ get_or s i 0 + get_or s (i + 1) 0 * 256
unfolding low_first
low_two_at i s h = rw add-one (ap low_first (take-elements 2 i s h) ∙ omega arith)

pub low_four_at : (i : ℕ) (s : List ℕ) → i + 4 ≤ length s → low_first (take 4 (drop i s)) ≡ get_or s i 0 + get_or s (i + 1) 0 * 256 + get_or s (i + 2) 0 * 65536 + get_or s (i + 3) 0 * 16777216
unfolding low_first
low_four_at i s h =
    let two : i + 2 ≡ suc (suc i) = omega arith in
    let three : i + 3 ≡ suc (suc (suc i)) = omega arith in
    rw (three, two, add-one) (ap low_first (take-elements 4 i s h) ∙ omega arith)

pub ruleset low_four_octets = (low-four-octets)
