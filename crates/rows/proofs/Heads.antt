-- Rows by their first two words: where a row starts below a head its key is below the head's, and else it is not. Assumes nothing.
use Prim.Native.Nat.{ℕ, suc, ◌+◌, ◌-◌, ◌*◌, ◌/◌, ◌%◌, ◌^◌, ◌≤◌, ◌<◌}
use native.Mathlib.Nat.{mul-le-mul_right, suc-mul, one-mul, div-add-mod', add-mul-mod_self_right, add-mul-div_right}
use native.Mathlib.Omega.{arith}
use mathlib.Core.Path.{◌≡◌, refl, ap, sym, ◌∙◌}
use mathlib.Core.List.{List, [], ◌∷◌}
use lib.ListN.{length, get_or, drop, length-drop}
use lib.Seq.{length-take-le, get_or-take, get_or-drop}
use Rattle.lists.proofs.Numbers.{either}
use Rattle.keyed.specs.Keyed.{Rising, rank}
use Rattle.keyed.proofs.Keyed.{rank_below, rank-above}
use Rattle.rows.specs.Rows.{rows_in, row_key, head_key}
use Rattle.rows.proofs.Compared.{Words, key-lt, key-append, words-part}
use Rattle.rows.proofs.Rows.{row_at, row_fits, rows-length, rows_at}

-- the head of a row, and what is behind it
split : (r : List ℕ) → 2 ≤ length r → Words r → (b : ℕ) → b ≡ row_key (drop 2 r)
    → (row_key r ≡ (get_or r 0 0 * 4294967296 + get_or r 1 0) * 4294967296 ^ (length r - 2) + b) × (b < 4294967296 ^ (length r - 2))
unfolding row_key
split [] h o b e = absurd (omega arith)
split (x ∷ []) h o b e = absurd (omega arith)
split (x ∷ y ∷ r) h o b e =
    let n : length (x ∷ y ∷ r) - 2 ≡ length r = omega arith in
    let k : row_key (x ∷ y ∷ r) ≡ row_key (x ∷ y ∷ []) * 4294967296 ^ length r + row_key r = key-append (x ∷ y ∷ []) r in
    let two : row_key (x ∷ y ∷ []) ≡ x * 4294967296 + y = omega arith in
    rw (n, e) (k ∙ ap (λ (w : ℕ). w * 4294967296 ^ length r + row_key r) two, key-lt r (λ i. o (suc (suc i))))

module _ (k n h : ℕ) (s : List ℕ) (two : 2 ≤ k) (fits : n * k ≤ length s) (words : Words s) (i : ℕ) (used : i < n) where
  abbrev row : List ℕ
  row = row_at k s i

  abbrev head : ℕ
  head = get_or s (i * k) 0 * 4294967296 + get_or s (i * k + 1) 0

  wide : length row ≡ k
  wide = length-take-le k (drop (i * k) s) (rw length-drop (omega (arith, row_fits k n i used)))

  first : get_or row 0 0 ≡ get_or s (i * k) 0
  first = get_or-take k (drop (i * k) s) 0 0 (omega arith) ∙ get_or-drop (i * k) s 0 0 ∙ ap (λ (j : ℕ). get_or s j 0) (omega arith)

  second : get_or row 1 0 ≡ get_or s (i * k + 1) 0
  second = get_or-take k (drop (i * k) s) 1 0 (omega arith) ∙ get_or-drop (i * k) s 1 0

  parts : (row_key row ≡ head * 4294967296 ^ (k - 2) + row_key (drop 2 row)) × (row_key (drop 2 row) < 4294967296 ^ (k - 2))
  parts = rw (wide, first, second) at (split row (rw wide two) (words-part k (i * k) s words) (row_key (drop 2 row)) refl)

  below : head < h → row_key row < head_key k h
  unfolding head_key
  below l = omega (arith, parts.0, parts.1, suc-mul head (4294967296 ^ (k - 2)), mul-le-mul_right (4294967296 ^ (k - 2)) l)

  not-below : h ≤ head → head_key k h ≤ row_key row
  unfolding head_key
  not-below l = omega (arith, parts.0, mul-le-mul_right (4294967296 ^ (k - 2)) l)

  place : get_or (rows_in k n s) i [] ≡ row
  place = rows_at k n s i used

  pub passed : Rising row_key 0 (rows_in k n s) → head < h → i < rank row_key (head_key k h) (rows_in k n s)
  passed r l = rank-above row_key (head_key k h) (rows_in k n s) 0 i [] r (rw rows-length used) (rw place (below l))

  pub not-passed : h ≤ head → rank row_key (head_key k h) (rows_in k n s) ≤ i
  not-passed l = rank_below row_key (head_key k h) (rows_in k n s) i [] (rw rows-length used) (rw place (not-below l))

-- WHOLE ROWS of k words before a word, which are w / k
module _ (k w : ℕ) (whole : w % k ≡ 0) where
  pub split-words : w ≡ w / k * k
  split-words = sym (div-add-mod' w k) ∙ ap (λ (z : ℕ). w / k * k + z) whole ∙ omega arith

  pub whole-rows : 0 < w / k → k ≤ w
  whole-rows h = omega (arith, split-words, mul-le-mul_right k h, one-mul k)

  pub row_before : 2 ≤ k → 0 < w / k → w - k ≡ (w / k - 1) * k
  row_before two h =
      let e : w / k ≡ suc (w / k - 1) = omega arith in
      omega (arith, split-words, ap (λ (q : ℕ). q * k) e, suc-mul (w / k - 1) k)

  pub rows-over : (n : ℕ) → 2 ≤ k → n * k < w → n < w / k
  rows-over n two h = either n (w / k) (λ g. g) (λ g. absurd (omega (arith, split-words, mul-le-mul_right k g)))

  pub rows-within : (n : ℕ) → 2 ≤ k → w ≤ n * k → w / k ≤ n
  rows-within n two h = either n (w / k) (λ g. absurd (omega (arith, split-words, suc-mul n k, mul-le-mul_right k g))) (λ g. g)

-- so many rows more
pub more_rows : (k w c : ℕ) → 2 ≤ k → w % k ≡ 0 → ((w + c * k) % k ≡ 0) × ((w + c * k) / k ≡ w / k + c)
more_rows k w c two h = (add-mul-mod_self_right w c k ∙ h, add-mul-div_right w c {z = k} (omega arith))
