-- The rows of a run of words, over any width: where they lie, the row at a place, and that an insertion and a removal keep the number of words. Assumes nothing.
use Prim.Native.Nat.{ℕ, zero, suc, ◌+◌, ◌-◌, ◌*◌, ◌≤◌, ◌<◌}
use native.Mathlib.Nat.{add-mul, suc-mul, zero-mul, mul-le-mul_right, add_comm}
use native.Mathlib.Omega.{arith}
use mathlib.Core.Path.{◌≡◌, refl, ap, sym, ◌∙◌}
use mathlib.Core.List.{List, [], map}
use lib.ListN.{length, get_or, take, drop, length-append, length-drop, length-replicate, length-map, get_or-map}
use lib.Seq.{length-take-le, drop-drop}
use Rattle.rows.specs.Rows.{rows_in, row_key, inserted, removed}

-- PLACES OF ROWS, in words
pub words-split : (n at k : ℕ) → at ≤ n → n * k ≡ at * k + (n - at) * k
words-split n at k h = let e : n ≡ at + (n - at) = omega arith in ap (λ (m : ℕ). m * k) e ∙ add-mul at (n - at) k

pub words-le : (n at k : ℕ) → at ≤ n → at * k ≤ n * k
words-le n at k h = mul-le-mul_right k h

pub words_last : (n k : ℕ) → 0 < n → n * k ≡ (n - 1) * k + k
words_last n k h = let e : n ≡ suc (n - 1) = omega arith in ap (λ (m : ℕ). m * k) e ∙ suc-mul (n - 1) k

-- ROWS
-- the row at place i of the words s
abbrev pub row_at : ℕ → List ℕ → ℕ → List ℕ
row_at k s i = take k (drop (i * k) s)

pub row_fits : (k n i : ℕ) → i < n → i * k + k ≤ n * k
row_fits k n i h = omega (arith, suc-mul i k, mul-le-mul_right k h)

module _ (k : ℕ) where
  pub rows-length : (n : ℕ) (s : List ℕ) → length (rows_in k n s) ≡ n
  unfolding rows_in
  rows-length zero s = refl
  rows-length (suc n) s = ap suc (rows-length n (drop k s))

  pub rows_at : (n : ℕ) (s : List ℕ) (i : ℕ) → i < n → get_or (rows_in k n s) i [] ≡ row_at k s i
  unfolding rows_in
  rows_at zero s i h = absurd (omega arith)
  rows_at (suc n) s zero h = rw zero-mul
  rows_at (suc n) s (suc i) h =
      rows_at n (drop k s) i (omega arith)
      ∙ ap (take k) (drop-drop (i * k) k s ∙ ap (λ (p : ℕ). drop p s) (add_comm k (i * k) ∙ sym (suc-mul i k)))

  pub keys_length : (n : ℕ) (s : List ℕ) → length (map row_key (rows_in k n s)) ≡ n
  keys_length n s = length-map (rows_in k n s) row_key ∙ rows-length n s

  -- the key at a place is that of the row there
  pub key-at : (n : ℕ) (s : List ℕ) (i : ℕ) → i < n → get_or (map row_key (rows_in k n s)) i 0 ≡ row_key (row_at k s i)
  unfolding row_key
  key-at n s i h = get_or-map row_key (rows_in k n s) i [] ∙ ap row_key (rows_at n s i h)

-- THE NUMBER OF WORDS after an insertion and a removal
pub length_inserted : (n at : ℕ) (key s : List ℕ) → at ≤ n → n * length key + length key ≤ length s → length (inserted n at key s) ≡ length s
unfolding inserted
length_inserted n at key s h l =
    let k = length key in
    let w = words-split n at k h in
    let a = length-take-le (at * k) s (omega arith) in
    let b = length-take-le ((n - at) * k) (drop (at * k) s) (simp length-drop (omega arith)) in
    simp (length-append, length-drop) (omega arith)

pub length_removed : (k n at : ℕ) (s : List ℕ) → at < n → n * k ≤ length s → length (removed k n at s) ≡ length s
unfolding removed
length_removed k n at s h l =
    let w = words-split (n - 1) at k (omega arith) in
    let v = words_last n k (omega arith) in
    let a = length-take-le (at * k) s (omega arith) in
    let b = length-take-le ((n - 1 - at) * k) (drop (at * k + k) s) (simp length-drop (omega arith)) in
    let z = length-replicate {A = ℕ} k 0 in
    simp (length-append, length-drop) (omega arith)
