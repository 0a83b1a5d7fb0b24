-- Rows of words: n rows of k words each at the start of a run of words. Where rows are searched they rise, high word first, and a row is its own key. No
-- rule of a document stands here: the tables of document 01 and document 02 lie in such rows (document 02, M-104: halve the range).
--   rows_in k n s              == the first n rows of the words s
--   flat l                    == the words of the rows l, one row after the other
--   column k c l              == a column of c places for rows of k words that holds the rows l: their words, then zeros
--   row_key r                  == the number that the words of a row make in base 2^32, high word first
--   head_key k h               == the least key that a row of k words has whose first two words make the number h in base 2^32
--   key_order m n              == how the number m stands to the number n
--   found_in key m l           == the place of the key m in the list l, or the place at which it would stand
--   middle lo hi              == the place in the middle between the places lo and hi
--   looked f m ks lo at hi    == which places between lo and hi a search for the key m compares, where ks are the keys at all places, the next look is at
--                                place `at`, and f is at least hi - lo: none where no place is left; else `at` and, unless it has the key, those of the part after
--                                it or of the part before it, in the middle first
--   Within m l lo hi          == where the rows l rise: those before place lo are below the key m, those from place hi on above it
--   looks_between m ks lo hi   == which places between lo and hi a search for the key m compares, in the middle first
--   first_look first n         == the place of the first look among n: `first`, or the middle where `first` is no place
--   looks_for first m ks       == which places a search for the key m compares, the place `first` before all others
--   opened k n at s           == the words s with the rows from place `at` to place n one row further right, the row `at` itself as it was
--   closed k n at s           == the words s with the rows after place `at` of n rows one row further left, the last row as it was
--   inserted n at row s       == the words s with the row `row` before place `at` of n rows; words after the n + 1 rows stay
--   removed k n at s          == the words s without the row at place `at` of n rows; the last row is zeros, words after the n rows stay
use Rattle.std.specs.Prelude.{ℕ, zero, suc, ◌+◌, ◌-◌, ◌*◌, ◌/◌, ◌^◌, ◌≤◌, ◌<◌, cond, List, [], ◌∷◌, ◌++◌, length, get_or, take, drop, replicate, ltb}
use Rattle.std.proofs.Math.Seq.{paste}
use Rattle.keyed.specs.Keyed.{has, rank}
use Rattle.std.specs.declared.cmp.Ordering.{Ordering}
use Rattle.std.specs.declared.cmp.Ordering.TheVariants.{Less, Equal, Greater}
use Rattle.std.specs.Prelude.{Result, Ok, Err}

unfoldable pub rows_in : ℕ → ℕ → List ℕ → List (List ℕ)
rows_in k zero s = []
rows_in k (suc n) s = take k s ∷ rows_in k n (drop k s)

unfoldable pub flat : List (List ℕ) → List ℕ
flat [] = []
flat (r ∷ l) = r ++ flat l

unfoldable pub column : ℕ → ℕ → List (List ℕ) → List ℕ
column k c l = flat l ++ replicate ((c - length l) * k) 0

unfoldable pub row_key : List ℕ → ℕ
row_key [] = 0
row_key (w ∷ r) = w * 4294967296 ^ length r + row_key r

unfoldable pub head_key : ℕ → ℕ → ℕ
head_key k h = h * 4294967296 ^ (k - 2)

unfoldable pub key_order : ℕ → ℕ → Ordering
key_order m n = cond (ltb m n) Less (cond (ltb n m) Greater Equal)

unfoldable pub found_in : {A : Type 0} → (A → ℕ) → ℕ → List A → Result ℕ ℕ
found_in key m l = cond (has key m l) (Ok (rank key m l)) (Err (rank key m l))

abbrev pub middle : ℕ → ℕ → ℕ
middle lo hi = lo + (hi - lo) / 2

unfoldable pub looked : ℕ → ℕ → List ℕ → ℕ → ℕ → ℕ → List ℕ
looked zero m ks lo at hi = []
looked (suc f) m ks lo at hi =
    cond (ltb lo hi)
    (at
    ∷ cond (ltb (get_or ks at 0) m) (looked f m ks (at + 1) (middle (at + 1) hi) hi)
    (cond (ltb m (get_or ks at 0)) (looked f m ks lo (middle lo at) at)
    []))
    []

abbrev pub Within : ℕ → List (List ℕ) → ℕ → ℕ → Type 0
Within m l lo hi = (lo ≤ rank row_key m l) × (rank row_key m l ≤ hi) × (hi ≤ length l) × (hi < length l → m < row_key (get_or l hi []))

unfoldable pub looks_between : ℕ → List ℕ → ℕ → ℕ → List ℕ
looks_between m ks lo hi = looked (hi - lo) m ks lo (middle lo hi) hi

unfoldable pub first_look : ℕ → ℕ → ℕ
first_look first n = cond (ltb first n) first (middle 0 n)

unfoldable pub looks_for : ℕ → ℕ → List ℕ → List ℕ
looks_for first m ks = looked (length ks) m ks 0 (first_look first (length ks)) (length ks)

unfoldable pub opened : ℕ → ℕ → ℕ → List ℕ → List ℕ
opened k n at s = paste s (at * k + k) (drop (at * k) s) ((n - at) * k)

unfoldable pub closed : ℕ → ℕ → ℕ → List ℕ → List ℕ
closed k n at s = paste s (at * k) (drop (at * k + k) s) ((n - 1 - at) * k)

unfoldable pub inserted : ℕ → ℕ → List ℕ → List ℕ → List ℕ
inserted n at row s =
    let k = length row in
    take (at * k) s ++ row ++ take ((n - at) * k) (drop (at * k) s) ++ drop (n * k + k) s

unfoldable pub removed : ℕ → ℕ → ℕ → List ℕ → List ℕ
removed k n at s =
    take (at * k) s ++ take ((n - 1 - at) * k) (drop (at * k + k) s) ++ replicate k 0 ++ drop (n * k) s
