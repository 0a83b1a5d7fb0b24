-- Laws of the words of a table of A-D routes: reading them gives the routes back, and what a row more and a row less make of them. Assumes nothing.
use Prim.Native.Nat.{ℕ, ◌+◌, ◌-◌, ◌≤◌, ◌<◌}
use native.Mathlib.Omega.{arith}
use mathlib.Core.Path.{◌≡◌, ap, ap₂, ◌∙◌, sym}
use mathlib.Core.List.{List, [], ◌∷◌, ◌++◌}
use lib.ListN.{length, get_or, set, length-append}
use lib.Seq.{drop_at, get_or-drop}
use Rattle.lists.specs.Lists.{Every}
use Rattle.lists.proofs.Lists.{every_in, set-append-add}
use Rattle.address.specs.Address.{IsAddress, ipv4, ipv6}
use Rattle.address.proofs.Laws.{length-address}
use Rattle.keyed.specs.Keyed.{spliced, without_at}
use Rattle.keyed.proofs.Keyed as keyed
use Rattle.rows.specs.Rows.{rows_in, column, inserted, removed}
use Rattle.rows.proofs.Rows.{row_at, rows_at}
use Rattle.rows.proofs.Columns.{Wide, length-column, rows-column, column-inserted, column-removed}
use Rattle.circuit_layout.specs.declared.Scope.{Scope}
use Rattle.circuit_layout.specs.declared.Scope.TheVariants.{Segment, Instance}
use Rattle.circuit_layout.specs.Circuits.{ad_row, AdRoute, CircuitsRight, circuit_words, circuits_in, ValidCircuits}

-- ROUTES are seven words wide
pub length-row : (s : Scope) (a : List ℕ) → length (ad_row s a) ≡ 2 + length a
length-row Segment a = omega arith
length-row (Instance tag) a = omega arith

five-words : (r : List ℕ) → IsAddress r → get_or r 0 0 ∷ get_or r 1 0 ∷ get_or r 2 0 ∷ get_or r 3 0 ∷ get_or r 4 0 ∷ [] ≡ r
five-words r (ipv4 a e) = rw e
five-words r (ipv6 a b c d e) = rw e

-- the words of an address behind a kind and a tag
pub row_of : (s : Scope) (k t : ℕ) (r a : List ℕ) → r ≡ a → IsAddress r → k ∷ t ∷ a ≡ ad_row s a
    → k ∷ t ∷ get_or r 0 0 ∷ get_or r 1 0 ∷ get_or r 2 0 ∷ get_or r 3 0 ∷ get_or r 4 0 ∷ [] ≡ ad_row s a
row_of s k t r a e h q = ap (λ (x : List ℕ). k ∷ t ∷ x) (five-words r h ∙ e) ∙ q

length-route : (r : List ℕ) → AdRoute r → length r ≡ 7
length-route r h = ap length h.row ∙ omega (arith, length-row h.scope h.address, length-address h.address h.right)

wide-routes : (l : List (List ℕ)) → Every AdRoute l → Wide 7 l
unfolding Every
wide-routes [] h = tt
wide-routes (r ∷ l) h = (length-route r h.0, wide-routes l h.1)

-- THE WORDS of the routes l
module _ (l : List (List ℕ)) (short : length l ≤ 256) (wide : Wide 7 l) where
  length-rows : length (column 7 256 l) ≡ 1792
  length-rows = length-column 7 256 l wide short

  length-words : length (circuit_words l) ≡ 1793
  unfolding circuit_words
  length-words = omega (arith, length-append (column 7 256 l) (length l ∷ []), length-rows)

  count_at : get_or (circuit_words l) 1792 0 ≡ length l
  unfolding circuit_words
  count_at = sym (get_or-drop 1792 (column 7 256 l ++ (length l ∷ [])) 0 0) ∙ ap (λ (s : List ℕ). get_or s 0 0) (drop_at (column 7 256 l) (length l ∷ []) 1792 length-rows)

  rows-at-first : rows_in 7 (length l) (circuit_words l) ≡ l
  unfolding circuit_words
  rows-at-first = rows-column 7 256 l (length l ∷ []) wide

  circuits-in : circuits_in (circuit_words l) ≡ l
  unfolding circuits_in
  circuits-in = ap (λ (n : ℕ). rows_in 7 n (circuit_words l)) count_at ∙ rows-at-first

  -- another count
  counted : (n v : ℕ) → set (column 7 256 l ++ (n ∷ [])) 1792 v ≡ column 7 256 l ++ (v ∷ [])
  counted n v = set-append-add (column 7 256 l) (n ∷ []) 1792 0 v length-rows

pub read_back : (l : List (List ℕ)) → CircuitsRight l → circuits_in (circuit_words l) ≡ l
read_back l w = circuits-in l w.short (wide-routes l w.routes)

pub valid-of : (l : List (List ℕ)) → CircuitsRight l → ValidCircuits (circuit_words l)
valid-of l w = record { sound = rw (read_back l w) w; whole = ap circuit_words (sym (read_back l w)) }

-- WORDS THAT ARE A TABLE'S
module _ (b : List ℕ) (h : ValidCircuits b) where
  abbrev pub routes : List (List ℕ)
  routes = circuits_in b

  pub short : length routes ≤ 256
  short = h.sound.short

  wide : Wide 7 routes
  wide = wide-routes routes h.sound.routes

  pub length-valid : length b ≡ 1793
  length-valid = ap length h.whole ∙ length-words routes short wide

  pub count_word : get_or b 1792 0 ≡ length routes
  count_word = ap (λ (s : List ℕ). get_or s 1792 0) h.whole ∙ count_at routes short wide

  pub rows_are : rows_in 7 (length routes) b ≡ routes
  rows_are = ap (rows_in 7 (length routes)) h.whole ∙ rows-at-first routes short wide

  pub route-row : (i : ℕ) → i < length routes → row_at 7 b i ≡ get_or routes i []
  route-row i l = sym (rows_at 7 (length routes) b i l) ∙ ap (λ (s : List (List ℕ)). get_or s i []) rows_are

  pub length_at : (i : ℕ) → i < length routes → length (get_or routes i []) ≡ 7
  length_at i l = every_in _ routes i [] wide l

  parts : b ≡ column 7 256 routes ++ (length routes ∷ [])
  unfolding circuit_words
  parts = h.whole

  -- ONE ROUTE MORE, ONE ROUTE LESS
  pub grown-words : (n at : ℕ) (row g : List ℕ) → n ≡ length routes → length row ≡ 7 → at ≤ length routes → length routes < 256 → g ≡ inserted n at row b
      → set g 1792 (n + 1) ≡ circuit_words (spliced routes at row)
  unfolding circuit_words
  grown-words n at row g z w l s q =
      let more = spliced routes at row in
      let m : length more ≡ n + 1 = keyed.length-spliced routes at row ∙ omega arith in
      let e : g ≡ column 7 256 more ++ (length routes ∷ []) =
      q ∙ ap₂ (λ (k : ℕ) (x : List ℕ). inserted k at row x) z parts ∙ column-inserted 7 256 routes (length routes ∷ []) wide at row w l s in
      ap (λ (x : List ℕ). set x 1792 (n + 1)) e
      ∙ counted more (omega (arith, m)) (keyed.every-spliced _ routes at row wide w) (length routes) (n + 1)
      ∙ ap (λ (k : ℕ). column 7 256 more ++ (k ∷ [])) (sym m)

  pub shrunk-words : (n at : ℕ) (g : List ℕ) → n ≡ length routes → at < length routes → g ≡ removed 7 n at b → set g 1792 (n - 1) ≡ circuit_words (without_at routes at)
  unfolding circuit_words
  shrunk-words n at g z l q =
      let less = without_at routes at in
      let m : length less ≡ n - 1 = omega (arith, keyed.length-without_at routes at l) in
      let e : g ≡ column 7 256 less ++ (length routes ∷ []) =
      q ∙ ap₂ (λ (k : ℕ) (x : List ℕ). removed 7 k at x) z parts ∙ column-removed 7 256 routes (length routes ∷ []) wide at l short in
      ap (λ (x : List ℕ). set x 1792 (n - 1)) e
      ∙ counted less (omega (arith, m, short)) (keyed.every-without_at _ routes at wide) (length routes) (n - 1)
      ∙ ap (λ (k : ℕ). column 7 256 less ++ (k ∷ [])) (sym m)
