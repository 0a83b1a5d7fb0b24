-- What the stores into a table's words make of the table: an entry's attributes replaced, an entry put in or taken out. Assumes nothing.
use Prim.Native.Nat.{ℕ, ◌+◌, ◌-◌, ◌*◌, ◌/◌, ◌%◌, ◌≤◌, ◌<◌}
use native.Mathlib.Omega.{arith}
use mathlib.Core.Path.{◌≡◌, refl, ap, ap₂, ◌∙◌, sym}
use mathlib.Core.List.{List, [], ◌∷◌, ◌++◌, append-nil}
use lib.ListN.{length, get_or, take, drop, set, length-drop, length-map, length-set, drop_of_length-le}
use lib.Seq.{map-set_same, take_at, drop_at, take_all}
use borrow.Rule.Slice.PartMut.{put_mid, same_len_mid}
use lib.Dec.{eqb}
use Rattle.lists.specs.Lists.{bit}
use Rattle.lists.proofs.Bools.{bit-eqb}
use Rattle.lists.proofs.Lists.{set-append-add, map-set}
use Rattle.keyed.specs.Keyed.{spliced, without_at}
use Rattle.keyed.proofs.Keyed as keyed
use Rattle.rows.specs.Rows.{column, inserted, removed}
use Rattle.rows.proofs.Columns.{Wide, length-column, column-inserted, column-removed, column-set}
use Rattle.layout.specs.Table.{Entry, no_entry, table_of}
use Rattle.layout.specs.Words.{kind_of, standing_of, attributes_of, address_column, attribute_column, entry_in, identifier_words, words_of}
use Rattle.layout.proofs.Words.{wide-attributes}

-- A PART that goes on to the end
pub part-all : (g : List ℕ) → take (length g - 320) (drop 320 g) ≡ drop 320 g
part-all g = take_all (length g - 320) (drop 320 g) (omega (arith, length-drop 320 g))

put_all : (g d : List ℕ) → put_mid 320 (length g - 320) g d ≡ take 320 g ++ d
put_all g d =
    let e : drop (length g - 320) (drop 320 g) ≡ [] = drop_of_length-le (drop 320 g) {i = length g - 320} (omega (arith, length-drop 320 g)) in
    rw e (ap (take 320 g ++◌) (append-nil d))

pub put-length : (g d : List ℕ) → 320 ≤ length g → length d ≡ length (take (length g - 320) (drop 320 g)) → length (put_mid 320 (length g - 320) g d) ≡ length g
put-length g d h n = same_len_mid 320 (length g - 320) g d n

-- AN ENTRY of any words
attributes-back : (r : List ℕ) (w : ℕ) → attributes_of (entry_in r (w ∷ [])) ≡ w
unfolding attributes_of kind_of standing_of entry_in
attributes-back r w =
    let c : bit (eqb (w / 131072 % 2) 1) ≡ w / 131072 % 2 = bit-eqb (w / 131072 % 2) (omega arith) in
    let d : bit (eqb (w % 131072 % 2) 1) ≡ w % 131072 % 2 = bit-eqb (w % 131072 % 2) (omega arith) in
    let k : w / 131072 / 2 * 2 + w / 131072 % 2 ≡ w / 131072 = omega arith in
    let l : w % 131072 / 2 * 2 + w % 131072 % 2 ≡ w % 131072 = omega arith in
    rw (c, d, k, l) (omega arith)

address-back : (r w : List ℕ) → (entry_in r w).address ≡ r
unfolding entry_in
address-back r w = refl

-- THE WORDS b of a table of the identifier i with the entries es
module _ (b i : List ℕ) (es : List Entry) (short : length es ≤ 64) (wide : Wide 5 (address_column es)) (whole : b ≡ words_of (table_of i es)) where
  abbrev row_of : Entry → List ℕ
  row_of e = e.address

  abbrev word_of : Entry → List ℕ
  word_of e = attributes_of e ∷ []

  abbrev tail : ℕ → List ℕ
  tail n = n ∷ identifier_words i

  -- the two columns and what follows them
  abbrev Parts : List ℕ → List Entry → List Entry → ℕ → Type 0
  Parts g l m n = g ≡ column 5 64 (address_column l) ++ (column 1 64 (attribute_column m) ++ tail n)

  parts : Parts b es es (length es)
  unfolding words_of
  parts = whole

  length-first : (l : List Entry) → Wide 5 (address_column l) → length l ≤ 64 → length (column 5 64 (address_column l)) ≡ 320
  length-first l f s = length-column 5 64 (address_column l) f (omega (arith, length-map l row_of))

  length-second : (l : List Entry) → length l ≤ 64 → length (column 1 64 (attribute_column l)) ≡ 64
  length-second l s = length-column 1 64 (attribute_column l) (wide-attributes l) (omega (arith, length-map l word_of))

  -- the part behind the addresses
  behind : (g : List ℕ) (l m : List Entry) (n : ℕ) → Wide 5 (address_column l) → length l ≤ 64 → Parts g l m n → drop 320 g ≡ column 1 64 (attribute_column m) ++ tail n
  behind g l m n f s e = ap (drop 320) e ∙ drop_at (column 5 64 (address_column l)) _ 320 (length-first l f s)

  before : (g : List ℕ) (l m : List Entry) (n : ℕ) → Wide 5 (address_column l) → length l ≤ 64 → Parts g l m n → take 320 g ≡ column 5 64 (address_column l)
  before g l m n f s e = ap (take 320) e ∙ take_at (column 5 64 (address_column l)) _ 320 (length-first l f s)

  -- another count
  counted : (l m : List Entry) (n v : ℕ) → Wide 5 (address_column l) → length l ≤ 64 → length m ≤ 64 → set (column 5 64 (address_column l) ++ (column 1 64 (attribute_column m) ++ tail n)) 384 v ≡ column 5 64 (address_column l) ++ (column 1 64 (attribute_column m) ++ tail v)
  counted l m n v f s q =
      set-append-add (column 5 64 (address_column l)) _ 320 64 v (length-first l f s)
      ∙ ap (column 5 64 (address_column l) ++◌) (set-append-add (column 1 64 (attribute_column m)) (tail n) 64 0 v (length-second m q))

  -- OTHER ATTRIBUTES
  pub replaced-words : (at w : ℕ) → at < length es → set b (320 + at) w ≡ words_of (table_of i (set es at (entry_in (row_of (get_or es at no_entry)) (w ∷ []))))
  unfolding words_of
  replaced-words at w l =
      let e = entry_in (row_of (get_or es at no_entry)) (w ∷ []) in
      ap (λ (g : List ℕ). set g (320 + at) w) parts
      ∙ set-append-add (column 5 64 (address_column es)) _ 320 at w (length-first es wide short)
      ∙ ap (column 5 64 (address_column es) ++◌) (column-set 64 (attribute_column es) (tail (length es)) at w (wide-attributes es) (omega (arith, length-map es word_of)))
      ∙ sym (rw (length-set es at e, map-set_same row_of es at e no_entry (address-back (get_or es at no_entry).address (w ∷ [])), map-set word_of es at e, attributes-back (row_of (get_or es at no_entry)) w))

  -- ONE ENTRY MORE
  module _ (at : ℕ) (a : List ℕ) (w : ℕ) (width : length a ≡ 5) (l : at ≤ length es) (s : length es < 64) where
    abbrev e : Entry
    e = entry_in a (w ∷ [])

    abbrev more : List Entry
    more = spliced es at e

    length_more : length more ≡ length es + 1
    length_more = keyed.length-spliced es at e ∙ omega arith

    wide-more : Wide 5 (address_column more)
    wide-more = rw (keyed.map-spliced row_of es at e, address-back a (w ∷ [])) (keyed.every-spliced _ (address_column es) at a wide width)

    first-grown : (row g : List ℕ) → row ≡ a → g ≡ inserted (length es) at row b → Parts g more es (length es)
    first-grown row g k q =
        let n = length-map es row_of in
        q ∙ rw (k, parts, ← n)
        (column-inserted 5 64 (address_column es) _ wide at a width (omega (arith, n)) (omega (arith, n))
        ∙ ap (λ (c : List (List ℕ)). column 5 64 c ++ (column 1 64 (attribute_column es) ++ tail (length (address_column es)))) (sym (keyed.map-spliced row_of es at e ∙ ap (λ (x : List ℕ). spliced (address_column es) at x) (address-back a (w ∷ [])))))

    second-grown : (g d : List ℕ) → Parts g more es (length es) → d ≡ inserted (length es) at (w ∷ []) (drop 320 g)
        → set (take 320 g ++ d) 384 (length es + 1) ≡ words_of (table_of i more)
    unfolding words_of
    second-grown g d p q =
        let n = length-map es word_of in
        let m : length more ≤ 64 = omega (arith, length_more) in
        let v : d ≡ column 1 64 (attribute_column more) ++ tail (length es) =
        q ∙ rw (behind g more es (length es) wide-more m p, ← n)
        (column-inserted 1 64 (attribute_column es) (tail (length (attribute_column es))) (wide-attributes es) at (w ∷ []) refl (omega (arith, n)) (omega (arith, n))
        ∙ ap (λ (c : List (List ℕ)). column 1 64 c ++ tail (length (attribute_column es))) (sym (keyed.map-spliced word_of es at e ∙ ap (λ (x : ℕ). spliced (attribute_column es) at (x ∷ [])) (attributes-back a w)))) in
        rw (before g more es (length es) wide-more m p, v, counted more more (length es) (length es + 1) wide-more m m, length_more)

    pub grown-words : (n : ℕ) (row g d : List ℕ) → n ≡ length es → row ≡ a → g ≡ inserted n at row b → d ≡ inserted n at (w ∷ []) (take (length g - 320) (drop 320 g))
        → set (put_mid 320 (length g - 320) g d) 384 (n + 1) ≡ words_of (table_of i more)
    grown-words n row g d z k q r =
        ap₂ (λ (x : List ℕ) (m : ℕ). set x 384 (m + 1)) (put_all g d) z
        ∙ second-grown g d (first-grown row g k (q ∙ ap (λ (m : ℕ). inserted m at row b) z)) (r ∙ ap₂ (λ (m : ℕ) (x : List ℕ). inserted m at (w ∷ []) x) z (part-all g))

  -- ONE ENTRY LESS
  module _ (at : ℕ) (l : at < length es) where
    abbrev less : List Entry
    less = without_at es at

    length-less : length less ≡ length es - 1
    length-less = omega (arith, keyed.length-without_at es at l)

    wide-less : Wide 5 (address_column less)
    wide-less = rw (keyed.map-without_at row_of es at) (keyed.every-without_at _ (address_column es) at wide)

    first-shrunk : (g : List ℕ) → g ≡ removed 5 (length es) at b → Parts g less es (length es)
    first-shrunk g q =
        let n = length-map es row_of in
        q ∙ rw (parts, ← n)
        (column-removed 5 64 (address_column es) _ wide at (omega (arith, n)) (omega (arith, n, short))
        ∙ ap (λ (c : List (List ℕ)). column 5 64 c ++ (column 1 64 (attribute_column es) ++ tail (length (address_column es)))) (sym (keyed.map-without_at row_of es at)))

    second-shrunk : (g d : List ℕ) → Parts g less es (length es) → d ≡ removed 1 (length es) at (drop 320 g)
        → set (take 320 g ++ d) 384 (length es - 1) ≡ words_of (table_of i less)
    unfolding words_of
    second-shrunk g d p q =
        let n = length-map es word_of in
        let m : length less ≤ 64 = omega (arith, length-less, short) in
        let v : d ≡ column 1 64 (attribute_column less) ++ tail (length es) =
        q ∙ rw (behind g less es (length es) wide-less m p, ← n)
        (column-removed 1 64 (attribute_column es) (tail (length (attribute_column es))) (wide-attributes es) at (omega (arith, n)) (omega (arith, n, short))
        ∙ ap (λ (c : List (List ℕ)). column 1 64 c ++ tail (length (attribute_column es))) (sym (keyed.map-without_at word_of es at))) in
        rw (before g less es (length es) wide-less m p, v, counted less less (length es) (length es - 1) wide-less m m, length-less)

    pub shrunk-words : (n : ℕ) (g d : List ℕ) → n ≡ length es → g ≡ removed 5 n at b → d ≡ removed 1 n at (take (length g - 320) (drop 320 g))
        → set (put_mid 320 (length g - 320) g d) 384 (n - 1) ≡ words_of (table_of i less)
    shrunk-words n g d z q r =
        ap₂ (λ (x : List ℕ) (m : ℕ). set x 384 (m - 1)) (put_all g d) z
        ∙ second-shrunk g d (first-shrunk g (q ∙ ap (λ (m : ℕ). removed 5 m at b) z)) (r ∙ ap₂ (λ (m : ℕ) (x : List ℕ). removed 1 m at x) z (part-all g))
