-- What a search among the rows of a table says of its entries, and how an entry stands to a row of a ready list. Assumes nothing.
use Prim.Native.Nat.{ℕ, ◌+◌, ◌*◌, ◌≤◌, ◌<◌}
use native.Mathlib.Omega.{arith}
use mathlib.Core.Path.{◌≡◌, refl, ap, ap₂, sym, ◌∙◌}
use mathlib.Core.Logic.{⊎_elim, inl, inr}
use mathlib.Core.List.{List, [], ◌∷◌, ◌++◌, map}
use lib.ListN.{length, length-map, length-drop, get_or, take, drop, get_or-append}
use lib.Seq.{length-take-le, drop_at, take-add, drop-drop, get_or-take}
use Rattle.lists.proofs.Lists.{every_in, get_d-map-in}
use Rattle.lists.proofs.Numbers.{either}
use Rattle.address.specs.Address.{address_key, IsAddress, listed_in, NamesAddress}
use Rattle.address.proofs.Laws.{words-four, key_row, key-injective, length-address, names-address, tail-four, zero-lowest, listed-neither, parts-four, parts-six}
use Rattle.keyed.specs.Keyed.{Rising, rank}
use Rattle.keyed.proofs.Keyed as keyed
use Rattle.rows.specs.Rows.{rows_in, row_key, key_order, found_in, Within, looks_between, looks_for}
use Rattle.std.specs.declared.cmp.Ordering.{Ordering}
use Rattle.std.specs.declared.cmp.Ordering.TheVariants.{Equal}
use Rattle.std.specs.Prelude.{Result, Ok, Err}
use Rattle.rows.proofs.Looks.{few-looks, few-between, for-at, for-middle, left-none}
use Rattle.rows.proofs.Compared.{Words, words-part, is_same, order_same, first_difference, order-parts}
use Rattle.rows.proofs.Outcomes.{within_all}
use Rattle.rows.proofs.Places.{look-here, look-more, look_none}
use Rattle.layout.specs.Table.{Entry, entry_key, no_entry, AddressRight}
use Rattle.layout.specs.Words.{table_in, Valid}
use Rattle.layout.proofs.Words.{length-valid, rows-addresses, rising-rows, address-row}

abbrev row_of : Entry → List ℕ
row_of e = e.address

found_rows : (k : ℕ) (l : List Entry) → found_in row_key k (map row_of l) ≡ found_in entry_key k l
unfolding found_in
found_rows k l = rw (keyed.map-has row_of entry_key row_key (λ e. key_row e.address) k l, keyed.map-rank row_of entry_key row_key (λ e. key_row e.address) k l)

-- THE ROWS of a table and the row of an address
module _ (b row : List ℕ) (n : ℕ) (a : List ℕ) (h : Valid b) (z : n ≡ length (table_in b).entries) (k : row ≡ a) (g : IsAddress row) where
  abbrev es : List Entry
  es = (table_in b).entries

  width : length row ≡ 5
  width = length-address row g

  rows_are : rows_in (length row) n b ≡ map row_of es
  rows_are = ap₂ (λ (w m : ℕ). rows_in w m b) width z ∙ rows-addresses b h

  key : row_key row ≡ address_key a
  key = ap row_key k ∙ key_row a

  keys : map row_key (rows_in (length row) n b) ≡ map entry_key es
  keys = ap (map row_key) rows_are ∙ keyed.map_keys row_of entry_key row_key (λ e. key_row e.address) es

  short : length (map entry_key es) ≤ 64
  short = omega (arith, h.sound.short, length-map es entry_key)

  pub fits : n * length row ≤ length b
  fits = rw width (omega (arith, h.sound.short, length-valid b h))

  pub rise : Rising row_key 0 (rows_in (length row) n b)
  rise = rw (width, z) (rising-rows b h)

  pub whole : Within (row_key row) (rows_in (length row) n b) 0 n
  whole = within_all (length row) n (row_key row) b

  -- how the row at a place stands is how the entry there does
  pub order-there : (i at : ℕ) → i < n → at ≡ i * length row → key_order (row_key (take (length row) (drop at b))) (row_key row) ≡ key_order (entry_key (get_or es i no_entry)) (address_key a)
  order-there i at l e =
      let there : take (length row) (drop at b) ≡ (get_or es i no_entry).address = rw (e, width) (address-row b h i (omega arith)) in
      ap₂ key_order (ap row_key there ∙ key_row _) key

  pub found-told : (f : Result ℕ ℕ) → f ≡ found_in row_key (row_key row) (rows_in (length row) n b) → f ≡ found_in entry_key (address_key a) es
  found-told f p = p ∙ ap₂ (λ (m : ℕ) (l : List (List ℕ)). found_in row_key m l) key rows_are ∙ found_rows (address_key a) es

  pub between-told : (d : ℕ) → d ≡ length (looks_between (row_key row) (map row_key (rows_in (length row) n b)) 0 n)
      → (d ≡ length (looks_between (address_key a) (map entry_key es) 0 (length es))) × (d ≤ 7)
  between-told d q =
      let looks : d ≡ length (looks_between (address_key a) (map entry_key es) 0 (length es)) = q ∙ rw (key, keys, z) in
      (looks, omega (arith, few-between (address_key a) (map entry_key es) 7 0 (length es) (omega (arith, h.sound.short)), looks))

  pub for-told : (first d : ℕ) → d ≡ length (looks_for first (row_key row) (map row_key (rows_in (length row) n b)))
      → (d ≡ length (looks_for first (address_key a) (map entry_key es))) × (d ≤ 7)
  for-told first d q =
      let looks : d ≡ length (looks_for first (address_key a) (map entry_key es)) = q ∙ ap₂ (λ (m : ℕ) (ks : List ℕ). length (looks_for first m ks)) key keys in
      (looks, omega (arith, few-looks (address_key a) (map entry_key es) first 6 short, looks))

-- THE FIRST LOOK, in the middle where no place in use is proposed, or at an entry that has the key
pub first-none : (es : List Entry) (m first : ℕ) → length es ≤ first → looks_for first m (map entry_key es) ≡ looks_between m (map entry_key es) 0 (length es)
first-none es m first h =
    let n = length-map es entry_key in
    for-middle m (map entry_key es) first (omega (arith, n)) ∙ ap (looks_between m (map entry_key es) 0) n

pub first-hit : (es : List Entry) (m first : ℕ) → Rising entry_key 1 es → first < length es → entry_key (get_or es first no_entry) ≡ m
    → (Ok first ≡ found_in entry_key m es) × (1 ≡ length (looks_for first m (map entry_key es)))
first-hit es m first r h q =
    let ks = map entry_key es in
    let n : length ks ≡ length es = length-map es entry_key in
    let here : get_or ks first 0 ≡ m = get_d-map-in entry_key es first 0 no_entry h ∙ q in
    (look-here entry_key m es 1 no_entry r first h q, sym (ap length (for-at m ks first (omega (arith, n)) ∙ left-none m ks (length ks) 0 first (length ks) (omega arith) (omega (arith, n)) (omega arith) here)))

-- A ROW OF A READY LIST and the entry at a place
pub record Beside (b : List ℕ) (i : ℕ) (row : List ℕ) : Type 0 where
  pub valid : Valid b
  pub used : i < length (table_in b).entries
  pub words : Words b
  pub five : length row ≡ 5
  pub row_words : Words row

-- how the entry stands to the address that the row names
abbrev asked : List ℕ → ℕ → List ℕ → Ordering
asked b i row = key_order (entry_key (get_or (table_in b).entries i no_entry)) (address_key (listed_in row))

-- the family and the first word are compared, then the three others
module _ {b : List ℕ} {i : ℕ} {row : List ℕ} (k : Beside b i row) where
  abbrev there : List ℕ
  there = (get_or (table_in b).entries i no_entry).address

  is_address : IsAddress there
  is_address = (every_in AddressRight (table_in b).entries i no_entry k.valid.sound.addresses k.used).0

  inside : i * 5 + 5 ≤ length b
  inside = omega (arith, k.used, k.valid.sound.short, length-valid b k.valid)

  -- the entry's two parts
  abbrev first : List ℕ
  first = take 2 (drop (i * 5) b)

  abbrev rest : List ℕ
  rest = take 3 (drop (i * 5 + 2) b)

  parts : there ≡ first ++ rest
  parts = sym (address-row b k.valid i k.used) ∙ take-add 2 3 (drop (i * 5) b) ∙ ap (λ (s : List ℕ). first ++ take 3 s) (drop-drop 2 (i * 5) b)

  length-first : length first ≡ 2
  length-first = length-take-le 2 (drop (i * 5) b) (simp length-drop (omega (arith, inside)))

  length_rest : length rest ≡ 3
  length_rest = length-take-le 3 (drop (i * 5 + 2) b) (simp length-drop (omega (arith, inside)))

  -- the row's own two parts
  length-head : length (take 2 row) ≡ 2
  length-head = length-take-le 2 row (omega (arith, k.five))

  length-tail : length (take 3 (drop 2 row)) ≡ 3
  length-tail = length-take-le 3 (drop 2 row) (simp length-drop (omega (arith, k.five)))

  pub head-fits : i * 5 + length (take 2 row) ≤ length b
  head-fits = omega (arith, length-head, inside)

  pub tail-fits : i * 5 + 2 + length (take 3 (drop 2 row)) ≤ length b
  tail-fits = omega (arith, length-tail, inside)

  module _ (head : Ordering) (told : head ≡ key_order (row_key (take (length (take 2 row)) (drop (i * 5) b))) (row_key (take 2 row))) where
    plain : head ≡ key_order (row_key first) (row_key (take 2 row))
    plain = told ∙ ap (λ (n : ℕ). key_order (row_key (take n (drop (i * 5) b))) (row_key (take 2 row))) length-head

    -- where the address is the row's first part and the words `low`
    by_parts : (low : List ℕ) → length low ≡ 3 → Words low → listed_in row ≡ take 2 row ++ low → asked b i row ≡ first_difference head (key_order (row_key rest) (row_key low))
    unfolding address_key
    by_parts low n w e =
        ap₂ (λ (x y : List ℕ). key_order (row_key x) (row_key y)) parts e
        ∙ order-parts first rest (take 2 row) low (length_rest ∙ sym n) (words-part 3 (i * 5 + 2) b k.words) w
        ∙ ap (λ (x : Ordering). first_difference x (key_order (row_key rest) (row_key low))) (sym plain)

    by-four : get_or row 0 0 ≡ 4 → asked b i row ≡ first_difference head (key_order (row_key rest) (row_key (0 ∷ 0 ∷ 0 ∷ [])))
    by-four f = by_parts (0 ∷ 0 ∷ 0 ∷ []) refl (words-part 3 0 (0 ∷ 0 ∷ 0 ∷ 0 ∷ []) (words-four 0 0 0 0 (omega arith) (omega arith) (omega arith) (omega arith))) (parts-four row k.five f)

    by-six : get_or row 0 0 ≡ 6 → asked b i row ≡ first_difference head (key_order (row_key rest) (row_key (take 3 (drop 2 row))))
    by-six f = by_parts (take 3 (drop 2 row)) length-tail (words-part 3 2 row k.row_words) (parts-six row k.five f)

    -- a difference of the first part decides
    pub head-decides : ((x : Ordering) → first_difference head x ≡ head) → NamesAddress row → head ≡ asked b i row
    head-decides d = ⊎_elim (λ f. sym (by-four f ∙ d _)) (λ f. sym (by-six f ∙ d _))

    -- where there is none, the family is the entry's
    module _ (same : head ≡ Equal) where
      same_first : first ≡ take 2 row
      same_first =
          key-injective first (take 2 row) (length-first ∙ sym length-head) (words-part 2 (i * 5) b k.words) (words-part 2 0 row k.row_words)
          (sym (key_row first) ∙ is_same _ _ (sym plain ∙ same) ∙ key_row (take 2 row))

      family : get_or there 0 0 ≡ get_or row 0 0
      family =
          ap (λ (s : List ℕ). get_or s 0 0) parts
          ∙ get_or-append first rest 0 0 (omega (arith, length-first))
          ∙ ap (λ (s : List ℕ). get_or s 0 0) same_first
          ∙ get_or-take 2 row 0 0 (omega arith)

      pub names : NamesAddress row
      names = rw family at (names-address there is_address)

      -- an IPv4 row: the entry has zeros after the first part
      pub four_same : get_or row 0 0 ≡ 4 → Equal ≡ asked b i row
      four_same f =
          let zeros : rest ≡ 0 ∷ 0 ∷ 0 ∷ [] = sym (ap (drop 2) parts ∙ drop_at first rest 2 length-first) ∙ tail-four there is_address (family ∙ f) in
          sym (by-four f ∙ ap (λ (x : Ordering). first_difference x (key_order (row_key rest) (row_key (0 ∷ 0 ∷ 0 ∷ [])))) same ∙ order_same (ap row_key zeros))

      -- an IPv6 row: the second part decides
      pub six-rest : (get_or row 0 0 ≡ 4 → ⊥) → (x : Ordering) → x ≡ key_order (row_key (take (length (take 3 (drop 2 row))) (drop (i * 5 + 2) b))) (row_key (take 3 (drop 2 row))) → x ≡ asked b i row
      six-rest m x e =
          ⊎_elim
          (λ f. absurd (m f))
          (λ f.
          e
          ∙ ap (λ (n : ℕ). key_order (row_key (take n (drop (i * 5 + 2) b))) (row_key (take 3 (drop 2 row)))) length-tail
          ∙ sym (by-six f ∙ ap (λ (y : Ordering). first_difference y (key_order (row_key rest) (row_key (take 3 (drop 2 row))))) same))
          names

-- a place where something would stand is none where it stands
pub missing_at : {i j : ℕ} → Err i ≡ Ok j → ⊥
missing_at e = let z : ◌≡◌ {A = ℕ} 0 1 = cc in omega arith

-- A ROW OF ANOTHER FAMILY names address zero, which is below every entry
pub stranger : (b row : List ℕ) → Valid b → (get_or row 0 0 ≡ 4 → ⊥) → (get_or row 0 0 ≡ 6 → ⊥) → Err 0 ≡ found_in entry_key (address_key (listed_in row)) (table_in b).entries
stranger b row h m n =
    let es = (table_in b).entries in
    let k = address_key (listed_in row) in
    let below : 0 < length es → k < entry_key (get_or es 0 no_entry) =
    λ l. let a = every_in AddressRight es 0 no_entry h.sound.addresses l in rw (← listed-neither row m n) (zero-lowest _ a.0 a.1) in
    let lowest : rank entry_key k es ≡ 0 =
    either 0 (length es)
    (λ l. omega (arith, look-more entry_key k es 1 no_entry h.sound.rising 0 l (below l)))
    (λ l. omega (arith, keyed.rank-le entry_key k es)) in
    look_none entry_key k es 1 no_entry h.sound.rising 0 lowest below

-- A ROW THAT NAMES NO ADDRESS is missing at 0
pub stranger_missing : (b row : List ℕ) → Valid b → (NamesAddress row → ⊥) → found_in entry_key (address_key (listed_in row)) (table_in b).entries ≡ Err 0
stranger_missing b row h s = sym (stranger b row h (λ f. s (inl f)) (λ f. s (inr f)))

-- what a lookup answers without a look at the place that is proposed
pub ruleset without_first = (first-none, stranger_missing)

-- AN ENTRY AND A ROW, said of the words
module _ (b : List ℕ) (i : ℕ) (row : List ℕ) (h : Valid b) (u : i < length (table_in b).entries) (n : length row ≡ 5) (w : Words b) (v : Words row) where
  pub near : Beside b i row
  near = record {
    valid = h;
    used = u;
    words = w;
    five = n;
    row_words = v;
  }

  -- their first parts are the same
  module _ (e : key_order (row_key (take (length (take 2 row)) (drop (i * 5) b))) (row_key (take 2 row)) ≡ Equal) where
    pub order_four : get_or row 0 0 ≡ 4 → key_order (entry_key (get_or (table_in b).entries i no_entry)) (address_key (listed_in row)) ≡ Equal
    order_four f = sym (four_same near _ refl e f)

    pub order_six : (get_or row 0 0 ≡ 4 → ⊥) → key_order (entry_key (get_or (table_in b).entries i no_entry)) (address_key (listed_in row))
        ≡ key_order (row_key (take (length (take 3 (drop 2 row))) (drop (i * 5 + 2) b))) (row_key (take 3 (drop 2 row)))
    order_six m = sym (six-rest near _ refl e m _ refl)

    pub names_address : NamesAddress row
    names_address = names near _ refl e

-- what the second part of a row adds, where the first parts are the same
pub ruleset second_part = (order_four, order_six, names_address)
