-- Laws of the words of a table: reading an entry's words gives the entry back, and a table's words the table; what each word of a table is. Assumes nothing.
use Prim.Native.Nat.{ℕ, ◌+◌, ◌*◌, ◌/◌, ◌%◌, ◌≤◌, ◌<◌}
use native.Mathlib.Omega.{arith}
use mathlib.Core.Path.{◌≡◌, refl, ap, ap₂, ◌∙◌, sym}
use mathlib.Core.List.{List, [], ◌∷◌, ◌++◌}
use mathlib.Core.Logic.{⊎_elim}
use lib.ListN.{length, get_or, take, drop, length-append, length-drop, length-map, length-replicate, take-append-drop}
use lib.Seq.{drop_at, drop-drop, get_or-take, get_or-drop, take_all}
use Rattle.lists.specs.Lists.{Every}
use Rattle.lists.proofs.Bools.{bit-less, bit-halves}
use Rattle.lists.proofs.Lists.{every-at, get_d-map-in}
use Rattle.address.proofs.Laws.{length-address, key_row}
use Rattle.esi.proofs.Laws.{length-not-reserved}
use Rattle.octet_words.proofs.Laws.{low_part}
use Rattle.keyed.specs.Keyed.{Rising}
use Rattle.keyed.proofs.Keyed as keyed
use Rattle.rows.specs.Rows.{rows_in, column, row_key}
use Rattle.rows.proofs.Rows.{row_at, rows_at}
use Rattle.rows.proofs.Columns.{Wide, length-column, rows-column}
use Rattle.layout.specs.Table.{Entry, entry_key, no_entry, AddressRight, Table, WellFormed}
use Rattle.layout.specs.Words.{kind_of, standing_of, attributes_of, address_column, attribute_column, entry_in, entries_in, identifier_words, identifier_in, words_of, table_in, Octets, Valid}

-- AN ENTRY whose preference has 16 bits
abbrev pub Narrow : Entry → Type 0
Narrow e = e.preference < 65536

pub standing-less : (e : Entry) → Narrow e → standing_of e < 131072
unfolding standing_of
standing-less e h = omega (arith, bit-less e.dp, h)

-- the algorithm in a kind
pub kind-algorithm : (e : Entry) → kind_of e / 2 ≡ e.algorithm
unfolding kind_of
kind-algorithm e = omega (arith, bit-less e.ac_df)

module _ (e : Entry) (h : Narrow e) where
  kind-back : attributes_of e / 131072 ≡ kind_of e
  unfolding attributes_of
  kind-back = omega (arith, standing-less e h)

  standing-back : attributes_of e % 131072 ≡ standing_of e
  unfolding attributes_of
  standing-back = omega (arith, standing-less e h)

  pub entry-back : entry_in e.address (attributes_of e ∷ []) ≡ e
  unfolding entry_in kind_of standing_of
  entry-back =
      let k = bit-halves e.algorithm e.ac_df in
      let s = bit-halves e.preference e.dp in
      rw (kind-back, standing-back, k.0, k.1, s.0, s.1)

-- ENTRIES
entries-back : (es : List Entry) → Every Narrow es → entries_in (address_column es) (attribute_column es) ≡ es
unfolding entries_in Every
entries-back [] h = refl
entries-back (e ∷ es) h = rw (entry-back e h.0, entries-back es h.1)

-- what is read from words is narrow
entries-narrow : (rs ws : List (List ℕ)) → Every Narrow (entries_in rs ws)
unfolding entries_in entry_in Every
entries-narrow [] ws = tt
entries-narrow (r ∷ rs) [] = tt
entries-narrow (r ∷ rs) (w ∷ ws) = (omega arith, entries-narrow rs ws)

-- THE IDENTIFIER: ten octets as three words, and back
pub identifier-back : (i : List ℕ) → length i ≡ 10 → Octets i → identifier_in (identifier_words i) ≡ i
unfolding identifier_in identifier_words
identifier-back i n o =
    rw (low_part i 0 4 o (omega arith), low_part i 4 4 o (omega arith), low_part i 8 2 o (omega arith))
    (ap (λ (s : List ℕ). take 4 i ++ s) (ap (λ (s : List ℕ). take 4 (drop 4 i) ++ s) (take_all 2 (drop 8 i) (rw length-drop (omega arith)) ∙ sym (drop-drop 4 4 i)) ∙ take-append-drop 4 (drop 4 i))
    ∙ take-append-drop 4 i)

-- THE COLUMNS
-- a word of a row
row_word : (k : ℕ) (b : List ℕ) (i j : ℕ) (r : List ℕ) → j < k → row_at k b i ≡ r → get_or b (i * k + j) 0 ≡ get_or r j 0
row_word k b i j r l e =
    sym (get_or-drop (i * k) b j 0) ∙ sym (get_or-take k (drop (i * k) b) j 0 l) ∙ ap (λ (s : List ℕ). get_or s j 0) e

-- a row of one word
row_one : (b : List ℕ) (i w : ℕ) → row_at 1 b i ≡ w ∷ [] → get_or b i 0 ≡ w
row_one b i w e = let n : i ≡ i * 1 + 0 = omega arith in ap (λ (j : ℕ). get_or b j 0) n ∙ row_word 1 b i 0 (w ∷ []) (omega arith) e

pub wide-addresses : (l : List Entry) → Every AddressRight l → Wide 5 (address_column l)
unfolding Every
wide-addresses [] h = tt
wide-addresses (e ∷ l) h = (length-address e.address h.0.0, wide-addresses l h.1)

pub wide-attributes : (l : List Entry) → Wide 1 (attribute_column l)
unfolding Every
wide-attributes [] = tt
wide-attributes (e ∷ l) = (refl, wide-attributes l)

module _ (t : Table) (n : length t.entries ≤ 64) (w : Every AddressRight t.entries) where
  abbrev addresses : List ℕ
  addresses = column 5 64 (address_column t.entries)

  abbrev attributes : List ℕ
  attributes = column 1 64 (attribute_column t.entries)

  length-addresses : length addresses ≡ 320
  length-addresses = length-column 5 64 (address_column t.entries) (wide-addresses t.entries w) (omega (arith, length-map t.entries (λ (e : Entry). e.address)))

  length-attributes : length attributes ≡ 64
  length-attributes = length-column 1 64 (attribute_column t.entries) (wide-attributes t.entries) (omega (arith, length-map t.entries (λ (e : Entry). attributes_of e ∷ [])))

  pub drop-addresses : drop 320 (words_of t) ≡ attributes ++ (length t.entries ∷ identifier_words t.esi)
  unfolding words_of
  drop-addresses = drop_at addresses _ 320 length-addresses

  drop-attributes : drop 384 (words_of t) ≡ length t.entries ∷ identifier_words t.esi
  drop-attributes = sym (drop-drop 64 320 (words_of t)) ∙ ap (drop 64) drop-addresses ∙ drop_at attributes _ 64 length-attributes

  count_at : get_or (words_of t) 384 0 ≡ length t.entries
  count_at = sym (get_or-drop 384 (words_of t) 0 0) ∙ ap (λ (l : List ℕ). get_or l 0 0) drop-attributes

  esi-at : drop 385 (words_of t) ≡ identifier_words t.esi
  esi-at = sym (drop-drop 1 384 (words_of t)) ∙ ap (drop 1) drop-attributes

  length-words : length (words_of t) ≡ 388
  unfolding words_of identifier_words
  length-words = omega (arith, length-append addresses (attributes ++ (length t.entries ∷ identifier_words t.esi)), length-append attributes (length t.entries ∷ identifier_words t.esi), length-addresses, length-attributes)

  address-rows : rows_in 5 (length t.entries) (words_of t) ≡ address_column t.entries
  unfolding words_of
  address-rows =
      ap (λ (m : ℕ). rows_in 5 m (words_of t)) (sym (length-map t.entries (λ (e : Entry). e.address)))
      ∙ rows-column 5 64 (address_column t.entries) (attributes ++ (length t.entries ∷ identifier_words t.esi)) (wide-addresses t.entries w)

  attribute-rows : rows_in 1 (length t.entries) (drop 320 (words_of t)) ≡ attribute_column t.entries
  attribute-rows =
      ap₂ (λ (m : ℕ) (s : List ℕ). rows_in 1 m s) (sym (length-map t.entries (λ (e : Entry). attributes_of e ∷ []))) drop-addresses
      ∙ rows-column 1 64 (attribute_column t.entries) (length t.entries ∷ identifier_words t.esi) (wide-attributes t.entries)

pub length-esi : (t : Table) → WellFormed t → length t.esi ≡ 10
length-esi t w = ⊎_elim (λ h. length-not-reserved t.esi h) (λ h. ap length h.0 ∙ length-replicate {A = ℕ} 10 0) w.owner

module _ (t : Table) (w : WellFormed t) (h : Every Narrow t.entries) (o : Octets t.esi) where
  pub table-in : table_in (words_of t) ≡ t
  unfolding table_in
  table-in =
      let n = w.short in
      let a = w.addresses in
      rw (esi-at t n a, identifier-back t.esi (length-esi t w) o, count_at t n a, address-rows t n a, attribute-rows t n a, entries-back t.entries h)

  pub valid-of : Valid (words_of t)
  valid-of = record { sound = rw table-in w; whole = ap words_of (sym table-in); octets = rw table-in o }

-- WORDS THAT ARE A TABLE'S
module _ (b : List ℕ) (h : Valid b) where
  abbrev pub table : Table
  table = table_in b

  abbrev es : List Entry
  es = table.entries

  short : length es ≤ 64
  short = h.sound.short

  right : Every AddressRight es
  right = h.sound.addresses

  pub narrow-entries : Every Narrow es
  unfolding table_in
  narrow-entries = entries-narrow (rows_in 5 (get_or b 384 0) b) (rows_in 1 (get_or b 384 0) (drop 320 b))

  pub narrow-entry : (i : ℕ) → Narrow (get_or es i no_entry)
  narrow-entry i = every-at Narrow es i no_entry (omega arith) narrow-entries

  pub length-valid : length b ≡ 388
  length-valid = ap length h.whole ∙ length-words table short right

  pub count_word : get_or b 384 0 ≡ length es
  count_word = ap (λ (s : List ℕ). get_or s 384 0) h.whole ∙ count_at table short right

  pub rows-addresses : rows_in 5 (length es) b ≡ address_column es
  rows-addresses = ap (rows_in 5 (length es)) h.whole ∙ address-rows table short right

  rows-attributes : rows_in 1 (length es) (drop 320 b) ≡ attribute_column es
  rows-attributes = ap (λ (s : List ℕ). rows_in 1 (length es) (drop 320 s)) h.whole ∙ attribute-rows table short right

  -- the keys of the rows rise as those of the entries
  pub rising-rows : Rising row_key 0 (rows_in 5 (length es) b)
  rising-rows = rw rows-addresses (keyed.map-rising (λ (e : Entry). e.address) entry_key row_key (λ e. key_row e.address) 0 es (keyed.rising-weaken entry_key es 0 1 (omega arith) h.sound.rising))

  module _ (i : ℕ) (l : i < length es) where
    pub address-row : row_at 5 b i ≡ (get_or es i no_entry).address
    address-row =
        sym (rows_at 5 (length es) b i l)
        ∙ ap (λ (s : List (List ℕ)). get_or s i []) rows-addresses
        ∙ get_d-map-in (λ (e : Entry). e.address) es i [] no_entry l

    pub address_word : (j : ℕ) → j < 5 → get_or b (5 * i + j) 0 ≡ get_or (get_or es i no_entry).address j 0
    address_word j h = let n : 5 * i + j ≡ i * 5 + j = omega arith in ap (λ (m : ℕ). get_or b m 0) n ∙ row_word 5 b i j _ h address-row

    pub attributes-word : get_or b (320 + i) 0 ≡ attributes_of (get_or es i no_entry)
    attributes-word =
        sym (get_or-drop 320 b i 0)
        ∙ row_one (drop 320 b) i _ (sym (rows_at 1 (length es) (drop 320 b) i l) ∙ ap (λ (s : List (List ℕ)). get_or s i []) rows-attributes ∙ get_d-map-in (λ (e : Entry). attributes_of e ∷ []) es i [] no_entry l)

    pub attributes-kind : attributes_of (get_or es i no_entry) / 131072 ≡ kind_of (get_or es i no_entry)
    attributes-kind = kind-back (get_or es i no_entry) (narrow-entry i)

    pub attributes-standing : attributes_of (get_or es i no_entry) % 131072 ≡ standing_of (get_or es i no_entry)
    attributes-standing = standing-back (get_or es i no_entry) (narrow-entry i)

  -- the identifier's words
  pub esi-words : drop 385 b ≡ identifier_words table.esi
  esi-words = ap (drop 385) h.whole ∙ esi-at table short right

-- how many entries lie in the words, and how long these are
pub valid_short : (b : List ℕ) → Valid b → length (table_in b).entries ≤ 64
valid_short b h = h.sound.short

pub ruleset sizes = (length-valid, valid_short)
