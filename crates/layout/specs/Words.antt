-- How a table lies in the words that a caller lends: a column of 64 addresses of five words, a column of 64 words of attributes, the number of
-- entries, and the ten octets of the identifier in three words; 388 words of 32 bits. The entries stand in rising address order and unused places are zero, so that equal contents are
-- equal words (document 01, "The table", which leaves the form of a table open).
--   kind_of e           == the algorithm and the AC-DF bit of the entry e as one number
--   standing_of e       == its preference in 16 bits and the DP bit behind it
--   attributes_of e     == both as one number: all of the entry but its address
--   address_column l, attribute_column l == the rows of the two columns that hold the entries l
--   entry_in r w        == the entry of the address r with the attributes in the row w
--   entries_in rs ws    == the entries of the rows rs and ws
--   identifier_words i  == the ten octets of the identifier i as three words, four octets in each of the first two, the first octet low
--   identifier_in w     == the identifier that lies in the words w
--   words_of t          == THE words of the table t
--   table_in b          == the table that lies in the words b
--   Octets l           == every number of l is an octet
--   Valid b            == b is the words of a table that the calls can have made
--   Packed e w         == the word w is the attributes of an entry with the communities e, whose preference has 16 bits
use Rattle.std.specs.Prelude.{ℕ, ◌+◌, ◌*◌, ◌/◌, ◌%◌, ◌<◌, ◌≡◌, List, [], ◌∷◌, ◌++◌, map, length, get_or, take, drop, eqb}
use Rattle.lists.specs.Lists.{bit, Every}
use Rattle.octet_words.specs.Words.{low_first, low_octets}
use Rattle.rows.specs.Rows.{rows_in, column}
use Rattle.community.specs.declared.Election.{Election}
use Rattle.layout.specs.Table.{Entry, entry_of, Table, WellFormed}

unfoldable pub kind_of : Entry → ℕ
kind_of e = e.algorithm * 2 + bit e.ac_df

unfoldable pub standing_of : Entry → ℕ
standing_of e = e.preference * 2 + bit e.dp

unfoldable pub attributes_of : Entry → ℕ
attributes_of e = kind_of e * 131072 + standing_of e

abbrev pub address_column : List Entry → List (List ℕ)
address_column l = map (λ e. e.address) l

abbrev pub attribute_column : List Entry → List (List ℕ)
attribute_column l = map (λ e. attributes_of e ∷ []) l

unfoldable pub entry_in : List ℕ → List ℕ → Entry
entry_in r w = record {
  address = r;
  algorithm = get_or w 0 0 / 131072 / 2;
  ac_df = eqb (get_or w 0 0 / 131072 % 2) 1;
  dp = eqb (get_or w 0 0 % 131072 % 2) 1;
  preference = get_or w 0 0 % 131072 / 2;
}

unfoldable pub entries_in : List (List ℕ) → List (List ℕ) → List Entry
entries_in [] ws = []
entries_in (r ∷ rs) [] = []
entries_in (r ∷ rs) (w ∷ ws) = entry_in r w ∷ entries_in rs ws

unfoldable pub identifier_words : List ℕ → List ℕ
identifier_words i = low_first (take 4 i) ∷ low_first (take 4 (drop 4 i)) ∷ low_first (take 2 (drop 8 i)) ∷ []

unfoldable pub identifier_in : List ℕ → List ℕ
identifier_in w = low_octets 4 (get_or w 0 0) ++ (low_octets 4 (get_or w 1 0) ++ low_octets 2 (get_or w 2 0))

unfoldable pub words_of : Table → List ℕ
words_of t = column 5 64 (address_column t.entries) ++ (column 1 64 (attribute_column t.entries) ++ (length t.entries ∷ identifier_words t.esi))

unfoldable pub table_in : List ℕ → Table
table_in b = record {
  esi = identifier_in (drop 385 b);
  entries = entries_in (rows_in 5 (get_or b 384 0) b) (rows_in 1 (get_or b 384 0) (drop 320 b));
}

abbrev pub Octets : List ℕ → Type 0
Octets l = Every (λ o. o < 256) l

pub record Valid (b : List ℕ) : Type 0 where
  pub sound : WellFormed (table_in b)
  pub whole : b ≡ words_of (table_in b)
  pub octets : Octets (table_in b).esi

abbrev pub Packed : Election → ℕ → Type 0
Packed e w = (w ≡ attributes_of (entry_of [] e)) × (e.preference < 65536)
