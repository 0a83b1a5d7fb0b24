-- The table of Ethernet A-D routes (document 02, M-102; RFC 7432, sections 8.2.1 and 8.4.1), and how it lies in the words that a caller lends: a column of 256
-- rows of seven words in rising order, then the number of routes; 1,793 words of 32 bits. Unused places are zero, so that equal contents are equal words. A route is
-- the row that it is kept as: its kind, its tag, its address; the row is its own key (`row_key`), so the routes of one tag stand together in address order.
--   per_segment a       == the per-segment route of the address a (Ethernet A-D per ES): kind 1, tag 0
--   per_instance tag a  == its per-instance route for a tag (Ethernet A-D per EVI): kind 2
--   ad_row s a          == the one of the two that the scope s says
--   reserved_scope s    == whether the scope names a reserved tag
--   AdRoute r          == the row r is a route of an address that is not zero, for a tag that is not reserved
--   CircuitsRight l    == what every call keeps of a table; with the size of the words it is all that the calls can have made (`ValidCircuits`)
--   circuit_words l     == THE words of the table of the routes l
--   circuits_in b       == the routes in the words b
--   ValidCircuits b    == b is the words of a table that the calls can have made
use Rattle.std.specs.Prelude.{ℕ, ◌≤◌, ◌≡◌, Bool, false, List, [], ◌∷◌, ◌++◌, length, get_or}
use Rattle.lists.specs.Lists.{Every}
use Rattle.keyed.specs.Keyed.{Rising}
use Rattle.rows.specs.Rows.{rows_in, column, row_key}
use Rattle.address.specs.Address.{IsAddress, is_zero}
use Rattle.tags.specs.Tags.{reserved_tag}
use Rattle.circuit_layout.specs.declared.Scope.{Scope}
use Rattle.circuit_layout.specs.declared.Scope.TheVariants.{Segment, Instance}

-- ROUTES
abbrev pub per_segment : List ℕ → List ℕ
per_segment a = 1 ∷ 0 ∷ a

abbrev pub per_instance : ℕ → List ℕ → List ℕ
per_instance tag a = 2 ∷ tag ∷ a

abbrev pub ad_row : Scope → List ℕ → List ℕ
ad_row Segment a = per_segment a
ad_row (Instance tag) a = per_instance tag a

abbrev pub reserved_scope : Scope → Bool
reserved_scope Segment = false
reserved_scope (Instance tag) = reserved_tag tag

pub record AdRoute (r : List ℕ) : Type 0 where
  pub scope : Scope
  pub address : List ℕ
  pub row : r ≡ ad_row scope address
  pub tag : reserved_scope scope ≡ false
  pub right : IsAddress address
  pub nonzero : is_zero address ≡ false

-- STATES: at most 256 routes, which rise
pub record CircuitsRight (l : List (List ℕ)) : Type 0 where
  pub short : length l ≤ 256
  pub rising : Rising row_key 0 l
  pub routes : Every AdRoute l

unfoldable pub circuit_words : List (List ℕ) → List ℕ
circuit_words l = column 7 256 l ++ (length l ∷ [])

unfoldable pub circuits_in : List ℕ → List (List ℕ)
circuits_in b = rows_in 7 (get_or b 1792 0) b

pub record ValidCircuits (b : List ℕ) : Type 0 where
  pub sound : CircuitsRight (circuits_in b)
  pub whole : b ≡ circuit_words (circuits_in b)
