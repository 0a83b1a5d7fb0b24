-- The candidates (document 01, "The election", Eligible; RFC 8584, section 4): all routes or, with AC-DF in use, those whose address is on the ready list.
-- Repeats and strangers in the list do no harm. A ready list is handed in as rows of five words, the family and four words (document 02, M-105).
--   ready_in w                == the addresses that the words w name: one for each whole row
--   on_list ready a           == whether the address a is on the ready list
--   eligible ac ready e      == whether the entry e is eligible, where ac tells whether AC-DF is in use
--   candidates ac ready l    == the eligible entries of l, in their order
--   candidate_set ac ready l  == the candidate set: bit i is one exactly if the entry at place i is eligible
use Rattle.std.specs.Prelude.{ℕ, ◌/◌, Bool, false, not, ◌||◌, List, [], ◌∷◌, map, length, eqb}
use Rattle.rows.specs.Rows.{rows_in}
use Rattle.address.specs.Address.{address_key, listed_in}
use Rattle.layout.specs.Table.{Entry}
use Rattle.places.specs.Places.{set_of, picked}

unfoldable pub ready_in : List ℕ → List (List ℕ)
ready_in w = map listed_in (rows_in 5 (length w / 5) w)

unfoldable pub on_list : List (List ℕ) → List ℕ → Bool
on_list [] a = false
on_list (b ∷ ready) a = eqb (address_key b) (address_key a) || on_list ready a

unfoldable pub eligible : Bool → List (List ℕ) → Entry → Bool
eligible ac ready e = not ac || on_list ready e.address

unfoldable pub candidates : Bool → List (List ℕ) → List Entry → List Entry
candidates ac ready l = picked (map (eligible ac ready) l) l

unfoldable pub candidate_set : Bool → List (List ℕ) → List Entry → ℕ
candidate_set ac ready l = set_of (map (eligible ac ready) l)
