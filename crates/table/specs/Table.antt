-- The calls of the table (document 01, "The table"): their checks in order, their answers, and the table that they leave.
--   announce_number i r c p n     == 0, or the number of the first check that refuses an announcement of the route r with the communities c
--                                   to the table of i, where p tells whether its address is present and n are present
--   withdraw_number a p           == the same for a withdrawal of the address a, where p tells whether it is present
--   Change                       == what a call answers, a number and an offset, and the table as it then is
--   changed n p old new          == the answer n with the offset p, and the new table if n is 0 and else the old one
--   fresh_table i, announced t r c, withdrawn t a  == the answers of the three calls
--   Told c n p b                 == the number n, the offset p and the table in the words b are what the call's answer c says
use Rattle.std.specs.Prelude.{ℕ, ◌≡◌, Bool, cond, not, ◌||◌, List, [], ◌∷◌, length, ltb, eqb}
use Rattle.lists.specs.Checks.{first_refusal}
use Rattle.octets.specs.Octets.{same_numbers}
use Rattle.address.specs.Address.{address_key, is_zero}
use Rattle.esi.specs.Reserved.{reserved}
use Rattle.route.specs.Route.{route_esi, route_address, route_number, route_offset}
use Rattle.community.specs.Community.{list_fits, election_in}
use Rattle.keyed.specs.Keyed.{has, insert, remove}
use Rattle.layout.specs.Table.{entry_key, entry_of, Table, table_of, owner_of}
use Rattle.layout.specs.Words.{table_in}
use Rattle.refusals.specs.Refusals.{esi_reserved, other_segment, address_zero, list_length, table_full, not_present}

-- CHECKS, in their order
unfoldable pub announce_number : List ℕ → List ℕ → List ℕ → Bool → ℕ → ℕ
announce_number i r c present n =
    first_refusal (
    (not (eqb (route_number r) 0), route_number r)
    ∷ (not (same_numbers i (route_esi r)), other_segment)
    ∷ (not (list_fits c), list_length)
    ∷ (not (present || ltb n 64), table_full)
    ∷ []
    )

unfoldable pub withdraw_number : List ℕ → Bool → ℕ
withdraw_number a present =
    first_refusal (
    (is_zero a, address_zero)
    ∷ (not present, not_present)
    ∷ []
    )

-- ANSWERS: a refused call leaves the table as it got it. An announcement passes on the offset of its route's refusal, which is 0 where the route is
-- accepted (document 02, M-103); the other calls have offset 0
pub record Change : Type 0 where
  pub number : ℕ
  pub offset : ℕ
  pub table : Table

abbrev pub changed : ℕ → ℕ → Table → Table → Change
changed n p old new = record { number = n; offset = p; table = cond (eqb n 0) new old }

unfoldable pub fresh_table : List ℕ → Change
fresh_table i = record { number = cond (reserved i) esi_reserved 0; offset = 0; table = table_of (owner_of i) [] }

unfoldable pub announced : Table → List ℕ → List ℕ → Change
announced t r c =
    changed (announce_number t.esi r c (has entry_key (address_key (route_address r)) t.entries) (length t.entries))
    (route_offset r)
    t
    (table_of t.esi (insert entry_key (entry_of (route_address r) (election_in c)) t.entries))

unfoldable pub withdrawn : Table → List ℕ → Change
withdrawn t a =
    changed (withdraw_number a (has entry_key (address_key a) t.entries))
    0
    t
    (table_of t.esi (remove entry_key (address_key a) t.entries))

-- what a call answers and leaves: a number, an offset, and a table in the words. Where the words are valid, this decides every one of them
abbrev pub Told : Change → ℕ → ℕ → List ℕ → Type 0
Told c n p b = (n ≡ c.number) × (p ≡ c.offset) × (table_in b ≡ c.table)
