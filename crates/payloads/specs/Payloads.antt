-- The addresses in the payload of a bench record (document 01, "The bench program"; document 02, M-105): four octets each, or sixteen in the records of IPv6.
--   size_of v         == how many octets an address has: sixteen where v says IPv6, else four
--   address_of v p    == the address that the octets p say, as a row
--   addresses_in v s  == the addresses that the octets s say, one after the other
use Rattle.std.specs.Prelude.{ℕ, ◌/◌, Bool, cond, List, [], ◌∷◌, map, length}
use Rattle.octets.specs.Octets.{word_at}
use Rattle.rows.specs.Rows.{rows_in}

unfoldable pub size_of : Bool → ℕ
size_of v = cond v 16 4

unfoldable pub address_of : Bool → List ℕ → List ℕ
address_of v p = cond v (6 ∷ word_at 0 p ∷ word_at 4 p ∷ word_at 8 p ∷ word_at 12 p ∷ []) (4 ∷ word_at 0 p ∷ 0 ∷ 0 ∷ 0 ∷ [])

unfoldable pub addresses_in : Bool → List ℕ → List (List ℕ)
addresses_in v s = map (address_of v) (rows_in (size_of v) (length s / size_of v) s)
