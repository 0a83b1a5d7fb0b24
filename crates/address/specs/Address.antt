-- Addresses (document 02, M-105; document 01, "The route" and "The table"). An address is a family, 4 or 6, and sixteen octets: an IPv4 address in the first
-- four, then zeros. In every definition it is the row of words that it is kept as: the family, then the sixteen octets as four words.
--   address_row a       == the address a, which is handed in, as a row: in an IPv4 one the words after the first don't count
--   IsAddress r        == the row r is an address
--   octets_in r         == the octets of the words r, four to a word
--   family_of r, address_words r == the family of the address r, as a number, and its sixteen octets as four words
--   octets_of_address r  == its sixteen octets
--   address_key r       == the number that addresses are ordered by. It is the one that the 17 octets of the address make, the family first (`SeventeenOctets`),
--                         so every IPv4 address is lower than every IPv6 one, and within a family addresses order as numbers
--   SeventeenOctets r  == that
--   address_number r    == the address r as a number of 32 or of 128 bits, by its family
--   is_zero r           == whether the address r is all zero
--   listed_in r         == the address that a row of a ready list names: in an IPv4 row the words after the first don't count; a row of another family names
--                         address zero, which stands in no table
--   NamesAddress r     == the family of the row r is 4 or 6
use Rattle.std.specs.Prelude.{ℕ, ◌≡◌, Bool, cond, List, [], ◌∷◌, ◌++◌, ◌⊎◌, get_or, drop, eqb}
use Rattle.octets.specs.Octets.{number_of, octets_of, all_are}
use Rattle.rows.specs.Rows.{row_key}
use Rattle.address.specs.declared.Family.{Family}
use Rattle.address.specs.declared.Family.TheVariants.{V4, V6}
use Rattle.address.specs.declared.Address.{Address}

abbrev pub row_under : Family → ℕ → ℕ → ℕ → ℕ → List ℕ
row_under V4 a b c d = 4 ∷ a ∷ 0 ∷ 0 ∷ 0 ∷ []
row_under V6 a b c d = 6 ∷ a ∷ b ∷ c ∷ d ∷ []

unfoldable pub address_row : Address → List ℕ
address_row a = row_under a.family a.w0 a.w1 a.w2 a.w3

pub data IsAddress (r : List ℕ) : Type 0 where
  ipv4 : (a : ℕ) → r ≡ 4 ∷ a ∷ 0 ∷ 0 ∷ 0 ∷ [] → IsAddress r
  ipv6 : (a b c d : ℕ) → r ≡ 6 ∷ a ∷ b ∷ c ∷ d ∷ [] → IsAddress r

unfoldable pub octets_in : List ℕ → List ℕ
octets_in [] = []
octets_in (w ∷ r) = octets_of 4 w ++ octets_in r

unfoldable pub family_of : List ℕ → ℕ
family_of r = get_or r 0 0

unfoldable pub address_words : List ℕ → List ℕ
address_words r = drop 1 r

unfoldable pub octets_of_address : List ℕ → List ℕ
octets_of_address r = octets_in (drop 1 r)

unfoldable pub address_key : List ℕ → ℕ
address_key r = row_key r

abbrev pub SeventeenOctets : List ℕ → Type 0
SeventeenOctets r = address_key r ≡ number_of (family_of r ∷ octets_of_address r)

unfoldable pub address_number : List ℕ → ℕ
address_number r = cond (eqb (family_of r) 4) (get_or r 1 0) (row_key (drop 1 r))

unfoldable pub is_zero : List ℕ → Bool
is_zero r = all_are 0 (drop 1 r)

unfoldable pub listed_in : List ℕ → List ℕ
listed_in r =
    cond (eqb (get_or r 0 0) 4) (4 ∷ get_or r 1 0 ∷ 0 ∷ 0 ∷ 0 ∷ [])
    (cond (eqb (get_or r 0 0) 6) (6 ∷ get_or r 1 0 ∷ get_or r 2 0 ∷ get_or r 3 0 ∷ get_or r 4 0 ∷ [])
    (4 ∷ 0 ∷ 0 ∷ 0 ∷ 0 ∷ []))

abbrev pub NamesAddress : List ℕ → Type 0
NamesAddress r = (get_or r 0 0 ≡ 4) ⊎ (get_or r 0 0 ≡ 6)
