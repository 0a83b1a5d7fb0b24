-- The pieces of an answer line (document 01, "The bench program"), as octets: plain decimals and addresses; and the one rule by which
-- a piece is put into a buffer. The dot is the octet 46.
--   digit d              == the octet of the digit d
--   digits k n           == the decimal digits of n, highest first and without leading zeros, if there are at most k
--   decimal n            == the decimal digits of n; 0 is one digit
--   dotted s             == the dotted form of an IPv4 address of the octets s: each in decimal, with a dot between one and the next
--   hex s                == the octets s in hexadecimal, two digits each, in lower case (document 02, M-105: an IPv6 address)
--   position_after d at s == the position after s in the buffer d, if s fits from position `at` on; else `at`
--   Put d at s r e       == putting s at position `at` of a buffer that held d answers the position r, and leaves e in the buffer
use Rattle.std.specs.Prelude.{ℕ, zero, suc, ◌+◌, ◌/◌, ◌%◌, ◌≡◌, cond, List, [], ◌∷◌, ◌++◌, length, leb, ltb}
use Rattle.octets.specs.Octets.{hex_digit, stored}

abbrev pub digit : ℕ → ℕ
digit d = 48 + d

-- the `let` keeps antt from computing digits that the test then drops
unfoldable pub digits : ℕ → ℕ → List ℕ
digits zero n = []
digits (suc k) n = let front = digits k (n / 10) in cond (ltb n 10) (digit n ∷ []) (front ++ digit (n % 10) ∷ [])

-- n + 1 digits are always enough
unfoldable pub decimal : ℕ → List ℕ
decimal n = digits (suc n) n

unfoldable pub dotted : List ℕ → List ℕ
dotted [] = []
dotted (x ∷ []) = decimal x
dotted (x ∷ y ∷ s) = decimal x ++ 46 ∷ dotted (y ∷ s)

unfoldable pub hex : List ℕ → List ℕ
hex [] = []
hex (x ∷ s) = hex_digit (x / 16) ∷ hex_digit x ∷ hex s

unfoldable pub position_after : List ℕ → ℕ → List ℕ → ℕ
position_after d at s = cond (leb (at + length s) (length d)) (at + length s) at

pub record Put (d : List ℕ) (at : ℕ) (s : List ℕ) (r : ℕ) (e : List ℕ) : Type 0 where
  pub position : r ≡ position_after d at s
  pub buffer : e ≡ stored d at s
