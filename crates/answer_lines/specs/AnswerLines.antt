-- The answer lines of the bench program (document 01, "The bench program").
-- Letters and signs are octets: `a` 97, `p` 112, `q` 113, `w` 119, `x` 120, space 32, newline 10.
--   line c n           == the line of the letter c and the number n
--   offset_line c n p   == the line of the letter c, the number n and the offset p
--   has_offset n        == whether an offset is printed after the number n: after 1 to 4, 6 and 13 (document 02, M-103)
--   read_line c n p     == the line of the letter c for what was read: the number n, and the offset p where one is printed
--   bad_line            == the line `x 16`
--   address_text f a    == how an address of the family f with the four words a is printed: IPv4 dotted, IPv6 as 32 hexadecimal digits (document 02, M-105)
--   elected_line f a n  == the line of an accepted query
--   query_line r        == the line of the election's answer r
--   Written d at s r e == the octets s, for which there was room, are put at position `at` of the buffer that held d, which then holds e; r is the
--                         position after them
use Rattle.std.specs.Prelude.{ℕ, ◌+◌, ◌≤◌, ◌≡◌, Bool, cond, ◌&&◌, ◌||◌, List, [], ◌∷◌, ◌++◌, length, get_or, leb, eqb}
use Rattle.octets.specs.Octets.{octets_of, stored}
use Rattle.address.specs.Address.{octets_in}
use Rattle.answers.specs.Answers.{Answer}
use Rattle.lines.specs.Lines.{decimal, dotted, hex}

unfoldable pub line : ℕ → ℕ → List ℕ
line c n = (c ∷ []) ++ ((32 ∷ []) ++ (decimal n ++ (10 ∷ [])))

unfoldable pub offset_line : ℕ → ℕ → ℕ → List ℕ
offset_line c n p = (c ∷ []) ++ ((32 ∷ []) ++ (decimal n ++ ((32 ∷ []) ++ (decimal p ++ (10 ∷ [])))))

unfoldable pub has_offset : ℕ → Bool
has_offset n = (leb 1 n && leb n 4) || (eqb n 6 || eqb n 13)

unfoldable pub read_line : ℕ → ℕ → ℕ → List ℕ
read_line c n p = cond (has_offset n) (offset_line c n p) (line c n)

abbrev pub bad_line : List ℕ
bad_line = 120 ∷ 32 ∷ 49 ∷ 54 ∷ 10 ∷ []

-- an accepted query adds the address and N
unfoldable pub address_text : ℕ → List ℕ → List ℕ
address_text f a = cond (eqb f 6) (hex (octets_in a)) (dotted (octets_of 4 (get_or a 0 0)))

unfoldable pub elected_line : ℕ → List ℕ → ℕ → List ℕ
elected_line f a n = (113 ∷ 32 ∷ 48 ∷ 32 ∷ []) ++ (address_text f a ++ ((32 ∷ []) ++ (decimal n ++ (10 ∷ []))))

unfoldable pub query_line : Answer → List ℕ
query_line r = cond (eqb r.number 0) (elected_line r.family r.address r.n) (line 113 r.number)

pub record Written (d : List ℕ) (at : ℕ) (s : List ℕ) (r : ℕ) (e : List ℕ) : Type 0 where
  pub fits : at + length s ≤ length d
  pub position : r ≡ at + length s
  pub buffer : e ≡ stored d at s
