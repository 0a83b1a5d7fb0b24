-- Octets and the numbers that they make, high octet first, as document 01 writes every field ("The route", "The community").
--   number_of s        == the number that the octets s make
--   word_at i s        == the number that the four octets of s from offset i on make
--   octets_of n v      == the low n octets of the number v
--   same_numbers a b    == whether a and b are the same numbers, one by one
--   all_are x s        == whether every octet of s is x
--   hex_digit n        == the hexadecimal digit of the low four bits of n, in lower case
--   stored d at s     == d with s in the places from `at` on; d itself where s does not fit
use Rattle.std.specs.Prelude.{ℕ, zero, suc, ◌+◌, ◌*◌, ◌/◌, ◌%◌, ◌^◌, Bool, true, false, cond, ◌&&◌, List, [], ◌∷◌, ◌++◌, length, take, drop, leb, ltb, eqb}
use Rattle.lists.specs.Lists.{all}

unfoldable pub number_of : List ℕ → ℕ
number_of [] = 0
number_of (x ∷ s) = x * 256 ^ length s + number_of s

abbrev pub word_at : ℕ → List ℕ → ℕ
word_at i s = number_of (take 4 (drop i s))

unfoldable pub octets_of : ℕ → ℕ → List ℕ
octets_of zero v = []
octets_of (suc n) v = v / 256 ^ n % 256 ∷ octets_of n v

unfoldable pub same_numbers : List ℕ → List ℕ → Bool
same_numbers [] [] = true
same_numbers [] (y ∷ b) = false
same_numbers (x ∷ a) [] = false
same_numbers (x ∷ a) (y ∷ b) = eqb x y && same_numbers a b

unfoldable pub all_are : ℕ → List ℕ → Bool
all_are x s = all (λ y. eqb y x) s

-- 48 is the character 0, and 97 the character a
unfoldable pub hex_digit : ℕ → ℕ
hex_digit n = cond (ltb (n % 16) 10) (48 + n % 16) (87 + n % 16)

unfoldable pub stored : List ℕ → ℕ → List ℕ → List ℕ
stored d at s = cond (leb (at + length s) (length d)) (take at d ++ s ++ drop (at + length s) d) d
