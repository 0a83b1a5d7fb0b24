-- The text of an identifier, after document 01, "The plate" (its word for this text): 29 characters, ten pairs of digits with a colon between pairs.
-- A offset of a text is counted from 0. A colon is the character 58.
--   between a b c       == whether c is one of the characters from a to b
--   value_of_digit c        == the number of the digit c, which is one of 0-9, a-f, A-F; 16 where c is no digit
--   right_at i c         == whether c may stand at offset i: a colon where i % 3 is 2, else a digit
--   wrong_from i t       == the first offset of a wrong character, where t stands from offset i on; the offset after t if there is none
--   first_wrong t        == the first offset of a wrong character among the first 29; else the length of t if that is under 29, else 29
--   right_in t i         == whether a right character stands at offset i of t: i is one of the 29 places, and the character there is neither missing nor wrong
--   FirstFault t p      == the characters of t before offset p are right, and the one at p is not: it is wrong, or missing, or one too many
--   well_formed t        == whether t is 29 characters and none is wrong
--   octet_at t k         == octet k of the identifier that t says
--   esi_in t             == the identifier that t says
--   TextRead            == what reading a text gives: 0, offset 0 and the identifier, or a refusal number, an offset and ten zeros
--   accepted s          == the answer with the identifier s
--   refused n p         == the refusal n, with the offset p and ten zeros
--   told_text r         == the answer that the reader's result r is
--   read_text t          == the answer for the text t; with 13 its offset is that of the first fault (document 02, M-103), else it is 0
--   character_at s i          == the character at offset i of the text of the identifier s
--   text_of s            == the text of the identifier s
--   lower_character c    == c in lower case if it is a digit A-F, else c
--   lower_case t         == t with each such digit in lower case
--   write_text_number n s == the number answered for writing the identifier s into a buffer of n characters
--   text_written d s     == the buffer d after that
use Rattle.std.specs.Prelude.{ℕ, suc, ◌+◌, ◌-◌, ◌*◌, ◌/◌, ◌%◌, ◌<◌, ◌≡◌, Bool, true, false, cond, not, ◌&&◌, List, [], ◌∷◌, ◌++◌, map, length, get_or, take, drop, replicate, leb, ltb, eqb, Result, Ok, Err}
use Rattle.lists.specs.Checks.{first_refusal}
use Rattle.lists.specs.Lists.{tabulate}
use Rattle.octets.specs.Octets.{hex_digit}
use Rattle.refusals.specs.Refusals.{esi_text, esi_reserved, buffer_short}
use Rattle.refusals.specs.Numbers.{refusal_number}
use Rattle.refusals.specs.declared.RefusalAt.{RefusalAt}
use Rattle.esi.specs.Reserved.{reserved}

abbrev pub between : ℕ → ℕ → ℕ → Bool
between a b c = leb a c && leb c b

-- 48 to 57 are 0-9, 97 to 102 are a-f, 65 to 70 are A-F; O is 79 and l is 108
unfoldable pub value_of_digit : ℕ → ℕ
value_of_digit c = cond (between 48 57 c) (c - 48) (cond (between 97 102 c) (c - 87) (cond (between 65 70 c) (c - 55) 16))

unfoldable pub right_at : ℕ → ℕ → Bool
right_at i c = cond (eqb (i % 3) 2) (eqb c 58) (ltb (value_of_digit c) 16)

unfoldable pub wrong_from : ℕ → List ℕ → ℕ
wrong_from i [] = i
wrong_from i (c ∷ t) = cond (right_at i c) (wrong_from (suc i) t) i

unfoldable pub first_wrong : List ℕ → ℕ
first_wrong t = wrong_from 0 (take 29 t)

-- what the offset of a refused text tells the person who reads it
unfoldable pub right_in : List ℕ → ℕ → Bool
right_in t i = ltb i 29 && (ltb i (length t) && right_at i (get_or t i 0))

abbrev pub FirstFault : List ℕ → ℕ → Type 0
FirstFault t p = ((i : ℕ) → i < p → right_in t i ≡ true) × (right_in t p ≡ false)

unfoldable pub well_formed : List ℕ → Bool
well_formed t = eqb (length t) 29 && eqb (first_wrong t) 29

unfoldable pub octet_at : List ℕ → ℕ → ℕ
octet_at t k = value_of_digit (get_or t (3 * k) 0) * 16 + value_of_digit (get_or t (3 * k + 1) 0)

unfoldable pub esi_in : List ℕ → List ℕ
esi_in t = tabulate 10 (octet_at t)

pub record TextRead : Type 0 where
  pub number : ℕ
  pub offset : ℕ
  pub esi : List ℕ

abbrev pub accepted : List ℕ → TextRead
accepted s = record { number = 0; offset = 0; esi = s }

abbrev pub refused : ℕ → ℕ → TextRead
refused n p = record { number = n; offset = p; esi = replicate 10 0 }

abbrev pub told_text : Result (List ℕ) RefusalAt → TextRead
told_text (Ok s) = accepted s
told_text (Err r) = refused (refusal_number r.refusal) r.offset

unfoldable pub read_text : List ℕ → TextRead
read_text t = cond (not (well_formed t)) (refused esi_text (first_wrong t)) (cond (reserved (esi_in t)) (refused esi_reserved 0) (accepted (esi_in t)))

unfoldable pub character_at : List ℕ → ℕ → ℕ
character_at s i = cond (eqb (i % 3) 2) 58 (hex_digit (cond (eqb (i % 3) 0) (get_or s (i / 3) 0 / 16) (get_or s (i / 3) 0 % 16)))

unfoldable pub text_of : List ℕ → List ℕ
text_of s = tabulate 29 (character_at s)

unfoldable pub lower_character : ℕ → ℕ
lower_character c = cond (between 65 70 c) (c + 32) c

unfoldable pub lower_case : List ℕ → List ℕ
lower_case t = map lower_character t

unfoldable pub write_text_number : ℕ → List ℕ → ℕ
write_text_number n s =
    first_refusal (
    (reserved s, esi_reserved)
    ∷ (ltb n 29, buffer_short)
    ∷ []
    )

unfoldable pub text_written : List ℕ → List ℕ → List ℕ
text_written d s = cond (eqb (write_text_number (length d) s) 0) (text_of s ++ drop 29 d) d
