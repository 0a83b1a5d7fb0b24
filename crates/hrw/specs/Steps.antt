-- What the steps of a digest promise to it. No public promise cites these.
--   over_words c s       == the CRC register after the words s, four octets each, from the state c
--   words_in n s         == the first n words of the octets s, four octets each, the first low
--   part_of p s g last   == the words of a part of a digest: part 0 is S, whose octets are s, part 1 is G, whose octets are g, and any other the words `last`
use Rattle.std.specs.Prelude.{ℕ, zero, suc, ◌/◌, List, [], ◌∷◌, length, take, drop}
use Rattle.std.specs.Int.Bits.{bit_xor}
use Rattle.octet_words.specs.Words.{low_first}
use Rattle.crc.specs.Crc.{crc_bits}

unfoldable pub over_words : ℕ → List ℕ → ℕ
over_words c [] = c
over_words c (w ∷ s) = over_words (crc_bits 32 (bit_xor c w)) s

unfoldable pub words_in : ℕ → List ℕ → List ℕ
words_in zero s = []
words_in (suc n) s = low_first (take 4 s) ∷ words_in n (drop 4 s)

unfoldable pub part_of : ℕ → List ℕ → List ℕ → List ℕ → List ℕ
part_of zero s g last = words_in (length s / 4) s
part_of (suc zero) s g last = words_in (length g / 4) g
part_of (suc (suc p)) s g last = last
