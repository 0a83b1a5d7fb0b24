-- CRC-32 by document 01's house rule ("The election", algorithm 1): the one of IEEE 802.3, reflected, starting with all ones,
-- inverted at the end. The register is a number of 32 bits.
--   polynomial       == the polynomial of IEEE 802.3, reflected
--   all_ones          == the register of 32 ones
--   crc_bit c         == the register after one bit: c halved, xor the polynomial where c is odd
--   crc_bits n c      == the register after n bits
--   crc_octet c x     == the register after the octet x
--   crc_over c s      == the register after the octets s, one after the other
--   crc32_of s        == the CRC-32 of the octets s
use Rattle.std.specs.Prelude.{ℕ, zero, suc, ◌/◌, ◌%◌, cond, List, [], ◌∷◌, eqb}
use Rattle.std.specs.Int.Bits.{bit_xor}

abbrev pub polynomial : ℕ
polynomial = 0xEDB8_8320

abbrev pub all_ones : ℕ
all_ones = 0xFFFF_FFFF

unfoldable pub crc_bit : ℕ → ℕ
crc_bit c = bit_xor (cond (eqb (c % 2) 1) polynomial 0) (c / 2)

unfoldable pub crc_bits : ℕ → ℕ → ℕ
crc_bits zero c = c
crc_bits (suc n) c = crc_bits n (crc_bit c)

unfoldable pub crc_octet : ℕ → ℕ → ℕ
crc_octet c x = crc_bits 8 (bit_xor c x)

unfoldable pub crc_over : ℕ → List ℕ → ℕ
crc_over c [] = c
crc_over c (x ∷ s) = crc_over (crc_octet c x) s

unfoldable pub crc32_of : List ℕ → ℕ
crc32_of s = bit_xor (crc_over all_ones s) all_ones
