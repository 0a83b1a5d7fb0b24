-- The digest D and the weight of document 01, "The election", algorithm 1.
--   digest_over s     == the CRC-32 of the octets s with the top bit dropped
--   digest_of tag esi == D: the digest over the Ethernet Tag in four octets, high first, then the identifier's ten
--   flow_digest_of f tag esi == D of a multicast flow (document 02, M-106): the digest over the flow's octets f, which are S and then G, or G alone, then the tag
--                       and the identifier as in D
--   weight_of a d     == the weight of the address a under the digest d
use Rattle.std.specs.Prelude.{ℕ, ◌+◌, ◌*◌, ◌%◌, ◌^◌, List, ◌++◌}
use Rattle.std.specs.Int.Bits.{bit_xor}
use Rattle.octets.specs.Octets.{octets_of}
use Rattle.crc.specs.Crc.{crc32_of}

unfoldable pub digest_over : List ℕ → ℕ
digest_over s = crc32_of s % 2 ^ 31

unfoldable pub digest_of : ℕ → List ℕ → ℕ
digest_of tag esi = digest_over (octets_of 4 tag ++ esi)

unfoldable pub flow_digest_of : List ℕ → ℕ → List ℕ → ℕ
flow_digest_of f tag esi = digest_over (f ++ (octets_of 4 tag ++ esi))

unfoldable pub weight_of : ℕ → ℕ → ℕ
weight_of a d = (1103515245 * (bit_xor (1103515245 * a + 12345) d) + 12345) % 2 ^ 31
