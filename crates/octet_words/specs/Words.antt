-- Octets and the numbers that they make, the first octet low: the order in which a machine keeps a word. No document asks for it; a table keeps its identifier so (`layout`).
--   low_first s     == the number that the octets s make, the first low
--   low_octets n v  == the low n octets of the number v, the lowest first
use Rattle.std.specs.Prelude.{ℕ, zero, suc, ◌+◌, ◌*◌, ◌/◌, ◌%◌, List, [], ◌∷◌}

unfoldable pub low_first : List ℕ → ℕ
low_first [] = 0
low_first (x ∷ s) = x + 256 * low_first s

unfoldable pub low_octets : ℕ → ℕ → List ℕ
low_octets zero v = []
low_octets (suc n) v = v % 256 ∷ low_octets n (v / 256)
