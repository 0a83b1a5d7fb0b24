-- Ties under algorithm 1 (document 02, M-113): two routers have the same weight exactly if their addresses agree in the low 31 bits.
--   TieExactly a d r == the weight r of the address a under the digest d is that of another address exactly if both agree in the low 31 bits
use Rattle.std.specs.Prelude.{ℕ, ◌%◌, ◌^◌, ◌≡◌}
use Rattle.hrw.specs.Weight.{weight_of}

abbrev pub TieExactly : ℕ → ℕ → ℕ → Type 0
TieExactly a d r = (b : ℕ) → ((r ≡ weight_of b d → a % 2 ^ 31 ≡ b % 2 ^ 31) × (a % 2 ^ 31 ≡ b % 2 ^ 31 → r ≡ weight_of b d))
