-- Ethernet Tags (document 01, "The election": 10 for a reserved tag).
--   reserved_tag tag  == whether the tag is 0 or 4,294,967,295
use Rattle.std.specs.Prelude.{ℕ, Bool, ◌||◌, eqb}

unfoldable pub reserved_tag : ℕ → Bool
reserved_tag tag = eqb tag 0 || eqb tag 4294967295
