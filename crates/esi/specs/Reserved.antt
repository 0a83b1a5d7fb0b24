-- Reserved identifiers, after document 01, "The route": ten octets 00 or ten octets FF, and wherever an identifier is handed in, one that is not ten octets.
--   reserved s        == whether the identifier s is reserved
use Rattle.std.specs.Prelude.{ℕ, Bool, not, ◌||◌, List, length, eqb}
use Rattle.octets.specs.Octets.{all_are}

unfoldable pub reserved : List ℕ → Bool
reserved s = not (eqb (length s) 10) || (all_are 0 s || all_are 255 s)
