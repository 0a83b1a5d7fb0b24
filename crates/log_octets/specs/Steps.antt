-- What the steps of the writer promise to it. No public promise cites this.
--   record_length f   == how long the record of an announcement is, by the family f of its address: head, route and community
use Rattle.std.specs.Prelude.{ℕ, cond, eqb}

unfoldable pub record_length : ℕ → ℕ
record_length f = cond (eqb f 6) 49 37
