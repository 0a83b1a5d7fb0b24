-- A dump read from left to right (document 02, M-111), in the steps that the code takes.
--   record_read a f k p n == what is read where a record of kind k with the payload p ends before position n, in a search for the address a; it is the first where f says so
--   front_read a at f     == what is read at position `at`, with f at the front
--   read_at a s at        == what is read at position `at` of the octets s
use Rattle.std.specs.Prelude.{ℕ, ◌+◌, Bool, cond, List, length, drop, eqb}
use Rattle.frames.specs.Frames.{Front, nothing, bad, cut, whole, front}
use Rattle.judgement.specs.Judgement.{judged_of, is_bad}
use Rattle.dumps.specs.Dumps.{counts}
use Rattle.dumps.specs.declared.Read.{Read}
use Rattle.dumps.specs.declared.Read.TheVariants.{End, Broken, Passed, Counted}

unfoldable pub record_read : List ℕ → Bool → ℕ → List ℕ → ℕ → Read
record_read a f k p n = cond (is_bad (judged_of f k p)) Broken (cond (counts a k p) (Counted n) (Passed n))

unfoldable pub front_read : List ℕ → ℕ → Front → Read
front_read a at nothing = End
front_read a at bad = Broken
front_read a at cut = Broken
front_read a at (whole k p r) = record_read a (eqb at 0) k p (at + 4 + length p)

unfoldable pub read_at : List ℕ → List ℕ → ℕ → Read
read_at a s at = front_read a at (front (drop at s))
