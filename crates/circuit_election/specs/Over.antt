-- The election over both tables (document 02, M-102): that of a plain query, with the list of the ready routers that stand in the route table.
--   elect_over s i l c tag   == the whole answer, where s is set, l are the entries of the table of i, and c are the A-D routes that stand
use Rattle.std.specs.Prelude.{ℕ, List}
use Rattle.layout.specs.Table.{Entry}
use Rattle.settings.specs.Settings.{Settings}
use Rattle.circuit_ready.specs.Routers.{ready_routers}
use Rattle.answers.specs.Answers.{Answer}
use Rattle.election.specs.Queries.{plain, elect_with}

unfoldable pub elect_over : Settings → List ℕ → List Entry → List (List ℕ) → ℕ → Answer
elect_over s i l c tag = elect_with s plain i l tag (ready_routers c tag l)
