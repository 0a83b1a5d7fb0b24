-- What the run of records that a table is written out as does when it is played (document 02, M-112).
--   accepted_lines n   == the lines of n announcements that are accepted: `a 0` for each
--   PlaysBack s t     == played from the start, the octets s print `p 0` and an `a 0` for each entry of the table t, and leave that table
use Rattle.std.specs.Prelude.{ℕ, zero, suc, ◌≡◌, List, [], ◌++◌, length}
use Rattle.layout.specs.Table.{Table}
use Rattle.answer_lines.specs.AnswerLines.{line}
use Rattle.records.specs.Records.{run_of}
use Rattle.replays.specs.Played.{Leaves}

unfoldable pub accepted_lines : ℕ → List ℕ
accepted_lines zero = []
accepted_lines (suc n) = line 97 0 ++ accepted_lines n

pub record PlaysBack (s : List ℕ) (t : Table) : Type 0 where
  pub lines : run_of s ≡ line 112 0 ++ accepted_lines (length t.entries)
  pub table : Leaves s t
