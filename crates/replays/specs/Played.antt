-- What a run of bench records prints and leaves (document 02, M-112; document 01, "The bench program"). What it prints is the run of `records`, which is so one part of it.
--   Played              == what is printed, and the state after it
--   played_on b f go     == what is printed and left from the state b with f at the front of the input; go says it of what follows a record
--   played_for n b s     == the same of the octets s, of at most n records
--   played_from b s      == the same of all records of the octets s
--   played s            == the same from the start
--   Leaves s t          == the octets s are a log that leaves the table t: its first record is accepted, and no record is bad, which would end the run
--   AnswersAlike s u    == whatever follows the log s and the log u, the answers to it are the same
use Rattle.std.specs.Prelude.{ℕ, zero, suc, ◌≡◌, cond, List, [], ◌++◌, length}
use Rattle.layout.specs.Table.{Table}
use Rattle.frames.specs.Frames.{Front, nothing, bad, cut, whole, front}
use Rattle.answer_lines.specs.AnswerLines.{bad_line}
use Rattle.turns.specs.Turns.{Bench, running, at_end}
use Rattle.records.specs.Records.{turn, has_ended, first, run_of}

pub record Played : Type 0 where
  pub lines : List ℕ
  pub state : Bench

unfoldable pub played_on : Bench → Front → (Bench → List ℕ → Played) → Played
played_on b nothing go = record { lines = []; state = b }
played_on b bad go = record { lines = bad_line; state = at_end b.table }
played_on b cut go = record { lines = bad_line; state = at_end b.table }
played_on b (whole k p r) go = record { lines = (turn b k p).line ++ (go (turn b k p).next r).lines; state = (go (turn b k p).next r).state }

unfoldable pub played_for : ℕ → Bench → List ℕ → Played
played_for zero b s = record { lines = []; state = b }
played_for (suc n) b s = cond (has_ended b) (record { lines = []; state = b }) (played_on b (front s) (played_for n))

unfoldable pub played_from : Bench → List ℕ → Played
played_from b s = played_for (length s) b s

unfoldable pub played : List ℕ → Played
played s = played_from first s

-- LOGS
abbrev pub Leaves : List ℕ → Table → Type 0
Leaves s t = (played s).state ≡ running t

pub record AnswersAlike (s u : List ℕ) : Type 0 where
  pub later : List ℕ → List ℕ
  pub whole : (c : List ℕ) → run_of (s ++ c) ≡ run_of s ++ later c
  pub short : (c : List ℕ) → run_of (u ++ c) ≡ run_of u ++ later c
