-- What a turn that is taken promises (document 01, "The bench program").
--   Stepped d at u r w e == the turn u was taken: its line is written at position `at` of the buffer that held d, which then holds e; the phase in the
--                           answer r and the table in the words w are the state after it, and r holds the position after the line
use Rattle.std.specs.Prelude.{ℕ, ◌≡◌, List}
use Rattle.layout.specs.Words.{Valid}
use Rattle.answer_lines.specs.AnswerLines.{Written}
use Rattle.turns.specs.declared.Step.{Step}
use Rattle.turns.specs.Turns.{Turn, state_in}

pub record Stepped (d : List ℕ) (at : ℕ) (u : Turn) (r : Step) (w e : List ℕ) : Type 0 where
  pub put : Written d at u.line r.at e
  pub next : state_in r.phase w ≡ u.next
  pub kept : Valid w
