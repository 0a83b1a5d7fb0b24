-- `put_read` meets its contract: which line that of what was read is. Assumes nothing.
use mathlib.Core.Path.{sym, ◌∙◌}
use Rattle.answer_lines.proofs.Laws.{written_as, read-offset, read_none}
use borrow.Author.Rules.{rules}
use Rattle.answer_lines.proofs.put_read.Statement.{statement}
use Rattle.answer_lines.proofs.put_read.Tie as tie

returns : tie.Need-returns-then-has_offset
returns c =
    let test = c.before.before.before.before in
    written_as c.put_offset.ensures (read-offset _ _ _ (sym test.has_offset.ensures ∙ test.if-has_offset.true))

returns-2 : tie.Need-returns
returns-2 c =
    let test = c.before.before.before.before in
    written_as c.put_line.ensures (read_none _ _ _ (sym test.has_offset.ensures ∙ test.if-has_offset.false))

pub put_read_spec : {M : Type 1} → statement M
put_read_spec =
    tie.close
    (tie.spec
    (λ c κs. search rules)
    (λ c κs. search rules)
    (λ c. search rules)
    returns
    (λ c κs. search rules)
    (λ c. search rules)
    returns-2)
