-- `put_elected` meets its contract: the five pieces of the line are put one after another, and there is room for them. Assumes nothing.
use native.Mathlib.Omega.{arith}
use mathlib.Core.Path.{refl}
use Rattle.lines.proofs.Laws.{put_next}
use Rattle.answer_lines.specs.AnswerLines.{elected_line}
use Rattle.answer_lines.proofs.Laws.{written_all, length-elected}
use borrow.Author.Rules.{rules}
use Rattle.query_lines.proofs.put_elected.Statement.{statement}
use Rattle.query_lines.proofs.put_elected.Tie as tie

returns : tie.Need-returns
unfolding elected_line
returns c =
    written_all (put_next c.put_run-end.ensures (put_next c.put_address-end.ensures (put_next c.put_octet-end.ensures (put_next c.put_decimal-end.ensures (λ _. c.put_octet.ensures)))))
    refl
    (omega (arith, length-elected c.args.family c.args.address c.args.n (omega (arith, c.well_formed)) (omega arith), c.requires))

pub put_elected_spec : {M : Type 1} → statement M
put_elected_spec =
    tie.close
    (tie.spec
    (λ c κs. search rules)
    (λ c κs. search rules)
    (λ c κs. search rules)
    (λ c κs. search rules)
    (λ c κs. search rules)
    (λ c. search rules)
    returns)
