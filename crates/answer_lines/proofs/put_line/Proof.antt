-- `put_line` meets its contract: the four pieces of the line are put one after another, and there is room for them. Assumes nothing.
use native.Mathlib.Omega.{arith}
use mathlib.Core.Path.{refl}
use Rattle.lines.proofs.Laws.{put_next}
use Rattle.answer_lines.specs.AnswerLines.{line}
use Rattle.answer_lines.proofs.Laws.{written_all, length-line}
use borrow.Author.Rules.{rules}
use Rattle.answer_lines.proofs.put_line.Statement.{statement}
use Rattle.answer_lines.proofs.put_line.Tie as tie

returns : tie.Need-returns
unfolding line
returns c =
    let p4 = c.before.before in
    let p3 = p4.before.before.before.before in
    let p2 = p3.before.before.before.before in
    let p1 = p2.before.before.before.before in
    let a = p1.args in
    written_all (put_next p1.put_octet-next.ensures (put_next p2.put_octet-next-2.ensures (put_next p3.put_decimal-next.ensures (λ _. p4.put_octet.ensures))))
    refl
    (omega (arith, length-line a.letter a.number (omega arith), p1.requires))

pub put_line_spec : {M : Type 1} → statement M
put_line_spec =
    tie.close
    (tie.spec
    (λ c κs. search rules)
    (λ c κs. search rules)
    (λ c κs. search rules)
    (λ c κs. search rules)
    (λ c. search rules)
    returns)
