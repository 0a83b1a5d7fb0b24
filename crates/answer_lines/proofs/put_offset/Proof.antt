-- `put_offset` meets its contract: the six pieces of the line are put one after another, and there is room for them. Assumes nothing.
use native.Mathlib.Omega.{arith}
use mathlib.Core.Path.{refl}
use Rattle.lines.proofs.Laws.{put_next}
use Rattle.answer_lines.specs.AnswerLines.{offset_line}
use Rattle.answer_lines.proofs.Laws.{written_all, length-offset}
use borrow.Author.Rules.{rules}
use Rattle.answer_lines.proofs.put_offset.Statement.{statement}
use Rattle.answer_lines.proofs.put_offset.Tie as tie

returns : tie.Need-returns
unfolding offset_line
returns c =
    let p6 = c.before.before in
    let p5 = p6.before.before.before.before in
    let p4 = p5.before.before.before.before in
    let p3 = p4.before.before.before.before in
    let p2 = p3.before.before.before.before in
    let p1 = p2.before.before.before.before in
    let s = p1.before.before.before in
    written_all
    (put_next p1.put_octet-end.ensures
    (put_next p2.put_octet-end-2.ensures
    (put_next p3.put_decimal-end.ensures (put_next p4.put_octet-end-3.ensures (put_next p5.put_decimal-end-2.ensures (λ _. p6.put_octet.ensures))))))
    refl
    (omega (arith, length-offset s.args.letter s.args.number s.args.offset (omega arith) (omega arith), s.requires))

pub put_offset_spec : {M : Type 1} → statement M
put_offset_spec =
    tie.close
    (tie.spec
    (λ c κs. search rules)
    (λ c κs. search rules)
    (λ c κs. search rules)
    (λ c κs. search rules)
    (λ c κs. search rules)
    (λ c κs. search rules)
    (λ c. search rules)
    returns)
