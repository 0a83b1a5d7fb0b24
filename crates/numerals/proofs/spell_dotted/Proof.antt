-- `spell_dotted` meets its contract: four octets and three dots, put one after the other, are one piece. Assumes nothing.
use native.Mathlib.Omega.{arith}
use Rattle.lines.proofs.Laws.{put_all, put_next, length-dotted}
use Rattle.numerals.proofs.Steps.{dotted-parts}
use borrow.Author.Rules.{rules}
use Rattle.numerals.proofs.spell_dotted.Statement.{statement}
use Rattle.numerals.proofs.spell_dotted.Tie as tie

returns : tie.Need-returns
returns c =
    let p7 = c.before.before in
    let p6 = p7.before.before.before.before in
    let p5 = p6.before.before.before.before in
    let p4 = p5.before.before.before.before in
    let p3 = p4.before.before.before.before in
    let p2 = p3.before.before.before.before in
    let p1 = p2.before.before.before.before in
    let o = p1.before.before.before in
    let a = o.args in
    let pieces =
    put_next p1.put_small-end.ensures
    (put_next p2.put_octet-end.ensures
    (put_next p3.put_small-end-2.ensures
    (put_next p4.put_octet-end-2.ensures
    (put_next p5.put_small-end-3.ensures
    (put_next p6.put_octet-end-3.ensures (λ _. p7.put_small.ensures))))))
    in
    put_all pieces (dotted-parts a.a a.b a.c a.d)
    (omega (arith, length-dotted a.a a.b a.c a.d o.ranges.a.fits o.ranges.b.fits o.ranges.c.fits o.ranges.d.fits, o.requires))

pub spell_dotted_spec : {M : Type 1} → statement M
spell_dotted_spec =
    tie.close
    (tie.spec
    (λ c κs. search rules)
    (λ c κs. search rules)
    (λ c κs. search rules)
    (λ c κs. search rules)
    (λ c κs. search rules)
    (λ c κs. search rules)
    (λ c κs. search rules)
    (λ c. search rules)
    returns)
