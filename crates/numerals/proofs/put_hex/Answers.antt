-- Each octet puts two digits more; at the end the text is all of them.
use Rattle.std.proofs.Common.{◌≡◌, ◌*◌, sym, ◌∙◌, arith}
use lib.ListN.{length-set}
use lib.Seq.{take_all}
use Rattle.lines.specs.Lines.{hex}
use Rattle.lines.proofs.Laws.{length-hex, put_as}
use Rattle.numerals.proofs.Steps.{hex-turn}
use Rattle.numerals.proofs.put_hex.Goals as goal

pub loop-i-preserved : goal.loop-i-preserved
loop-i-preserved c =
    let l = c.loop-i in
    (simp length-set l.invariant.0, hex-turn l.text c.args.s l.i _ _ (omega (arith, c.well_formed)) (omega (arith, c.well_formed)) l.invariant.1 c.hex_digit.ensures c.hex_digit-in-loop-i.ensures)

pub returns : goal.returns
returns c =
    let l = c.loop-i in
    let n : 2 * l.i ≡ 32 = omega (arith, c.well_formed) in
    put_as c.put_run.ensures (sym (take_all 32 l.text (omega arith)) ∙ rw n at l.invariant.1 ∙ take_all 32 (hex c.args.s) (omega (arith, length-hex c.args.s, c.well_formed)))
