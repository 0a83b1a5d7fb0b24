-- `first_wrong` at its end: past the 29 characters the first wrong offset is 29. The check proves the rest.
use Rattle.std.proofs.Common.{◌≡◌, arith, sym, ◌∙◌}
use Rattle.esi.proofs.Places.{wrong_past}
use Rattle.esi.proofs.first_wrong.Goals as goal

pub returns : goal.returns
returns c =
    let all : 29 ≡ c.loop-i.i = omega arith in
    all ∙ sym (c.loop-i.invariant ∙ wrong_past c.args.text.now c.loop-i.i (omega arith))
