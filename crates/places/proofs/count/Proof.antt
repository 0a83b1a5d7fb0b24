-- `count` meets its contract: a set has as many places as ones. Assumes nothing.
use mathlib.Core.Path.{refl, sym}
use Rattle.places.proofs.Laws.{length-places}
use Rattle.places.proofs.count.Statement.{statement}
use Rattle.places.proofs.count.Tie as tie

returns : tie.Need-returns
returns c = (sym (length-places c.args.s c.ranges.s.fits), refl)

pub count_spec : {M : Type 1} → statement M
count_spec =
    tie.close
    (tie.spec
    returns)
