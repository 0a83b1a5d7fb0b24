-- `fresh` meets its contract: zeros are the words of no route. Assumes nothing.
use Rattle.circuits.proofs.Told.{fresh-told}
use Rattle.circuits.proofs.fresh.Statement.{statement}
use Rattle.circuits.proofs.fresh.Tie as tie

returns : tie.Need-returns
returns c = fresh-told

pub fresh_spec : {M : Type 1} → statement M
fresh_spec =
    tie.close
    (tie.spec
    returns)
