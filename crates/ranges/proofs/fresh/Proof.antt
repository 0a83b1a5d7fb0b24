-- `fresh` meets its contract: zeros are the words of no range. Assumes nothing.
use Rattle.ranges.proofs.Laws.{zeros-none}
use Rattle.ranges.proofs.fresh.Statement.{statement}
use Rattle.ranges.proofs.fresh.Tie as tie

returns : tie.Need-returns
returns c = zeros-none

pub fresh_spec : {M : Type 1} → statement M
fresh_spec =
    tie.close
    (tie.spec
    returns)
