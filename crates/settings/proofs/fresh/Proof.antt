-- `fresh` meets its contract: zeros are the words of none set. Assumes nothing.
use Rattle.settings.proofs.Laws.{zeros-none}
use Rattle.settings.proofs.fresh.Statement.{statement}
use Rattle.settings.proofs.fresh.Tie as tie

returns : tie.Need-returns
returns c = zeros-none

pub fresh_spec : {M : Type 1} → statement M
fresh_spec =
    tie.close
    (tie.spec
    returns)
