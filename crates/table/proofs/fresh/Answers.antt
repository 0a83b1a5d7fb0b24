-- `fresh` meets its contract: zeros are given to the identifier. Assumes nothing.
use Rattle.table.proofs.Told.{fresh-told}
use Rattle.table.proofs.fresh.Goals as goal

pub returns : goal.returns
returns c = let told = fresh-told c.args.esi.now _ _ c.give-answer.ensures in record { answer = told.0; kept = told.1 }
