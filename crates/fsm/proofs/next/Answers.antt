-- The table, written out, is computed to be the one that the rule makes, all cells at once.
use Rattle.std.proofs.Common.{get_or, ◌∙◌, ap₂}
use Rattle.fsm.specs.Machine.{next_state}
use Rattle.fsm.proofs.Laws.{cells, cell}
use Rattle.fsm.proofs.next.Goals as goal

pub returns : goal.returns
unfolding next_state
returns c = ap₂ (λ i j. get_or (get_or cells i _) j _) c.number-row.ensures c.number-column.ensures ∙ cell c.args.s c.args.e _ _
