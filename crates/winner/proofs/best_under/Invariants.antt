-- At every turn, the walk ends at the best of the set. Assumes nothing.
use Rattle.layout.specs.Table.{no_entry}
use Rattle.layout.specs.Words.{table_in}
use Rattle.places.specs.Places.{places}
use Rattle.choice.specs.Choice.{best_in, higher}
use Rattle.winner.specs.Winner.{entries_at}
use Rattle.winner.specs.Steps.{score_of, Toward}
use Rattle.winner.proofs.best_under.Given as goal

abbrev pub invariant-loop-left : goal.invariant-loop-left
invariant-loop-left g l =
    let es = (table_in l.t).entries in
    let S = score_of g.row.ALGORITHM 0 in
    Toward (best_in (higher S) no_entry (entries_at es (places l.set))) S es l.at l.top l.left

abbrev pub decreases-loop-left : goal.decreases-loop-left
decreases-loop-left g l = l.left
