-- The greatest of the rank so far and those of the places left stays that of the set. Assumes nothing.
use Rattle.std.proofs.Common.{◌≡◌, ◌<◌, ◌^◌, length}
use Rattle.layout.specs.Words.{table_in}
use Rattle.places.specs.Places.{places}
use Rattle.winner.specs.Steps.{score_of, top_rank}
use Rattle.winner.proofs.best_by_runs.Given as goal

abbrev pub invariant-loop-left : goal.invariant-loop-left
invariant-loop-left g l =
    let es = (table_in l.t).entries in
    let S = score_of g.row.ALGORITHM 0 in
    record { within : l.left < 2 ^ length es; greatest : top_rank S es l.top (places l.left) ≡ top_rank S es 0 (places l.set) }

abbrev pub decreases-loop-left : goal.decreases-loop-left
decreases-loop-left g l = l.left
