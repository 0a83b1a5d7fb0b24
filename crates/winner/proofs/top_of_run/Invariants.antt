-- The greatest of the rank so far and those of the places left stays as it was. Assumes nothing.
use Rattle.std.proofs.Common.{◌≡◌, ◌-◌}
use Rattle.layout.specs.Words.{table_in}
use Rattle.places.specs.Places.{stretch}
use Rattle.winner.specs.Steps.{score_of, top_rank}
use Rattle.winner.proofs.top_of_run.Given as goal

abbrev pub invariant-loop-i : goal.invariant-loop-i
invariant-loop-i g l =
    let es = (table_in l.t).entries in
    let S = score_of g.row.ALGORITHM 0 in
    top_rank S es l.top (stretch l.i (l.end - l.i)) ≡ top_rank S es l.best (stretch l.from (l.end - l.from))
