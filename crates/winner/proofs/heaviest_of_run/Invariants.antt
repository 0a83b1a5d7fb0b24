-- Where the walk ends stays as it was, and the family at the next place does not fall. Assumes nothing.
use Rattle.std.proofs.Common.{◌-◌}
use Rattle.layout.specs.Words.{table_in}
use Rattle.places.specs.Places.{stretch}
use Rattle.winner.specs.Steps.{score_of, ending_at, Along, FamilyAt}
use Rattle.winner.proofs.heaviest_of_run.Given as goal

abbrev pub invariant-loop-i : goal.invariant-loop-i
invariant-loop-i g l =
    let es = (table_in l.t).entries in
    let S = score_of 1 l.digest in
    let from = l.fn.from in
    record { walk : Along (ending_at S es from.at (stretch from.next (l.end - from.next))) S es l.at l.top (stretch l.i (l.end - l.i)); past : FamilyAt g.row.FAMILY es l.i l.end }

abbrev pub decreases-loop-i : goal.decreases-loop-i
decreases-loop-i g l = l.end - l.i
