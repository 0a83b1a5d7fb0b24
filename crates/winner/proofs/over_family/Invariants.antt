-- Where the walk ends stays as it was, and the family at the first of the places left does not fall. Assumes nothing.
use Rattle.layout.specs.Words.{table_in}
use Rattle.winner.specs.Steps.{score_of, ending, Toward, FamilyFrom}
use Rattle.winner.proofs.over_family.Given as goal

abbrev pub invariant-loop-left : goal.invariant-loop-left
invariant-loop-left g l =
    let es = (table_in l.t).entries in
    let S = score_of 1 l.digest in
    record { walk : Toward (ending S es l.fn.from.at l.fn.from.left) S es l.at l.top l.left; past : FamilyFrom g.row.FAMILY es l.left }

abbrev pub decreases-loop-left : goal.decreases-loop-left
decreases-loop-left g l = l.left
