-- At every turn, nothing differs so far and the places left carry the algorithm exactly if all do.
use Rattle.std.proofs.Common.{◌≡◌, ◌-◌, ◌&&◌, eqb}
use Rattle.layout.specs.Words.{table_in}
use Rattle.places.specs.Places.{stretch}
use Rattle.returning.proofs.Laws.{under}
use Rattle.returning.proofs.differing.Given as goal

abbrev pub invariant-loop-i : goal.invariant-loop-i
invariant-loop-i l =
    let es = (table_in l.t).entries in
    (eqb l.differ 0 && under es l.algorithm (stretch l.i (l.end - l.i))) ≡ (eqb l.before 0 && under es l.algorithm (stretch l.from (l.end - l.from)))
