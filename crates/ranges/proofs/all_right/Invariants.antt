-- At every turn, the rest is right and apart exactly if all ranges are. Assumes nothing.
use Rattle.std.proofs.Common.{◌≡◌}
use Rattle.ranges.specs.Ranges.{ranges_of}
use Rattle.ranges.proofs.Laws.{right_from}
use Rattle.ranges.proofs.all_right.Given as goal

abbrev pub invariant-loop-i : goal.invariant-loop-i
invariant-loop-i l = right_from (ranges_of l.run) l.i ≡ right_from (ranges_of l.run) 0
