-- At every turn, the words of the places so far are laid. Assumes nothing.
use Rattle.std.proofs.Common.{◌≡◌}
use lib.Seq.{paste}
use Rattle.rows.specs.Rows.{column}
use Rattle.ranges.specs.Ranges.{ranges_of}
use Rattle.ranges.proofs.put.Given as goal

abbrev pub invariant-loop-i : goal.invariant-loop-i
invariant-loop-i l = l.b ≡ paste l.initial.b 1 (column 3 16 (ranges_of l.run)) l.i
