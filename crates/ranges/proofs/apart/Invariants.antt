-- At every turn, the range overlaps none of the rest exactly if it overlaps none of those after it. Assumes nothing.
use Rattle.std.proofs.Common.{◌≡◌, not, drop}
use mathlib.Core.List.{[]}
use lib.ListN.{get_or}
use Rattle.lists.specs.Lists.{all}
use Rattle.ranges.specs.Ranges.{overlap, ranges_of}
use Rattle.ranges.proofs.Laws.{apart_from}
use Rattle.ranges.proofs.apart.Given as goal

abbrev pub invariant-loop-j : goal.invariant-loop-j
invariant-loop-j l = all (λ q. not (overlap (get_or (ranges_of l.run) l.i []) q)) (drop l.j (ranges_of l.run)) ≡ apart_from (ranges_of l.run) l.i
