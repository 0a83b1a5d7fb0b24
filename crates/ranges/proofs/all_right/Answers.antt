-- `all_right`: a turn that finds a range that may be none, one that overlaps another, one that is right, and the end. Assumes nothing.
use Prim.Native.Nat.{◌/◌}
use native.Mathlib.Omega.{arith}
use mathlib.Core.Path.{sym, ◌∙◌}
use lib.ListN.{length}
use Rattle.rows.proofs.Rows.{rows-length}
use Rattle.ranges.specs.Ranges.{ranges_of}
use Rattle.ranges.proofs.Laws.{right_from, from_wrong, from-overlapped, from_next, from_end}
use Rattle.ranges.proofs.all_right.Goals as goal

pub returns-then-not-range_right : goal.returns-then-not-range_right
returns-then-not-range_right c =
    let l = ranges_of c.args.run.now in
    from_wrong l c.loop-i.i (right_from l 0) c.loop-i.invariant (omega (arith, rows-length 3 (length c.args.run.now / 3) c.args.run.now, c.loop-i-test.true)) (sym c.range_right.ensures ∙ c.if-not-range_right.true)

pub returns-then-not-apart : goal.returns-then-not-apart
returns-then-not-apart c =
    let l = ranges_of c.args.run.now in
    from-overlapped l c.loop-i.i (right_from l 0) c.loop-i.invariant (omega (arith, rows-length 3 (length c.args.run.now / 3) c.args.run.now, c.loop-i-test.true)) (sym c.apart.ensures ∙ c.if-not-apart.true)

pub loop-i-preserved : goal.loop-i-preserved
loop-i-preserved c =
    let l = ranges_of c.args.run.now in
    from_next l c.loop-i.i (right_from l 0) c.loop-i.invariant (omega (arith, rows-length 3 (length c.args.run.now / 3) c.args.run.now, c.loop-i-test.true)) (sym c.range_right.ensures ∙ c.if-not-range_right.false) (sym c.apart.ensures ∙ c.if-not-apart.false)

pub returns : goal.returns
returns c =
    let l = ranges_of c.args.run.now in
    from_end l c.loop-i.i (right_from l 0) c.loop-i.invariant (omega (arith, rows-length 3 (length c.args.run.now / 3) c.args.run.now, c.loop-i-test.false))
