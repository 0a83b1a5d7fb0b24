-- `apart`: a turn that finds an overlap, one that finds none, and the end. Assumes nothing.
use Prim.Native.Nat.{◌/◌}
use native.Mathlib.Omega.{arith}
use mathlib.Core.Path.{ap, sym, ◌∙◌}
use mathlib.Core.Bool.{not}
use mathlib.Core.List.{[]}
use lib.ListN.{length, get_or}
use Rattle.rows.proofs.Rows.{rows-length}
use Rattle.ranges.specs.Ranges.{overlap, ranges_of}
use Rattle.ranges.proofs.Laws.{apart_from, all_found, all-next, all_end}
use Rattle.ranges.proofs.apart.Goals as goal

pub returns-then-overlaps : goal.returns-then-overlaps
returns-then-overlaps c =
    let w = c.args.run.now in
    let i = c.args.i in
    all_found (λ q. not (overlap (get_or (ranges_of w) i []) q)) (ranges_of w) [] c.loop-j.j (apart_from (ranges_of w) i) c.loop-j.invariant (omega (arith, rows-length 3 (length w / 3) w, c.loop-j-test.true)) (ap not (sym c.overlaps.ensures ∙ c.if-overlaps.true))

pub loop-j-preserved : goal.loop-j-preserved
loop-j-preserved c =
    let w = c.args.run.now in
    let i = c.args.i in
    all-next (λ q. not (overlap (get_or (ranges_of w) i []) q)) (ranges_of w) [] c.loop-j.j (apart_from (ranges_of w) i) c.loop-j.invariant (omega (arith, rows-length 3 (length w / 3) w, c.loop-j-test.true)) (ap not (sym c.overlaps.ensures ∙ c.if-overlaps.false))

pub returns : goal.returns
returns c =
    let w = c.args.run.now in
    let i = c.args.i in
    all_end (λ q. not (overlap (get_or (ranges_of w) i []) q)) (ranges_of w) [] c.loop-j.j (apart_from (ranges_of w) i) c.loop-j.invariant (omega (arith, rows-length 3 (length w / 3) w, c.loop-j-test.false))
