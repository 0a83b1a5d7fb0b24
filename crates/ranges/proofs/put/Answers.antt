-- `put`: the number of ranges fits its word, a turn lays one word more, and all of them are the ranges'. Assumes nothing.
use Prim.Native.Nat.{◌/◌}
use native.Mathlib.Omega.{arith}
use mathlib.Core.Path.{sym, ◌∙◌}
use lib.ListN.{length, set, length-set}
use Rattle.rows.specs.Rows.{column}
use Rattle.ranges.specs.Ranges.{ranges_of}
use Rattle.ranges.proofs.Laws.{may-few, place-words, length-places, laid, laid_next, words-laid}
use Rattle.ranges.proofs.put.Goals as goal

pub overflow_cast-b : goal.overflow_cast-b
overflow_cast-b c = record { fits = omega (arith, may-few c.args.run.now c.requires.1) }

pub loop-i-preserved : goal.loop-i-preserved
loop-i-preserved c =
    let b = c.args.b.now in
    let w = c.args.run.now in
    let n = length w / 3 in
    laid_next (set b 0 n) (column 3 16 (ranges_of w)) c.loop-i.b c.loop-i.i c.number_at.result (length-set b 0 n ∙ c.requires.0) (length-places w c.requires.1) c.loop-i-test.true c.loop-i.invariant
    (c.number_at.ensures ∙ sym (place-words w c.requires.1 c.loop-i.i))

pub returns : goal.returns
returns c =
    let w = c.args.run.now in
    c.loop-i.invariant ∙ laid c.args.b.now (length w / 3) (column 3 16 (ranges_of w)) c.loop-i.i c.requires.0 (length-places w c.requires.1) (omega (arith, c.loop-i.auto.i-end, c.loop-i-test.false)) ∙ words-laid w
