-- One place more is looked at, and at the end none is left.
use Rattle.std.proofs.Common.{eqb, sym, ◌∙◌}
use Rattle.layout.specs.Words.{table_in}
use Rattle.place_runs.proofs.Runs.{stretch-on, stretch-over}
use Rattle.returning.proofs.Laws.{under-end, under-on}
use Rattle.returning.proofs.differing.Goals as goal

pub loop-i-preserved : goal.loop-i-preserved
loop-i-preserved c =
    let l = c.loop-i in
    under-on (table_in c.args.t.now).entries c.args.algorithm l.differ _ l.i _ _ (stretch-on l.i c.args.end c.loop-i-test.true) c.algorithm_at.ensures ∙ l.invariant

pub returns : goal.returns
returns c =
    let l = c.loop-i in
    sym (under-end (table_in c.args.t.now).entries c.args.algorithm (eqb l.differ 0) _ (stretch-over l.i c.args.end c.loop-i-test.false)) ∙ l.invariant
