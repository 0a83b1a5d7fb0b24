-- The greatest rank of a set is that of its runs. Assumes nothing.
use Rattle.std.proofs.Common.{◌-◌, arith}
use mathlib.Core.Path.{◌∙◌}
use Rattle.layout.specs.Words.{table_in}
use Rattle.layout.proofs.Words.{narrow-entries}
use Rattle.places.specs.Places.{places, stretch}
use Rattle.place_runs.proofs.Runs.{run-splits}
use Rattle.winner.specs.Steps.{score_of}
use Rattle.winner.proofs.Runs.{run-there, rank-run, ranks-end}
use Rattle.winner.proofs.best_by_runs.Goals as goal

pub top_of_run-top-requires : goal.top_of_run-top-requires
top_of_run-top-requires g c =
    (c.requires.0, run-there (table_in c.args.t.now).entries c.requires.0.sound.short c.loop-left.invariant.within c.loop-left-test.true c.first-from.ensures c.run_end-end.ensures, c.requires.3)

pub loop-left-preserved : goal.loop-left-preserved
loop-left-preserved g c =
    let left = c.loop-left.left in
    let f = c.first-from.result in
    let e = c.run_end-end.result in
    let splits = run-splits (places left) f e c.first-from.ensures c.run_end-end.ensures c.after_run-left.ensures.places in
    record {
      within = omega (arith, c.after_run-left.ensures.less c.loop-left-test.true, c.loop-left.invariant.within);
      greatest = rank-run (score_of g.row.ALGORITHM 0) (table_in c.args.t.now).entries c.loop-left.top (stretch f (e - f)) (places c.after_run-left.result) splits c.top_of_run-top.ensures ∙ c.loop-left.invariant.greatest;
    }

pub returns : goal.returns
returns g c =
    let b = c.args.t.now in
    let h = c.requires.0 in
    ranks-end (table_in b).entries h.sound.short h.sound.rising (narrow-entries b h) g.row.ALGORITHM c.args.set c.requires.2 c.loop-left.top c.requires.1 c.loop-left.invariant.greatest c.loop-left-test.false
