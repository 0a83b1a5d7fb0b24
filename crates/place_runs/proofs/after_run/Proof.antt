-- `after_run` meets its contract: the trailing ones of a set that is filled are its lowest run and what is below it. Assumes nothing.
use borrow.Author.Rules.{rules}
use Rattle.place_runs.proofs.Runs.{left-none, left-some}
use Rattle.place_runs.proofs.after_run.Statement.{statement}
use Rattle.place_runs.proofs.after_run.Tie as tie

returns : tie.Need-returns-then-low
returns c = left-none c.args.s _ c.ranges.s.fits c.filled-low.ensures c.if-low.true

returns-2 : tie.Need-returns
returns-2 c = left-some c.args.s _ c.ranges.s.fits c.filled-low.ensures c.if-low.false

pub after_run_spec : {M : Type 1} → statement M
after_run_spec =
    tie.close
    (tie.spec
    (λ c κs. tt)
    returns
    (λ c. search rules)
    returns-2)
