-- `start` meets its contract: an empty table, and no record taken. Assumes nothing.
use Rattle.run_ends.proofs.Runs.{started, run-first}
use borrow.Author.Rules.{rules}
use Rattle.run_ends.proofs.start.Statement.{statement}
use Rattle.run_ends.proofs.start.Tie as tie

returns : tie.Need-returns
returns c =
    let e = started _ c.fresh-made.ensures.0 in
    (e, (run-first e, c.fresh-made.ensures.1))

pub start_spec : {M : Type 1} → statement M
start_spec =
    tie.close
    (tie.spec
    (λ c. search rules)
    (λ c κs. search rules)
    returns)
