-- `number_at` meets its contract: a number of the run, or the 0 behind it. Assumes nothing.
use mathlib.Core.Path.{sym}
use borrow.Author.Rules.{rules}
use lib.ListN.{get_or-eq_default}
use Rattle.ranges.proofs.number_at.Statement.{statement}
use Rattle.ranges.proofs.number_at.Tie as tie

returns-2 : tie.Need-returns
returns-2 c = sym (get_or-eq_default c.args.run.now 0 c.if-i-run.false)

pub number_at_spec : {M : Type 1} → statement M
number_at_spec =
    tie.close
    (tie.spec
    (λ c. search rules)
    (λ c. search rules)
    (λ c. search rules)
    returns-2)
