-- `may_be_ranges` meets its contract: a run of whole ranges, not too many, and then each of them and each two. Assumes nothing.
use mathlib.Core.Path.{◌∙◌}
use borrow.Author.Rules.{rules}
use Rattle.ranges.proofs.Laws.{not-whole, too_many, few-enough}
use Rattle.ranges.proofs.may_be_ranges.Statement.{statement}
use Rattle.ranges.proofs.may_be_ranges.Tie as tie

returns : tie.Need-returns-then-run-ne0
returns c = not-whole c.args.run.now c.if-run-ne0.true

returns-2 : tie.Need-returns-then-run-gt-MOST
returns-2 c = let whole = c.before in too_many whole.args.run.now whole.if-run-ne0.false c.if-run-gt-MOST.true

returns-3 : tie.Need-returns
returns-3 c =
    let few = c.before in
    let whole = few.before in
    c.all_right.ensures ∙ few-enough whole.args.run.now whole.if-run-ne0.false few.if-run-gt-MOST.false

pub may_be_ranges_spec : {M : Type 1} → statement M
may_be_ranges_spec =
    tie.close
    (tie.spec
    returns
    returns-2
    (λ c κs. search rules)
    returns-3)
