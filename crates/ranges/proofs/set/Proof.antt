-- `set` meets its contract: a run that is refused leaves the words as they are, and another is laid into them. Assumes nothing.
use mathlib.Core.Path.{sym, ◌∙◌}
use borrow.Author.Rules.{rules}
use Rattle.ranges.proofs.Laws.{length-ranges, told-refused, told-set}
use Rattle.ranges.proofs.set.Statement.{statement}
use Rattle.ranges.proofs.set.Tie as tie

returns : tie.Need-returns-then-not-may_be_ranges
returns c =
    let called = c.before in
    let start = called.before.before.before in
    let a = start.args in
    told-refused a.b.now start.requires a.run.now (sym called.may_be_ranges.ensures ∙ c.if-not-may_be_ranges.true)

put-requires : tie.Need-put-requires
put-requires c κs =
    let called = c.before.before in
    let start = called.before.before.before in
    (length-ranges start.args.b.now start.requires, sym called.may_be_ranges.ensures ∙ c.if-not-may_be_ranges.false)

returns-2 : tie.Need-returns
returns-2 c =
    let laid = c.before.before in
    let right = laid.before.before in
    let called = right.before in
    let start = called.before.before.before in
    let a = start.args in
    told-set a.b.now start.requires a.run.now (sym called.may_be_ranges.ensures ∙ right.if-not-may_be_ranges.false) _ laid.put.ensures

pub set_spec : {M : Type 1} → statement M
set_spec =
    tie.close
    (tie.spec
    (λ c κs. search rules)
    returns
    put-requires
    (λ c. search rules)
    returns-2)
