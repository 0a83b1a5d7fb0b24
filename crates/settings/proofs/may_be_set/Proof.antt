-- `may_be_set` meets its contract: each number is tested, and then whether they differ. Assumes nothing.
use mathlib.Core.Path.{sym, ◌∙◌}
use borrow.Author.Rules.{rules}
use Rattle.settings.proofs.Laws.{first-not, second-not, both-may}
use Rattle.settings.proofs.may_be_set.Statement.{statement}
use Rattle.settings.proofs.may_be_set.Tie as tie

returns : tie.Need-returns-then-not-in_range
returns c =
    let called = c.before in
    let a = called.args in
    first-not a.source_group a.any_source (sym called.in_range.ensures ∙ c.if-not-in_range.true)

returns-2 : tie.Need-returns-then-not-in_range-2
returns-2 c =
    let second = c.before in
    let first = second.before.before in
    let a = first.args in
    second-not a.source_group a.any_source (sym first.in_range.ensures ∙ second.if-not-in_range.false) (sym second.in_range-2.ensures ∙ c.if-not-in_range-2.true)

returns-3 : tie.Need-returns
returns-3 c =
    let second = c.before in
    let first = second.before.before in
    let a = first.args in
    both-may a.source_group a.any_source (sym first.in_range.ensures ∙ second.if-not-in_range.false) (sym second.in_range-2.ensures ∙ c.if-not-in_range-2.false)

pub may_be_set_spec : {M : Type 1} → statement M
may_be_set_spec =
    tie.close
    (tie.spec
    (λ c κs. search rules)
    returns
    (λ c κs. search rules)
    returns-2
    returns-3)
