-- `set_numbers` meets its contract: refused numbers leave the words as they are, and the others are written into them. Assumes nothing.
use native.Mathlib.Omega.{arith}
use mathlib.Core.Path.{sym, ◌∙◌}
use borrow.Author.Rules.{rules}
use lib.ListN.{length-set}
use Rattle.settings.proofs.Laws.{length-settings, numbers-told-refused, numbers-told-set}
use Rattle.settings.proofs.set_numbers.Statement.{statement}
use Rattle.settings.proofs.set_numbers.Tie as tie

returns : tie.Need-returns-then-not-may_be_set
returns c =
    let called = c.before in
    let start = called.before.before in
    let a = start.args in
    numbers-told-refused a.s.now start.requires a.source_group a.any_source (sym called.may_be_set.ensures ∙ c.if-not-may_be_set.true)

slice-write-s : tie.Need-bounds-s-0
slice-write-s c = let start = c.before.before.before in omega (arith, length-settings start.args.s.now start.requires)

slice-write-s-2 : tie.Need-bounds-s-1
slice-write-s-2 c = let start = c.before.before.before in simp length-set (omega (arith, length-settings start.args.s.now start.requires))

returns-2 : tie.Need-returns
returns-2 c =
    let called = c.before in
    let start = called.before.before in
    let a = start.args in
    numbers-told-set a.s.now start.requires a.source_group a.any_source (sym called.may_be_set.ensures ∙ c.if-not-may_be_set.false)

pub set_numbers_spec : {M : Type 1} → statement M
set_numbers_spec =
    tie.close
    (tie.spec
    (λ c κs. search rules)
    returns
    slice-write-s
    slice-write-s-2
    (λ c. search rules)
    returns-2)
