-- `others` meets its contract. Assumes nothing.
use native.Mathlib.Omega.{arith}
use mathlib.Core.Path.{sym, ◌∙◌}
use borrow.Author.Rules.{rules}
use Rattle.address.specs.Address.{address_row}
use Rattle.layout.specs.Words.{table_in}
use Rattle.returning.proofs.Laws.{others-missing, others-at}
use Rattle.returning.proofs.others.Statement.{statement}
use Rattle.returning.proofs.others.Tie as tie

returns : tie.Need-returns-in_default
returns c =
    let called = c.before in
    let below = called.before in
    let start = below.before.before.before in
    let h = start.requires.sound in
    others-missing (table_in start.args.t.now).entries h.short h.rising (address_row start.args.address) _ _ below.count.ensures below.below-all.ensures _ (sym called.find-found.ensures ∙ c.in_default.is)

returns-2 : tie.Need-returns
returns-2 c =
    let found = c in
    let called = found in
    let below = called.before in
    let start = below.before in
    let h = start.requires.sound in
    others-at (table_in start.args.t.now).entries h.short h.rising (address_row start.args.address) _ _ below.count.ensures below.below-all.ensures _ _ (sym called.find-found.ensures ∙ found.in-Ok.is) c.without.ensures

pub others_spec : {M : Type 1} → statement M
others_spec =
    tie.close
    (tie.spec
    (λ c κs. search rules)
    (λ c κs. omega (arith, c.count.ensures, c.requires.sound.short))
    (λ c κs. search rules)
    (λ c. search rules)
    (λ c. search rules)
    returns
    (λ c κs. search rules)
    returns-2)
