-- `set_ranges` meets its contract: the promise of the ranges upon their part of the words. Assumes nothing.
use native.Mathlib.Omega.{arith}
use borrow.Author.Rules.{rules}
use Rattle.settings.proofs.Laws.{length-settings, valid-ranges-part, ranges-told}
use Rattle.settings.proofs.set_ranges.Statement.{statement}
use Rattle.settings.proofs.set_ranges.Tie as tie

returns : tie.Need-returns
returns c =
    let start = c.before.before.before.before.before.before in
    let a = start.args in
    let told = c.set.ensures in
    ranges-told a.s.now start.requires a.run.now _ _ told.0 told.1

pub set_ranges_spec : {M : Type 1} → statement M
set_ranges_spec =
    tie.close
    (tie.spec
    (λ c. let s = c.before.before in omega (arith, length-settings s.args.s.now s.requires))
    (λ c. let s = c.before.before in omega (arith, length-settings s.args.s.now s.requires))
    (λ c. search rules)
    (λ c κs. let s = c.before.before.before in valid-ranges-part s.args.s.now s.requires)
    (λ c. search rules)
    returns)
