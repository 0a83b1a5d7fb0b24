-- `set_ranges` meets its contract: the settings' own promises upon their part of the words, and that it is the list's call. Assumes nothing.
use native.Mathlib.Omega.{arith}
use borrow.Author.Rules.{rules}
use Rattle.segment_state.proofs.Laws.{length-state, valid-settings-part}
use Rattle.demand3.proofs.Told.{ranges-told}
use Rattle.range_calls.proofs.set_ranges.Statement.{statement}
use Rattle.range_calls.proofs.set_ranges.Tie as tie

returns : tie.Need-returns
returns c =
    let start = c.before.before.before.before.before.before in
    let a = start.args in
    let told = c.set_ranges.ensures in
    let r = ranges-told a.s.now start.requires _ _ told.1 a.run.now told.0 in
    (r.0, (r.1, (r.2, r.3)))

pub set_ranges_spec : {M : Type 1} → statement M
set_ranges_spec =
    tie.close
    (tie.spec
    (λ c. let s = c.before.before in omega (arith, length-state s.args.s.now s.requires))
    (λ c. let s = c.before.before in omega (arith, length-state s.args.s.now s.requires))
    (λ c. search rules)
    (λ c κs. let s = c.before.before.before in valid-settings-part s.args.s.now s.requires)
    (λ c. search rules)
    returns)
