-- `set_flow_algorithms` meets its contract: the settings' own promises upon their part of the words, and that it is the list's call. Assumes nothing.
use native.Mathlib.Omega.{arith}
use borrow.Author.Rules.{rules}
use Rattle.segment_state.proofs.Laws.{length-state, valid-settings-part}
use Rattle.demand3.proofs.Told.{numbers-told}
use Rattle.flow_calls.proofs.set_flow_algorithms.Statement.{statement}
use Rattle.flow_calls.proofs.set_flow_algorithms.Tie as tie

returns : tie.Need-returns
returns c =
    let start = c.before.before.before.before.before in
    let a = start.args in
    let told = c.set_numbers.ensures in
    let r = numbers-told a.s.now start.requires _ _ told.1 a.source_group a.any_source told.0 in
    (r.0, (r.1, (r.2, r.3)))

pub set_flow_algorithms_spec : {M : Type 1} → statement M
set_flow_algorithms_spec =
    tie.close
    (tie.spec
    (λ c. let s = c.before in omega (arith, length-state s.args.s.now s.requires))
    (λ c. let s = c.before in omega (arith, length-state s.args.s.now s.requires))
    (λ c. search rules)
    (λ c κs. let s = c.before.before in valid-settings-part s.args.s.now s.requires)
    (λ c. search rules)
    returns)
