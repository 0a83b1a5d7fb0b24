-- `elect_by_circuits` meets its contract: the election's own promises, and that it is the list's reply. Assumes nothing.
use native.Mathlib.Omega.{arith}
use mathlib.Core.Path.{sym}
use lib.Seq.{length-take-le}
use borrow.Author.Rules.{rules}
use Rattle.segment_state.specs.State.{segment_in}
use Rattle.segment_state.proofs.Laws.{length-state, settings-part, valid-settings-part}
use Rattle.circuit_layout.specs.Circuits.{circuits_in}
use Rattle.circuit_demand3.proofs.Calls.{elect-replies}
use Rattle.circuit_demand3.proofs.Demand3.{elect-follows}
use Rattle.circuit_calls.proofs.elect_by_circuits.Statement.{statement}
use Rattle.circuit_calls.proofs.elect_by_circuits.Tie as tie

elect-by-circuits-requires : tie.Need-elect_by_circuits-requires
elect-by-circuits-requires c κs =
    let start = c in
    (start.requires.0.table, valid-settings-part start.args.s.now start.requires.0, start.requires.1)

returns : tie.Need-returns
unfolding segment_in
returns c =
    let start = c in
    let a = start.args in
    let told = rw (settings-part a.s.now start.requires.0) at c.elect_by_circuits.ensures in
    let l = circuits_in a.circuits.now in
    let s = segment_in a.s.now in
    let call = elect-replies l s a.tag told.0 in
    (told.0, (told.1.0, (told.1.1.0, (told.1.1.1.0, (told.1.1.1.1, (call, elect-follows l s a.tag call))))))

pub elect_by_circuits_spec : {M : Type 1} → statement M
elect_by_circuits_spec =
    tie.close
    (tie.spec
    (λ c. let s = c in sym (length-take-le 388 s.args.s.now (omega (arith, length-state s.args.s.now s.requires.0))))
    (λ c. let s = c in omega (arith, length-state s.args.s.now s.requires.0))
    (λ c. let s = c in omega (arith, length-state s.args.s.now s.requires.0))
    (λ c. search rules)
    elect-by-circuits-requires
    returns)
