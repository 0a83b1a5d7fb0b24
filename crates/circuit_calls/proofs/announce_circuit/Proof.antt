-- `announce_circuit` meets its contract: the table's own promises, and that it is the list's call. Assumes nothing.
use borrow.Author.Rules.{rules}
use Rattle.circuit_layout.specs.Circuits.{circuits_in}
use Rattle.circuit_demand3.specs.Calls.{announce}
use Rattle.circuit_demand3.proofs.Calls.{announce-changes}
use Rattle.circuit_demand3.proofs.Demand3.{follows}
use Rattle.circuit_calls.proofs.announce_circuit.Statement.{statement}
use Rattle.circuit_calls.proofs.announce_circuit.Tie as tie

returns : tie.Need-returns
returns c =
    let told = c.announce.ensures in
    let a = c.args in
    let l = circuits_in a.t.now in
    let call = announce-changes l a.scope a.address _ _ told.0 in
    (told.0, (told.1, (call, follows l (announce a.scope a.address) call.0 call.1)))

pub announce_circuit_spec : {M : Type 1} → statement M
announce_circuit_spec =
    tie.close
    (tie.spec
    (λ c κs. search rules)
    (λ c. search rules)
    returns)
