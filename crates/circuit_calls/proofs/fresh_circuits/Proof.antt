-- `fresh_circuits` meets its contract: the table's own promises, that it is where every list starts, and demand 3 of every list of calls. Assumes nothing.
use borrow.Author.Rules.{rules}
use Rattle.circuit_demand3.proofs.Demand3.{demand3, starts}
use Rattle.circuit_calls.proofs.fresh_circuits.Statement.{statement}
use Rattle.circuit_calls.proofs.fresh_circuits.Tie as tie

returns : tie.Need-returns
returns c = let told = c.fresh.ensures in (told.0, (told.1, (starts _ told.0, demand3)))

pub fresh_circuits_spec : {M : Type 1} → statement M
fresh_circuits_spec =
    tie.close
    (tie.spec
    (λ c κs. search rules)
    returns)
