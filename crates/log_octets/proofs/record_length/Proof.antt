-- `record_length` meets its contract. Assumes nothing.
use borrow.Author.Tests.{eq-eqb, ne_eqb}
use Rattle.log_octets.specs.Steps.{record_length}
use Rattle.log_octets.proofs.record_length.Statement.{statement}
use Rattle.log_octets.proofs.record_length.Tie as tie

returns : tie.Need-returns-then-family-eq6
unfolding record_length
returns c = rw (eq-eqb _ _ c.if-family-eq6.true)

returns-2 : tie.Need-returns
unfolding record_length
returns-2 c = rw (ne_eqb _ _ c.if-family-eq6.false)

pub record_length_spec : {M : Type 1} → statement M
record_length_spec =
    tie.close
    (tie.spec
    returns
    returns-2)
