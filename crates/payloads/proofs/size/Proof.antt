-- `size` meets its contract: one case for each family. Assumes nothing.
use Rattle.payloads.specs.Payloads.{size_of}
use Rattle.payloads.proofs.size.Statement.{statement}
use Rattle.payloads.proofs.size.Tie as tie

returns : tie.Need-returns-then-v6
unfolding size_of
returns c = rw c.if-v6.true

returns-2 : tie.Need-returns
unfolding size_of
returns-2 c = rw c.if-v6.false

pub size_spec : {M : Type 1} → statement M
size_spec =
    tie.close
    (tie.spec
    returns
    returns-2)
