-- `handed_in` meets its contract: one case for each family. Assumes nothing.
use Rattle.export_forms.proofs.handed_in.Statement.{statement}
use Rattle.export_forms.proofs.handed_in.Tie as tie

returns : tie.Need-returns-then-v6
returns c = rw c.if-v6.true

returns-2 : tie.Need-returns
returns-2 c = rw c.if-v6.false

pub handed_in_spec : {M : Type 1} → statement M
handed_in_spec =
    tie.close
    (tie.spec
    returns
    returns-2)
