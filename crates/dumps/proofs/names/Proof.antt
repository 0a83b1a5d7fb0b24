-- `names` meets its contract: one case for each family. Assumes nothing.
use borrow.Author.Rules.{rules}
use Rattle.dumps.proofs.Equal.{named-4, named-6}
use Rattle.dumps.proofs.names.Statement.{statement}
use Rattle.dumps.proofs.names.Tie as tie

returns : tie.Need-returns-in-V4
returns c = named-4 _ c.args.address _ c.in-V4.is c.names_ipv4.ensures

returns-2 : tie.Need-returns-in-V6
returns-2 c = named-6 _ c.args.address _ c.in-V6.is c.names_ipv6.ensures

pub names_spec : {M : Type 1} → statement M
names_spec =
    tie.close
    (tie.spec
    (λ c. search rules)
    (λ c κs. search rules)
    (λ c. search rules)
    (λ c κs. search rules)
    returns
    returns-2)
