-- `row` meets its contract: the address's own row, behind the kind and the tag. Assumes nothing.
use mathlib.Core.Path.{ap, sym}
use borrow.Author.Rules.{rules}
use Rattle.address.specs.Address.{address_row}
use Rattle.circuit_layout.specs.declared.Scope.{Scope}
use Rattle.circuit_layout.specs.Circuits.{ad_row}
use Rattle.circuit_layout.proofs.Words.{row_of}
use Rattle.circuit_layout.proofs.row.Statement.{statement}
use Rattle.circuit_layout.proofs.row.Tie as tie

returns : tie.Need-returns-in-Segment
returns c =
    let called = c.before in
    let a = called.args in
    row_of a.scope 1 0 _ (address_row a.address) called.row-a.ensures.0 called.row-a.ensures.1.0 (ap (λ (s : Scope). ad_row s (address_row a.address)) (sym c.in-Segment.is))

returns-2 : tie.Need-returns-in-Instance
returns-2 c =
    let called = c.before in
    let a = called.args in
    row_of a.scope 2 _ _ (address_row a.address) called.row-a.ensures.0 called.row-a.ensures.1.0 (ap (λ (s : Scope). ad_row s (address_row a.address)) (sym c.in-Instance.is))

pub row_spec : {M : Type 1} → statement M
row_spec =
    tie.close
    (tie.spec
    (λ c κs. search rules)
    (λ c. search rules)
    (λ c. search rules)
    (λ c. search rules)
    (λ c. search rules)
    (λ c. search rules)
    (λ c. search rules)
    (λ c. search rules)
    (λ c. search rules)
    (λ c. search rules)
    (λ c. search rules)
    (λ c. search rules)
    (λ c. search rules)
    returns
    returns-2)
