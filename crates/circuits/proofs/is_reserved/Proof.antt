-- `is_reserved` meets its contract. Assumes nothing.
use mathlib.Core.Path.{ap, sym, ◌∙◌}
use borrow.Author.Rules.{rules}
use Rattle.circuit_layout.specs.Circuits.{reserved_scope}
use Rattle.circuits.proofs.is_reserved.Statement.{statement}
use Rattle.circuits.proofs.is_reserved.Tie as tie

returns : tie.Need-returns-in-Segment
returns c = ap reserved_scope (sym c.in-Segment.is)

returns-2 : tie.Need-returns-in-Instance
returns-2 c = c.is_reserved.ensures ∙ ap reserved_scope (sym c.in-Instance.is)

pub is_reserved_spec : {M : Type 1} → statement M
is_reserved_spec =
    tie.close
    (tie.spec
    (λ c. search rules)
    (λ c. search rules)
    (λ c κs. search rules)
    returns
    returns-2)
