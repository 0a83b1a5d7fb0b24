-- What the step below the calls promises to them. No call of document 02 cites this.
--   ad_refused s a  == 0, or the number of the first check that refuses the scope s and the address a whatever the table holds
use Rattle.std.specs.Prelude.{ℕ, List, [], ◌∷◌}
use Rattle.lists.specs.Checks.{first_refusal}
use Rattle.address.specs.Address.{is_zero}
use Rattle.circuit_layout.specs.declared.Scope.{Scope}
use Rattle.circuit_layout.specs.Circuits.{reserved_scope}
use Rattle.refusals.specs.Refusals.{address_zero, tag_reserved}

unfoldable pub ad_refused : Scope → List ℕ → ℕ
ad_refused s a =
    first_refusal (
    (is_zero a, address_zero)
    ∷ (reserved_scope s, tag_reserved)
    ∷ []
    )
