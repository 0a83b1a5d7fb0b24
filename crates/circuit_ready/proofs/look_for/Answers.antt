-- What the look found says whether the route stands, and where. Assumes nothing.
use Rattle.std.proofs.Common.{◌≡◌, ℕ, List, [], ◌∷◌, get_or, ap, arith}
use Rattle.std.specs.Prelude.{Result}
use mathlib.Core.Path.{sym, ◌∙◌}
use Rattle.address.specs.Address.{IsAddress}
use Rattle.rows.specs.Rows.{row_key, found_in}
use Rattle.rows.proofs.Places.{found_at, found-missing, at_lt}
use Rattle.circuit_layout.specs.Circuits.{circuits_in}
use Rattle.circuit_ready.proofs.Stands.{five-words}
use Rattle.circuit_ready.proofs.look_for.Goals as goal

-- the row that is looked for is the kind, the tag and the address
as-address : (k t : ℕ) (a : List ℕ) (l : List (List ℕ)) → IsAddress a → {r : Result ℕ ℕ} (f : Result ℕ ℕ)
    → r ≡ found_in row_key (row_key (k ∷ t ∷ get_or a 0 0 ∷ get_or a 1 0 ∷ get_or a 2 0 ∷ get_or a 3 0 ∷ get_or a 4 0 ∷ [])) l
    → r ≡ f
    → found_in row_key (row_key (k ∷ t ∷ a)) l ≡ f
as-address k t a l g f e q = ap (λ (r : List ℕ). found_in row_key (row_key (k ∷ t ∷ r)) l) (sym (five-words a g)) ∙ sym e ∙ q

pub overflow_add-result : goal.overflow_add-result
overflow_add-result c =
    let a = c.args in
    let l = circuits_in a.circuits.now in
    let s = c.requires.0.sound in
    omega (arith, s.short, at_lt row_key (row_key (a.kind ∷ a.tag ∷ a.address.now)) l 0 [] s.rising _ (as-address a.kind a.tag a.address.now l c.requires.1 _ c.look-found.ensures c.in-Ok.is))

pub returns-in-Ok-clause-stands : goal.returns-in-Ok-clause-stands
returns-in-Ok-clause-stands c =
    let a = c.args in
    let l = circuits_in a.circuits.now in
    sym (found_at row_key (row_key (a.kind ∷ a.tag ∷ a.address.now)) l _ (as-address a.kind a.tag a.address.now l c.requires.1 _ c.look-found.ensures c.in-Ok.is)).0

pub returns-in-Ok-clause-next : goal.returns-in-Ok-clause-next
returns-in-Ok-clause-next c =
    let a = c.args in
    let l = circuits_in a.circuits.now in
    omega (arith, (found_at row_key (row_key (a.kind ∷ a.tag ∷ a.address.now)) l _ (as-address a.kind a.tag a.address.now l c.requires.1 _ c.look-found.ensures c.in-Ok.is)).1)

pub returns-in-Err-clause-stands : goal.returns-in-Err-clause-stands
returns-in-Err-clause-stands c =
    let a = c.args in
    let l = circuits_in a.circuits.now in
    sym (found-missing row_key (row_key (a.kind ∷ a.tag ∷ a.address.now)) l _ (as-address a.kind a.tag a.address.now l c.requires.1 _ c.look-found.ensures c.in-Err.is)).0

pub returns-in-Err-clause-next : goal.returns-in-Err-clause-next
returns-in-Err-clause-next c =
    let a = c.args in
    let l = circuits_in a.circuits.now in
    omega (arith, (found-missing row_key (row_key (a.kind ∷ a.tag ∷ a.address.now)) l _ (as-address a.kind a.tag a.address.now l c.requires.1 _ c.look-found.ensures c.in-Err.is)).1)
