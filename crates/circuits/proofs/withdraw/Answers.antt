-- `withdraw`'s answers and what it leaves: the checks in their order, and what the look says of the route. The check proves the rest. Assumes nothing.
use mathlib.Core.Path.{◌≡◌, ap, sym, ◌∙◌}
use mathlib.Core.List.{List, []}
use Rattle.std.proofs.Common.{rules, ℕ, Err, Result}
use Rattle.address.specs.Address.{address_row}
use Rattle.rows.specs.Rows.{row_key, found_in}
use Rattle.rows.proofs.Places.{at_lt}
use Rattle.refusals.specs.Numbers.{number_of}
use Rattle.circuit_layout.specs.Circuits.{circuits_in}
use Rattle.circuits.proofs.Calls.{not-refused, withdrawn-refused, withdrawn-missing, withdrawn-at}
use Rattle.circuits.proofs.Told.{left_alone, withdrawn-stored}
use Rattle.circuits.proofs.withdraw.Goals as goal

-- the look for the route as the machine was handed it is the look for the route
found : (b r q : List ℕ) (o f : Result ℕ ℕ) → o ≡ found_in row_key (row_key r) (circuits_in b) → r ≡ q → o ≡ f → found_in row_key (row_key q) (circuits_in b) ≡ f
found b r q o f e h k = sym (e ∙ ap (λ (x : List ℕ). found_in row_key (row_key x) (circuits_in b)) h) ∙ k

pub returns-in_err-refused-clause-answer : goal.returns-in_err-refused-clause-answer
returns-in_err-refused-clause-answer c =
    let refused : c.from_residual.result ≡ Err c.in_err-refused.field-0.0 = search rules in
    (left_alone c.args.t.now c.requires _ _ (withdrawn-refused (circuits_in c.args.t.now) c.requires.sound c.args.scope (address_row c.args.address) c.in_err-refused.field-0.0 (ap number_of refused) c.in_err-refused.ensures)).0

pub returns-in_default-clause-answer : goal.returns-in_default-clause-answer
returns-in_default-clause-answer c =
    (left_alone c.args.t.now c.requires _ 9 (withdrawn-missing (circuits_in c.args.t.now) c.requires.sound c.args.scope (address_row c.args.address) (not-refused c.args.scope (address_row c.args.address) (sym c.in_ok-refused.ensures)).0 (not-refused c.args.scope (address_row c.args.address) (sym c.in_ok-refused.ensures)).1 _ (found c.args.t.now _ _ _ _ c.look-found.ensures c.row-key.ensures c.in_default.is))).0

pub shrink-requires : goal.shrink-requires
shrink-requires c = (c.requires, at_lt row_key _ (circuits_in c.args.t.now) 0 [] c.requires.sound.rising _ (found c.args.t.now _ _ _ _ c.look-found.ensures c.row-key.ensures c.in-Ok.is))

pub returns : goal.returns
returns c =
    let told =
    withdrawn-stored c.args.t.now c.requires c.args.scope (address_row c.args.address) _ _
    (withdrawn-at (circuits_in c.args.t.now) c.requires.sound c.args.scope (address_row c.args.address) (not-refused c.args.scope (address_row c.args.address) (sym c.in_ok-refused.ensures)).0 (not-refused c.args.scope (address_row c.args.address) (sym c.in_ok-refused.ensures)).1 _ (found c.args.t.now _ _ _ _ c.look-found.ensures c.row-key.ensures c.in-Ok.is))
    c.shrink.ensures in
    record { answer = told.0; kept = told.1 }
