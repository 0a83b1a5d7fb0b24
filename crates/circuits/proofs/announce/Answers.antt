-- `announce`'s answers and what it leaves: the checks in their order, and what the look says of the route. The check proves the rest. Assumes nothing.
use Prim.Native.Nat.{ℕ}
use native.Mathlib.Omega.{arith}
use mathlib.Core.Path.{◌≡◌, ap, sym, ◌∙◌}
use mathlib.Core.List.{List}
use lib.ListN.{length, get_or}
use mir.Syntax.{w32}
use mir.Val.{Fits}
use Rattle.std.proofs.Common.{rules, Err, Result}
use Rattle.address.specs.Address.{address_row}
use Rattle.address.proofs.Laws.{row-address, length-address}
use Rattle.rows.specs.Rows.{row_key, found_in}
use Rattle.rows.proofs.Compared.{Words}
use Rattle.rows.proofs.Places.{missing-le}
use Rattle.refusals.specs.Numbers.{number_of}
use Rattle.address.specs.declared.Address.{Address}
use Rattle.circuit_layout.specs.declared.Scope.{Scope}
use Rattle.circuit_layout.specs.Circuits.{ad_row, circuits_in}
use Rattle.circuit_layout.proofs.Words.{length-row}
use Rattle.circuits.proofs.Calls.{not-refused, announced-refused, announced-at, announced-full, announced-new}
use Rattle.circuits.proofs.Told.{left_alone, announced-stored, same_route}
use Rattle.circuits.proofs.announce.Goals as goal

-- the look for the route as the machine was handed it is the look for the route
found : (b r q : List ℕ) (o f : Result ℕ ℕ) → o ≡ found_in row_key (row_key r) (circuits_in b) → r ≡ q → o ≡ f → found_in row_key (row_key q) (circuits_in b) ≡ f
found b r q o f e h k = sym (e ∙ ap (λ (x : List ℕ). found_in row_key (row_key x) (circuits_in b)) h) ∙ k

-- a route's row as words
width : (s : Scope) (a : Address) → length (ad_row s (address_row a)) ≡ 7
width s a = omega (arith, length-row s (address_row a), length-address (address_row a) (row-address a))

pub returns-in_err-refused-clause-answer : goal.returns-in_err-refused-clause-answer
returns-in_err-refused-clause-answer c =
    let refused : c.from_residual.result ≡ Err c.in_err-refused.field-0.0 = search rules in
    (left_alone c.args.t.now c.requires _ _ (announced-refused (circuits_in c.args.t.now) c.requires.sound c.args.scope (address_row c.args.address) c.in_err-refused.field-0.0 (ap number_of refused) c.in_err-refused.ensures)).0

pub returns-in_default-clause-answer : goal.returns-in_default-clause-answer
returns-in_default-clause-answer c =
    let row_fits : Words (ad_row c.args.scope (address_row c.args.address)) = λ i. rw (← c.row-row.ensures) (row-fits i).fits in
    let words_fit : Words c.args.t.now = λ i. (fits i).fits in
    let f = found c.args.t.now _ _ _ _ c.look-found.ensures c.row-row.ensures c.in_default.is in
    let same = same_route c.args.t.now c.requires c.args.scope (address_row c.args.address) _ (width c.args.scope c.args.address) row_fits words_fit f in
    (left_alone c.args.t.now c.requires _ 0 (announced-at (circuits_in c.args.t.now) c.requires.sound c.args.scope (address_row c.args.address) (not-refused c.args.scope (address_row c.args.address) (sym c.in_ok-refused.ensures)).0 (not-refused c.args.scope (address_row c.args.address) (sym c.in_ok-refused.ensures)).1 _ f same)).0
  where
    fits : (i : ℕ) → Fits w32 (get_or c.args.t.now i 0)
    fits i = search rules

    row-fits : (i : ℕ) → Fits w32 (get_or c.row-row.result i 0)
    row-fits i = search rules

pub returns-then-count-ge-CAPACITY-clause-answer : goal.returns-then-count-ge-CAPACITY-clause-answer
returns-then-count-ge-CAPACITY-clause-answer c =
    (left_alone c.args.t.now c.requires _ 8 (announced-full (circuits_in c.args.t.now) c.requires.sound c.args.scope (address_row c.args.address) (not-refused c.args.scope (address_row c.args.address) (sym c.in_ok-refused.ensures)).0 (not-refused c.args.scope (address_row c.args.address) (sym c.in_ok-refused.ensures)).1 _ (found c.args.t.now _ _ _ _ c.look-found.ensures c.row-row.ensures c.in-Err.is) (rw (← c.count.ensures) (omega arith)))).0

pub grow-requires : goal.grow-requires
grow-requires c =
    (c.requires, missing-le row_key _ (circuits_in c.args.t.now) _ (found c.args.t.now _ _ _ _ c.look-found.ensures c.row-row.ensures c.in-Err.is), rw (← c.count.ensures) (omega arith), rw c.row-row.ensures (width c.args.scope c.args.address))

pub returns : goal.returns
returns c =
    let told =
    announced-stored c.args.t.now c.requires c.args.scope (address_row c.args.address) _ _ (row-address c.args.address)
    (announced-new (circuits_in c.args.t.now) c.requires.sound c.args.scope (address_row c.args.address) (not-refused c.args.scope (address_row c.args.address) (sym c.in_ok-refused.ensures)).0 (not-refused c.args.scope (address_row c.args.address) (sym c.in_ok-refused.ensures)).1 _ (found c.args.t.now _ _ _ _ c.look-found.ensures c.row-row.ensures c.in-Err.is) (rw (← c.count.ensures) (omega arith)))
    (rw c.row-row.ensures at c.grow.ensures) in
    record { answer = told.0; kept = told.1 }
