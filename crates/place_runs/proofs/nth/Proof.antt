-- `nth` meets its contract. The loop's invariant: the place that is asked for is the one at `more` of what is left. Assumes nothing.
use Prim.Native.Nat.{ℕ, ◌≤◌}
use native.Mathlib.Omega.{arith}
use mathlib.Core.Path.{◌≡◌, refl, sym, ap, ◌∙◌}
use mathlib.Core.List.{List}
use lib.ListN.{get_or}
use Rattle.places.specs.Places.{places}
use Rattle.places.proofs.Laws.{places-none, first-le}
use Rattle.place_runs.proofs.Runs.{run_at, run_past}
use Rattle.place_runs.proofs.nth.Statement.{statement}
use Rattle.place_runs.proofs.nth.Tie as tie

abbrev invariant-loop : tie.invariant-loop-left
invariant-loop s k left₀ more₀ left more = (more ≤ k) × (get_or (places left) more 64 ≡ get_or (places s) k 64)

abbrev decreases-loop : tie.decreases-loop-left
decreases-loop s k left₀ more₀ left more = left

loop-holds : tie.Need-loop-left-init invariant-loop decreases-loop
loop-holds c = (omega arith, refl)

add_at : tie.Need-overflow_add-at invariant-loop decreases-loop
add_at c = omega (arith, first-le c.loop-left.left, c.first.ensures, c.loop-left.invariant.0)

returns : tie.Need-returns-then-at-end invariant-loop decreases-loop
returns c =
    let found = c.before.before in
    let l = found.loop-left in
    run_at (places l.left) _ _ found.first.ensures c.run_end-end.ensures l.more c.if-at-end.true ∙ l.invariant.1

loop-again : tie.Need-loop-left-preserved invariant-loop decreases-loop
loop-again c =
    let ended = c.before.before in
    let found = ended.before in
    let l = found.loop-left in
    let f = found.first.ensures in
    let e = ended.run_end-end.ensures in
    (omega (arith, l.invariant.0), run_past (places l.left) _ _ f e _ l.more c.after_run-left.ensures.0 c.if-at-end.false ∙ l.invariant.1)

returns-2 : tie.Need-returns invariant-loop decreases-loop
returns-2 c =
    let l = c.loop-left in
    sym (ap (λ (m : List ℕ). get_or m l.more 64) (ap places c.loop-left-test.false ∙ places-none)) ∙ l.invariant.1

pub nth_spec : {M : Type 1} → statement M
nth_spec =
    tie.close
    (tie.spec
    invariant-loop
    decreases-loop
    loop-holds
    (λ c κs. tt)
    add_at
    (λ c κs. tt)
    returns
    (λ c κs. tt)
    (λ c. c.after_run-left.ensures.1 c.loop-left-test.true)
    loop-again
    returns-2)
