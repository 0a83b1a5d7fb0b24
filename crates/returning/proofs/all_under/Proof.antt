-- `all_under` meets its contract: at every turn, nothing differs so far and those left carry the algorithm exactly if all of the set do. Assumes nothing.
use Prim.Native.Nat.{◌-◌, ◌<◌, ◌^◌}
use native.Mathlib.Omega.{arith}
use mathlib.Core.Path.{◌≡◌, refl, sym, ap, ◌∙◌}
use mathlib.Core.Bool.{◌&&◌}
use borrow.Author.Rules.{rules}
use lib.Dec.{eqb}
use lib.ListN.{length}
use Rattle.layout.specs.Words.{table_in}
use Rattle.places.specs.Places.{places, stretch}
use Rattle.places.proofs.Laws.{places-none, places-under, first_under}
use Rattle.place_runs.proofs.Runs.{run-splits, run-under}
use Rattle.returning.proofs.Laws.{under, under-end, under-run}
use Rattle.returning.proofs.all_under.Statement.{statement}
use Rattle.returning.proofs.all_under.Tie as tie

abbrev invariant-loop : tie.invariant-loop-left
invariant-loop t set algorithm differ₀ left₀ differ left =
    let es = (table_in t).entries in
    (left < 2 ^ length es) × ((eqb differ 0 && under es algorithm (places left)) ≡ under es algorithm (places set))

abbrev decreases-loop : tie.decreases-loop-left
decreases-loop t set algorithm differ₀ left₀ differ left = left

-- the run ends among the places in use
differing-requires : tie.Need-differing-differ-requires invariant-loop decreases-loop
differing-requires c κs =
    let first = c.before in
    let turn = first.before.before in
    let start = turn.before.before in
    let h = start.requires.0 in
    let within = turn.loop-left.invariant.0 in
    let low = first_under turn.loop-left.left _ within h.sound.short first.loop-left-test.true in
    (h, run-under _ (places turn.loop-left.left) _ _ first.first-from.ensures c.run_end-end.ensures (omega (arith, low, first.first-from.ensures)) (places-under turn.loop-left.left _ within))

loop-again : tie.Need-loop-left-preserved invariant-loop decreases-loop
loop-again c =
    let compared = c.before in
    let ended = compared.before in
    let first = ended.before in
    let turn = first.before.before in
    let start = turn.before.before in
    let l = turn.loop-left in
    let es = (table_in start.args.t.now).entries in
    let run = stretch first.first-from.result (ended.run_end-end.result - first.first-from.result) in (
      omega (arith, c.after_run-left.ensures.1 first.loop-left-test.true, l.invariant.0),
      under-run es start.args.algorithm (eqb l.differ 0) (places l.left) run (places c.after_run-left.result) (run-splits (places l.left) _ _ first.first-from.ensures ended.run_end-end.ensures c.after_run-left.ensures.0) compared.differing-differ.ensures ∙ l.invariant.1,
    )

returns : tie.Need-returns invariant-loop decreases-loop
returns c =
    let turn = c.before in
    let start = turn.before.before in
    let l = turn.loop-left in
    sym (under-end (table_in start.args.t.now).entries start.args.algorithm (eqb l.differ 0) (places l.left) (ap places c.loop-left-test.false ∙ places-none)) ∙ l.invariant.1

pub all_under_spec : {M : Type 1} → statement M
all_under_spec =
    tie.close
    (tie.spec
    invariant-loop
    decreases-loop
    (λ c. (c.requires.1, refl))
    (λ c κs. search rules)
    (λ c κs. search rules)
    differing-requires
    (λ c κs. search rules)
    (λ c. c.after_run-left.ensures.1 c.loop-left-test.true)
    loop-again
    returns)
