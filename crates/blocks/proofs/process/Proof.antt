-- `process` meets its contract. The loop's invariant: what was taken so far is a run, and the table is held. Assumes nothing.
use Prim.Native.Nat.{◌-◌}
use native.Mathlib.Omega.{arith}
use mathlib.Core.Path.{◌≡◌, refl, sym, ◌∙◌}
use lib.ListN.{length}
use Rattle.layout.specs.Words.{Valid}
use Rattle.layout.proofs.Words.{length-valid}
use Rattle.turns.specs.Turns.{state_in}
use Rattle.blocks.specs.Blocks.{Ran}
use Rattle.blocks.proofs.Blocks.{written-length, ran-none, ran-next, ran-stopped}
use borrow.Author.Rules.{rules}
use Rattle.blocks.proofs.process.Statement.{statement}
use Rattle.blocks.proofs.process.Tie as tie

abbrev invariant-loop : tie.invariant-loop-next
invariant-loop t₀ input out₀ p₀ t out p = (length t ≡ length t₀) × (length out ≡ length out₀) × Ran (state_in p₀.phase t₀) input out₀ p (state_in p.phase t) out × Valid t

abbrev decreases-loop : tie.decreases-loop-next
decreases-loop t₀ input out₀ p₀ t out p = length input - p.used

loop-holds : tie.Need-loop-next-init invariant-loop decreases-loop
loop-holds c = (refl, refl, ran-none _ _ _ _, c.requires)

advance-requires : tie.Need-advance-next-requires invariant-loop decreases-loop
advance-requires c κs = let i = c.loop-next.invariant in (i.2.used, omega (arith, i.1, i.2.wrote), i.3)

returns : tie.Need-returns-then-next-used invariant-loop decreases-loop
returns c =
    let a = c.advance-next.ensures in
    let i = c.loop-next.invariant in
    (ran-next i.1 i.2 a.0, (ran-stopped c.args.out.now i.1 a.0 c.if-next-used.true, a.1))

loop-less : tie.Need-loop-next-smaller invariant-loop decreases-loop
loop-less c = let a = c.advance-next.ensures.0 in omega (arith, a.used, a.forward, c.if-next-used.false)

loop-again : tie.Need-loop-next-preserved invariant-loop decreases-loop
loop-again c =
    let a = c.advance-next.ensures in
    let i = c.loop-next.invariant in
    (length-valid _ a.1 ∙ sym (length-valid _ i.3) ∙ i.0, written-length a.0.put ∙ i.1, ran-next i.1 i.2 a.0, a.1)

pub process_spec : {M : Type 1} → statement M
process_spec =
    tie.close
    (tie.spec
    invariant-loop
    decreases-loop
    loop-holds
    advance-requires
    (λ c. search rules)
    (λ c. search rules)
    returns
    loop-less
    loop-again)
