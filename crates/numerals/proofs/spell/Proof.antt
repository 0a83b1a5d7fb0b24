-- `spell` meets its contract. The loop's invariant: the digits of what is left of the number, with those spelled, are the number's digits, and
-- there is room for them. Assumes nothing.
use Prim.Native.Nat.{◌≤◌, ◌<◌, ◌^◌}
use native.Mathlib.Omega.{arith}
use mathlib.Core.Path.{◌≡◌, ◌∙◌, sym}
use mathlib.Core.List.{◌++◌, append-nil}
use lib.ListN.{length, drop, length-set, drop_of_length-le}
use Rattle.lines.specs.Lines.{decimal}
use Rattle.numerals.proofs.Steps.{spell-more, spell-first, spell-room}
use Rattle.numerals.proofs.spell.Statement.{statement}
use Rattle.numerals.proofs.spell.Tie as tie

abbrev invariant-loop : tie.invariant-loop-rest
invariant-loop text₀ n i₀ rest₀ text i rest = (0 < i) × (i ≤ 20) × (length text ≡ 20) × (rest < 10 ^ i) × (decimal rest ++ drop i text ≡ decimal n)

abbrev decreases-loop : tie.decreases-loop-rest
decreases-loop text₀ n i₀ rest₀ text i rest = rest

loop-holds : tie.Need-loop-rest-init invariant-loop decreases-loop
loop-holds c =
    let a = c.args in
    let l : length a.text.now ≡ 20 = c.requires in
    (omega arith, omega arith, l, omega arith, rw (drop_of_length-le a.text.now {i = 20} (omega arith)) (append-nil (decimal a.n)))

loop-again : tie.Need-loop-rest-preserved invariant-loop decreases-loop
loop-again c =
    let at = c.loop-rest in
    let room = spell-room at.i at.rest (omega arith) at.invariant.3 in
    let l : length at.text ≡ 20 = at.invariant.2 in
    (room.0, omega arith, simp length-set l, room.1, spell-more at.text at.i at.rest (omega arith) (omega arith) (omega arith) ∙ at.invariant.4)

same_length : tie.Need-shape_of-text invariant-loop decreases-loop
same_length c =
    let l : length c.loop-rest.text ≡ 20 = c.loop-rest.invariant.2 in
    simp length-set (l ∙ sym c.requires)

returns : tie.Need-returns invariant-loop decreases-loop
returns c =
    let at = c.loop-rest in
    let l : length at.text ≡ 20 = at.invariant.2 in
    (omega arith, spell-first at.text at.i at.rest (omega arith) (omega arith) (omega arith) ∙ at.invariant.4)

pub spell_spec : {M : Type 1} → statement M
spell_spec =
    tie.close
    (tie.spec
    invariant-loop
    decreases-loop
    loop-holds
    (λ c. omega arith)
    (λ c. omega arith)
    (λ c. omega arith)
    (λ c. omega arith)
    (λ c. omega arith)
    loop-again
    (λ c. omega arith)
    (λ c. omega arith)
    (λ c. omega arith)
    (λ c. omega arith)
    same_length
    returns)
