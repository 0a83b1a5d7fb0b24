-- `address_at` meets its contract. Assumes nothing.
use Prim.Native.Nat.{ℕ, ◌+◌, ◌-◌, ◌*◌}
use native.Mathlib.Omega.{arith}
use mathlib.Core.Path.{◌≡◌, ap, ◌∙◌}
use lib.ListN.{take, drop}
use borrow.Author.Rules.{rules}
use Rattle.layout.proofs.Words.{length-valid, address-row}
use Rattle.layout.proofs.address_at.Statement.{statement}
use Rattle.layout.proofs.address_at.Tie as tie

part-result-end : tie.Need-slice_bounds-result-end
part-result-end c = omega (arith, length-valid c.args.t.now c.requires.0, c.requires.0.sound.short, c.requires.1)

returns : tie.Need-returns
returns c =
    let start = c.before in
    let a = start.args in
    let five : a.at * 5 + 5 - a.at * 5 ≡ 5 = omega arith in
    ap (λ (k : ℕ). take k (drop (a.at * 5) a.t.now)) five ∙ address-row a.t.now start.requires.0 a.at start.requires.1

pub address_at_spec : {M : Type 1} → statement M
address_at_spec =
    tie.close
    (tie.spec
    (λ c. search rules)
    (λ c. search rules)
    (λ c. search rules)
    (λ c. search rules)
    (λ c. search rules)
    part-result-end
    returns)
