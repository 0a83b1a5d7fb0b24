-- `is_zero` meets its contract: an address is zero exactly if its words add up to zero. Assumes nothing.
use Prim.Native.Nat.{ℕ, ◌+◌}
use native.Mathlib.Omega.{arith}
use mathlib.Core.Path.{◌≡◌, ap, sym, ◌∙◌}
use lib.Dec.{eqb}
use borrow.Author.Rules.{rules}
use Rattle.address.specs.Address.{row_under, address_row, is_zero}
use Rattle.address.specs.declared.Family.{Family}
use Rattle.address.proofs.Laws.{zero-words}
use Rattle.address.proofs.is_zero.Statement.{statement}
use Rattle.address.proofs.is_zero.Tie as tie

returns : tie.Need-returns-in-V4
unfolding address_row
returns c =
    let arm = c.before in
    let a = arm.args.a in
    let s : a.w0 ≡ a.w0 + 0 + 0 + 0 = omega arith in
    ap (λ (n : ℕ). eqb n 0) s
    ∙ zero-words 4 a.w0 0 0 0
    ∙ sym (ap (λ (f : Family). is_zero (row_under f a.w0 a.w1 a.w2 a.w3)) arm.in-V4.is)

returns-2 : tie.Need-returns-in-V6
unfolding address_row
returns-2 c =
    let arm = c.before.before.before.before in
    let a = arm.args.a in
    zero-words 6 a.w0 a.w1 a.w2 a.w3
    ∙ sym (ap (λ (f : Family). is_zero (row_under f a.w0 a.w1 a.w2 a.w3)) arm.in-V6.is)

pub is_zero_spec : {M : Type 1} → statement M
is_zero_spec =
    tie.close
    (tie.spec
    (λ c. search rules)
    (λ c. search rules)
    (λ c. search rules)
    (λ c. search rules)
    (λ c. search rules)
    (λ c. search rules)
    (λ c. search rules)
    (λ c. search rules)
    (λ c. search rules)
    returns
    returns-2)
