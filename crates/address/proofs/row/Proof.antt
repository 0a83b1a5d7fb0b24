-- `row` meets its contract: an address is kept as its words. Assumes nothing.
use native.Mathlib.Omega.{arith}
use mathlib.Core.Path.{refl, ap, sym}
use mathlib.Core.List.{[], ◌∷◌}
use borrow.Author.Rules.{rules}
use Rattle.address.specs.Address.{row_under, address_row, ipv4, ipv6}
use Rattle.address.specs.declared.Family.{Family}
use Rattle.address.proofs.Laws.{words-four, seventeen}
use Rattle.address.proofs.row.Statement.{statement}
use Rattle.address.proofs.row.Tie as tie

returns : tie.Need-returns-in-V4
unfolding address_row
returns c =
    let a = c.args.a in
    let o = words-four a.w0 0 0 0 (omega arith) (omega arith) (omega arith) (omega arith) in
    (sym (ap (λ (f : Family). row_under f a.w0 a.w1 a.w2 a.w3) c.in-V4.is), (ipv4 a.w0 refl, seventeen 4 (a.w0 ∷ 0 ∷ 0 ∷ 0 ∷ []) o))

returns-2 : tie.Need-returns-in-V6
unfolding address_row
returns-2 c =
    let a = c.args.a in
    let o = words-four a.w0 a.w1 a.w2 a.w3 (omega arith) (omega arith) (omega arith) (omega arith) in
    (sym (ap (λ (f : Family). row_under f a.w0 a.w1 a.w2 a.w3) c.in-V6.is), (ipv6 a.w0 a.w1 a.w2 a.w3 refl, seventeen 6 (a.w0 ∷ a.w1 ∷ a.w2 ∷ a.w3 ∷ []) o))

pub row_spec : {M : Type 1} → statement M
row_spec =
    tie.close
    (tie.spec
    (λ c. search rules)
    (λ c. search rules)
    returns
    returns-2)
