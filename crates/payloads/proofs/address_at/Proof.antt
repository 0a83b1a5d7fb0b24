-- `address_at` meets its contract: the words of the address, by its family. Assumes nothing.
use native.Mathlib.Omega.{arith}
use Prim.Native.Nat.{◌+◌, ◌≤◌}
use lib.ListN.{length}
use Rattle.address.specs.Address.{address_row}
use Rattle.payloads.proofs.Laws.{room-six, room-four, address-six, address-four}
use borrow.Author.Rules.{rules}
use Rattle.payloads.proofs.address_at.Statement.{statement}
use Rattle.payloads.proofs.address_at.Tie as tie

six : (c : tie.Then-v6) → c.args.at + 16 ≤ length c.args.s.now
six c = let s = c.before.before in room-six s.args.s.now s.args.at s.args.v6 s.requires c.if-v6.true

returns : tie.Need-returns-then-v6
unfolding address_row
returns c =
    let third = c.before in
    let second = third.before in
    let first = second.before in
    let arm = first.before in
    let s = arm.before.before in
    address-six s.args.s.now s.args.at s.args.v6 s.requires arm.if-v6.true _ _ _ _ first.word_at-w0.ensures second.word_at-w1.ensures third.word_at-w2.ensures c.word_at-w3.ensures

returns-2 : tie.Need-returns
unfolding address_row
returns-2 c =
    let arm = c.before in
    let s = arm.before.before in
    address-four s.args.s.now s.args.at s.args.v6 s.requires arm.if-v6.false _ c.word_at-w.ensures

pub address_at_spec : {M : Type 1} → statement M
address_at_spec =
    tie.close
    (tie.spec
    (λ c κs. omega (arith, six c))
    (λ c. search rules)
    (λ c κs. omega (arith, six c.before))
    (λ c. search rules)
    (λ c κs. omega (arith, six c.before.before))
    (λ c. search rules)
    (λ c κs. omega (arith, six c.before.before.before))
    returns
    (λ c κs. let s = c.before.before in room-four s.args.s.now s.args.at s.args.v6 s.requires c.if-v6.false)
    returns-2)
