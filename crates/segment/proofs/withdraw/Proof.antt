-- `withdraw` meets its contract: the table's own promises upon its part of the words, that it is the list's call, and that it disturbs nobody else. Assumes nothing.
use native.Mathlib.Omega.{arith}
use mathlib.Core.Path.{refl, sym, subst}
use lib.Seq.{length-take-le}
use borrow.Author.Rules.{rules}
use Rattle.address.specs.Address.{address_row}
use Rattle.address.proofs.Laws.{row-address, row_words}
use Rattle.table.specs.Table.{withdrawn}
use Rattle.segment_state.specs.State.{segment_in}
use Rattle.segment_state.proofs.Laws.{length-state}
use Rattle.demand3.specs.Calls.{withdraw, reply_to, table_left, settings_left}
use Rattle.bystander.specs.Bystander.{Undisturbed}
use Rattle.bystander.proofs.Bystander.{undisturbed-in}
use Rattle.segment.proofs.Told.{table-told}
use Rattle.segment.proofs.withdraw.Statement.{statement}
use Rattle.segment.proofs.withdraw.Tie as tie

returns : tie.Need-returns
unfolding segment_in reply_to table_left settings_left
returns c =
    let own = c.before.before.before.before in
    let known = own.before in
    let start = known.before in
    let b = start.args.s.now in
    let a = address_row start.args.address in
    let w = own.read-withdrawn.ensures.1 in
    let told = c.withdraw.ensures in
    let x = address_row own.read-withdrawn.result in
    let k = table-told b start.requires (withdraw x) (withdrawn (segment_in b).table x) (refl, refl) _ _ _ told.0 told.1 in
    let r = rw own.read-withdrawn.ensures.0 at k in
    let u = undisturbed-in b start.requires (λ j. (known.slice_known-1.given j).fits) a (row-address start.args.address) (row_words start.args.address w.0 w.1 w.2 w.3) in
    (r.0, (r.1, (r.2, (r.3, subst (Undisturbed (segment_in b) a) (sym r.0.2) u))))

pub withdraw_spec : {M : Type 1} → statement M
withdraw_spec =
    tie.close
    (tie.spec
    (λ c κs. search rules)
    (λ c. let s = c.before.before in omega (arith, length-state s.args.s.now s.requires))
    (λ c. let s = c.before.before.before in sym (length-take-le 388 s.args.s.now (omega (arith, length-state s.args.s.now s.requires))))
    (λ c κs. c.requires.table)
    (λ c. search rules)
    returns)
