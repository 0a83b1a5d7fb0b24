-- `returning` meets its contract: the returning router's own promise upon both parts of the words, that it is the list's reply, and that what is
-- sent unseats no forwarder whose DP is set. Assumes nothing.
use native.Mathlib.Omega.{arith}
use mathlib.Core.Path.{ap, sym, ◌∙◌}
use mathlib.Core.Bool.{Bool}
use lib.ListN.{take}
use lib.Seq.{length-take-le}
use borrow.Author.Rules.{rules}
use Rattle.address.specs.Address.{address_row}
use Rattle.layout.proofs.Words.{narrow-entries}
use Rattle.segment_state.specs.State.{segment_in}
use Rattle.segment_state.proofs.Laws.{length-state, settings-part, valid-settings-part}
use Rattle.returning.specs.Returning.{returning_with}
use Rattle.returning.proofs.Laws.{returning-none}
use Rattle.non_revertive.proofs.NonRevertive.{non-revertive}
use Rattle.demand3.proofs.Calls.{returning-replies}
use Rattle.demand3.proofs.Demand3.{returning-follows}
use Rattle.segment.proofs.returning.Statement.{statement}
use Rattle.segment.proofs.returning.Tie as tie

returns : tie.Need-returns
unfolding segment_in
returns c =
    let own = c.before.before.before in
    let start = own in
    let a = start.args in
    let told = rw (settings-part a.s.now start.requires, c.read-own.ensures.0) at c.returning.ensures in
    let s = segment_in a.s.now in
    let call = returning-replies s (address_row a.address) a.algorithm a.preference a.dp told in
    let w = c.read-own.ensures.1 in (
      told,
      (
        λ n. told ∙ returning-none s.settings s.table.entries (address_row a.address) a.algorithm a.preference a.dp n,
        (
          call,
          (
            returning-follows s (address_row a.address) a.algorithm a.preference a.dp call,
            λ d.
                non-revertive s a.address a.algorithm a.preference w.0 w.1 w.2 w.3 start.ranges.preference.fits
                start.requires.table.sound (narrow-entries (take 388 a.s.now) start.requires.table) start.requires.settings.sound _
                (told ∙ ap (λ (b : Bool). returning_with s.settings s.table.entries (address_row a.address) a.algorithm a.preference b) d),
          ),
        ),
      ),
    )

pub returning_spec : {M : Type 1} → statement M
returning_spec =
    tie.close
    (tie.spec
    (λ c κs. search rules)
    (λ c. let s = c in sym (length-take-le 388 s.args.s.now (omega (arith, length-state s.args.s.now s.requires))))
    (λ c. let s = c in omega (arith, length-state s.args.s.now s.requires))
    (λ c. let s = c in omega (arith, length-state s.args.s.now s.requires))
    (λ c. search rules)
    (λ c κs. let s = c in (s.requires.table, valid-settings-part s.args.s.now s.requires))
    returns)
