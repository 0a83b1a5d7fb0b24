-- `name_backup` meets its contract: the promises of `backup` upon both parts of the words, and that the backup takes over. Assumes nothing.
use native.Mathlib.Omega.{arith}
use mathlib.Core.Path.{sym}
use lib.Seq.{length-take-le}
use borrow.Author.Rules.{rules}
use Rattle.ready.specs.Ready.{ready_in}
use Rattle.segment_state.specs.State.{segment_in}
use Rattle.segment_state.proofs.Laws.{length-state, settings-part, valid-settings-part}
use Rattle.takeover.proofs.Takeover.{takes-over}
use Rattle.backup_calls.proofs.name_backup.Statement.{statement}
use Rattle.backup_calls.proofs.name_backup.Tie as tie

returns : tie.Need-returns
unfolding segment_in
returns c =
    let start = c in
    let a = start.args in
    let told = rw (settings-part a.s.now start.requires) at c.name_backup.ensures in
    (told.0, (told.1, takes-over (segment_in a.s.now) start.requires.table.sound start.requires.settings.sound a.tag _ (ready_in a.ready.now) told.0 told.1))

pub name_backup_spec : {M : Type 1} → statement M
name_backup_spec =
    tie.close
    (tie.spec
    (λ c. let s = c in sym (length-take-le 388 s.args.s.now (omega (arith, length-state s.args.s.now s.requires))))
    (λ c. let s = c in omega (arith, length-state s.args.s.now s.requires))
    (λ c. let s = c in omega (arith, length-state s.args.s.now s.requires))
    (λ c. search rules)
    (λ c κs. let s = c in (s.requires.table, valid-settings-part s.args.s.now s.requires))
    returns)
