-- `name_backup_by_circuits` meets its contract: the promises of `backup` upon both parts of the words, and that the backup takes over. Assumes nothing.
use native.Mathlib.Omega.{arith}
use mathlib.Core.Path.{sym}
use lib.Seq.{length-take-le}
use borrow.Author.Rules.{rules}
use Rattle.circuit_layout.specs.Circuits.{circuits_in}
use Rattle.segment_state.specs.State.{segment_in}
use Rattle.segment_state.proofs.Laws.{length-state, settings-part, valid-settings-part}
use Rattle.takeover.proofs.Takeover.{takes-over-by}
use Rattle.backup_calls.proofs.name_backup_by_circuits.Statement.{statement}
use Rattle.backup_calls.proofs.name_backup_by_circuits.Tie as tie

returns : tie.Need-returns
unfolding segment_in
returns c =
    let start = c in
    let a = start.args in
    let told = rw (settings-part a.s.now start.requires.0) at c.name_backup_by_circuits.ensures in
    (told.0, (told.1.0, (told.1.1, takes-over-by (segment_in a.s.now) start.requires.0.table.sound start.requires.0.settings.sound a.tag _ (circuits_in a.circuits.now) told.0 told.1.0)))

pub name_backup_by_circuits_spec : {M : Type 1} → statement M
name_backup_by_circuits_spec =
    tie.close
    (tie.spec
    (λ c. let s = c in sym (length-take-le 388 s.args.s.now (omega (arith, length-state s.args.s.now s.requires.0))))
    (λ c. let s = c in omega (arith, length-state s.args.s.now s.requires.0))
    (λ c. let s = c in omega (arith, length-state s.args.s.now s.requires.0))
    (λ c. search rules)
    (λ c κs. let s = c in (s.requires.0.table, valid-settings-part s.args.s.now s.requires.0, s.requires.1))
    returns)
