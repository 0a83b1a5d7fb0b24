-- The checks in their order, and then the answer for the set of the ready routers, of which there are never more than 64.
use Rattle.std.proofs.Common.{ℕ, ◌≡◌, ◌≤◌, List, length, Err, sym, ap, ◌∙◌, arith, rules}
use Rattle.layout.specs.Table.{Table, WellFormed}
use Rattle.layout.specs.Words.{table_in}
use Rattle.settings.specs.Settings.{settings_in}
use Rattle.circuit_layout.specs.Circuits.{circuits_in}
use Rattle.circuit_ready.specs.Routers.{ready_routers}
use Rattle.circuit_ready.proofs.Laws.{length-routers}
use Rattle.answers.proofs.Laws.{set-in-use}
use Rattle.backup.specs.Backup.{Backup, backup_in}
use Rattle.backup.proofs.Laws.{Backs, backs-10, backs-refused, backs-by, never-long}
use Rattle.backup.proofs.name_backup_by_circuits.Goals as goal

few : (cs : List (List ℕ)) (tag : ℕ) (t : Table) → WellFormed t → length (ready_routers cs tag t.entries) ≤ 64
few cs tag t w = omega (arith, length-routers cs tag t.entries, w.short)

pub returns-then-is_reserved-clause-answer : goal.returns-then-is_reserved-clause-answer
returns-then-is_reserved-clause-answer c =
    (backs-10 (settings_in c.args.settings.now) c.requires.1.sound (table_in c.args.t.now) c.requires.0.sound c.args.tag (ready_routers (circuits_in c.args.circuits.now) c.args.tag (table_in c.args.t.now).entries) (sym c.is_reserved.ensures ∙ c.if-is_reserved.true)).0

pub returns-in_err-u-clause-answer : goal.returns-in_err-u-clause-answer
returns-in_err-u-clause-answer c =
    let refused : c.from_residual.result ≡ Err c.in_err-u.field-0.0 = search rules in
    ap backup_in refused
    ∙ (backs-refused (settings_in c.args.settings.now) c.requires.1.sound (table_in c.args.t.now) c.requires.0.sound c.args.tag (ready_routers (circuits_in c.args.circuits.now) c.args.tag (table_in c.args.t.now).entries) (sym c.is_reserved.ensures ∙ c.if-is_reserved.false) (few (circuits_in c.args.circuits.now) c.args.tag (table_in c.args.t.now) c.requires.0.sound) c.in_err-u.field-0.0 c.in_err-u.ensures).0

pub backup_of-requires : goal.backup_of-requires
backup_of-requires c =
    (c.requires.0, c.requires.1, (sym c.is_reserved.ensures ∙ c.if-is_reserved.false), set-in-use (table_in c.args.t.now) c.requires.0.sound _ (ready_routers (circuits_in c.args.circuits.now) c.args.tag (table_in c.args.t.now).entries) _ c.circuit_candidates-set.ensures)

backed : (c : goal.After-backup_of) → Backs (settings_in c.args.settings.now) c.requires.1.sound (table_in c.args.t.now) c.requires.0.sound c.args.tag (ready_routers (circuits_in c.args.circuits.now) c.args.tag (table_in c.args.t.now).entries) (backup_in c.backup_of.result)
backed c =
    backs-by (settings_in c.args.settings.now) c.requires.1.sound (table_in c.args.t.now) c.requires.0.sound c.args.tag (ready_routers (circuits_in c.args.circuits.now) c.args.tag (table_in c.args.t.now).entries) (sym c.is_reserved.ensures ∙ c.if-is_reserved.false) (few (circuits_in c.args.circuits.now) c.args.tag (table_in c.args.t.now) c.requires.0.sound)
    c.in_ok-u.ensures.0 c.in_ok-u.u c.in_ok-u.ensures.1 _ c.in_ok-u.ensures.2 c.circuit_candidates-set.ensures c.backup_of.ensures

pub returns-clause-answer : goal.returns-clause-answer
returns-clause-answer c = (backed c).0

pub returns-clause-second : goal.returns-clause-second
returns-clause-second c = (backed c).1

pub returns-clause-never_long : goal.returns-clause-never_long
returns-clause-never_long c =
    λ h. never-long (settings_in c.args.settings.now) c.requires.1.sound (table_in c.args.t.now) c.requires.0.sound c.args.tag (ready_routers (circuits_in c.args.circuits.now) c.args.tag (table_in c.args.t.now).entries) (few (circuits_in c.args.circuits.now) c.args.tag (table_in c.args.t.now) c.requires.0.sound) (sym (ap (λ (r : Backup). r.number) (backed c).0) ∙ h)
