-- The checks in their order, and then the answer for the candidate set.
use Rattle.std.proofs.Common.{◌≡◌, Err, sym, ap, ◌∙◌, rules}
use Rattle.layout.specs.Words.{table_in}
use Rattle.settings.specs.Settings.{settings_in}
use Rattle.ready.specs.Ready.{ready_in}
use Rattle.ready.proofs.Laws.{length-ready}
use Rattle.answers.proofs.Laws.{set-in-use}
use Rattle.backup.specs.Backup.{backup_in}
use Rattle.backup.proofs.Laws.{Backs, backs-10, backs-11, backs-refused, backs-by}
use Rattle.backup.proofs.name_backup.Goals as goal

pub returns-then-is_reserved-clause-answer : goal.returns-then-is_reserved-clause-answer
returns-then-is_reserved-clause-answer c =
    (backs-10 (settings_in c.args.settings.now) c.requires.1.sound (table_in c.args.t.now) c.requires.0.sound c.args.tag (ready_in c.args.ready.now) (sym c.is_reserved.ensures ∙ c.if-is_reserved.true)).0

pub returns-then-ready-gt-MAX_READY-clause-answer :
    goal.returns-then-ready-gt-MAX_READY-clause-answer
returns-then-ready-gt-MAX_READY-clause-answer c =
    (backs-11 (settings_in c.args.settings.now) c.requires.1.sound (table_in c.args.t.now) c.requires.0.sound c.args.tag (ready_in c.args.ready.now) (sym c.is_reserved.ensures ∙ c.if-is_reserved.false)
    (rw (length-ready _) c.if-ready-gt-MAX_READY.true)).0

pub returns-in_err-u-clause-answer : goal.returns-in_err-u-clause-answer
returns-in_err-u-clause-answer c =
    let refused : c.from_residual.result ≡ Err c.in_err-u.field-0.0 = search rules in
    ap backup_in refused
    ∙ (backs-refused (settings_in c.args.settings.now) c.requires.1.sound (table_in c.args.t.now) c.requires.0.sound c.args.tag (ready_in c.args.ready.now) (sym c.is_reserved.ensures ∙ c.if-is_reserved.false)
    (rw (length-ready _) c.if-ready-gt-MAX_READY.false) c.in_err-u.field-0.0 c.in_err-u.ensures).0

pub backup_of-requires : goal.backup_of-requires
backup_of-requires c =
    (c.requires.0, c.requires.1, sym c.is_reserved.ensures ∙ c.if-is_reserved.false, set-in-use (table_in c.args.t.now) c.requires.0.sound _ (ready_in c.args.ready.now) _ c.candidate_set-set.ensures)

backed : (c : goal.After-backup_of) → Backs (settings_in c.args.settings.now) c.requires.1.sound (table_in c.args.t.now) c.requires.0.sound c.args.tag (ready_in c.args.ready.now) (backup_in c.backup_of.result)
backed c =
    backs-by (settings_in c.args.settings.now) c.requires.1.sound (table_in c.args.t.now) c.requires.0.sound c.args.tag (ready_in c.args.ready.now) (sym c.is_reserved.ensures ∙ c.if-is_reserved.false)
    (rw (length-ready _) c.if-ready-gt-MAX_READY.false) c.in_ok-u.ensures.0 c.in_ok-u.u c.in_ok-u.ensures.1 _ c.in_ok-u.ensures.2 c.candidate_set-set.ensures c.backup_of.ensures

pub returns-clause-answer : goal.returns-clause-answer
returns-clause-answer c = (backed c).0

pub returns-clause-second : goal.returns-clause-second
returns-clause-second c = (backed c).1
