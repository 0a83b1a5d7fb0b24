-- A list that is too long and one with a record that is wrong are refused, and what the others load goes to `backup_of`.
use Rattle.std.proofs.Common.{◌≡◌, Err, arith, refl, ap, ◌∙◌, rules}
use Rattle.backup.specs.Backup.{backup_in, refused_backup}
use Rattle.candidate_list.proofs.Loads.{ended, few, many, refused}
use Rattle.candidate_list.proofs.Orders.{Named}
use Rattle.candidate_list.proofs.name_backup_in.Goals as goal

too-many : (c : goal.Then-list-gt-MAX_CANDIDATES) → Named c.args.algorithm c.args.list.now (refused_backup 22)
too-many c = many c.args.list.now c.args.algorithm (refused_backup 22) c.if-list-gt-MAX_CANDIDATES.true refl

pub returns-then-list-gt-MAX_CANDIDATES-clause-answer : goal.returns-then-list-gt-MAX_CANDIDATES-clause-answer
returns-then-list-gt-MAX_CANDIDATES-clause-answer c = (too-many c).0

pub returns-then-list-gt-MAX_CANDIDATES-clause-any_order : goal.returns-then-list-gt-MAX_CANDIDATES-clause-any_order
returns-then-list-gt-MAX_CANDIDATES-clause-any_order c = (too-many c).1.1

wrong : (c : goal.After-from_residual) → Named c.args.algorithm c.args.list.now (backup_in c.from_residual.result)
wrong c =
    let passed : c.from_residual.result ≡ Err c.in_err-take_in.field-0.0 = search rules in
    refused c.args.list.now c.loop-c.c-index _ c.loop-c.words c.loop-c-test.true c.loop-c.invariant c.args.algorithm (backup_in c.from_residual.result) c.in_err-take_in.ensures.1.1
    (ap backup_in passed ∙ ap refused_backup c.in_err-take_in.ensures.1.0)

pub returns-in_err-take_in-clause-answer : goal.returns-in_err-take_in-clause-answer
returns-in_err-take_in-clause-answer c = (wrong c).0

pub returns-in_err-take_in-clause-any_order : goal.returns-in_err-take_in-clause-any_order
returns-in_err-take_in-clause-any_order c = (wrong c).1.1

enough : (c : goal.After-backup_of) → Named c.args.algorithm c.args.list.now (backup_in c.backup_of.result)
enough c =
    few c.args.list.now c.args.algorithm c.loop-c.words (backup_in c.backup_of.result) c.if-list-gt-MAX_CANDIDATES.false
    (ended c.args.list.now c.loop-c.c-index c.loop-c.words (omega arith) c.loop-c.invariant) c.backup_of.ensures

pub returns-clause-answer : goal.returns-clause-answer
returns-clause-answer c = (enough c).0

pub returns-clause-second : goal.returns-clause-second
returns-clause-second c = (enough c).1.0

pub returns-clause-any_order : goal.returns-clause-any_order
returns-clause-any_order c = (enough c).1.1
