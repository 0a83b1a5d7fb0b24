-- `put_record` meets its contract: head and payload, one after the other, are the record. Assumes nothing.
use borrow.Author.Rules.{rules}
use Rattle.log_octets.proofs.Laws.{record-put}
use Rattle.log_octets.proofs.put_record.Statement.{statement}
use Rattle.log_octets.proofs.put_record.Tie as tie

returns : tie.Need-returns
returns c =
    let second = c.before.before in
    let first = second.before.before.before.before in
    let start = first.before.before.before.before.before in
    record-put _ _ _ _ start.args.at start.args.kind start.requires.0 first.store.ensures second.store-2.ensures

pub put_record_spec : {M : Type 1} → statement M
put_record_spec =
    tie.close
    (tie.spec
    (λ c. search rules)
    (λ c. search rules)
    (λ c κs. search rules)
    (λ c. search rules)
    (λ c κs. search rules)
    (λ c. search rules)
    returns)
