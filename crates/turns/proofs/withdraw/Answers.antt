-- `withdraw` meets its contract: the address is read, and the table's answer is told. Assumes nothing.
use Rattle.std.proofs.Common.{ap, ◌∙◌, arith}
use lib.Seq.{take_all}
use Rattle.payloads.specs.Payloads.{size_of, address_of}
use Rattle.layout.specs.Words.{table_in}
use Rattle.turns.proofs.Laws.{stepped-withdraw}
use Rattle.turns.proofs.withdraw.Goals as goal

pub returns : goal.returns
returns c =
    let p = c.args.payload.now in
    let told = c.withdraw-answer.ensures in
    stepped-withdraw (table_in c.args.t.now) c.args.v6 p _ (c.address_at-address.ensures ∙ ap (address_of c.args.v6) (take_all (size_of c.args.v6) p (omega (arith, c.requires.1))))
    (c.number-number.ensures ∙ told.answer.0, told.answer.1, told.answer.2) told.kept c.put_line-end.ensures
