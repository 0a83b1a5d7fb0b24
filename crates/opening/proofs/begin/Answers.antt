-- `begin`: a text that is read, and one that is refused. The check proves the rest.
use Rattle.std.proofs.Common.{sym, refl, ap, ◌∙◌, arith}
use Rattle.esi.specs.Text.{accepted, refused}
use Rattle.layout.specs.Words.{table_in}
use Rattle.layout.proofs.Words.{length-valid}
use Rattle.refusals.proofs.Laws.{refusal_above}
use Rattle.turns.proofs.Laws.{stepped-end, stepped-begin}
use Rattle.opening.proofs.begin.Goals as goal

pub copy_from_slice-requires : goal.copy_from_slice-requires
copy_from_slice-requires c = length-valid _ c.requires.1 ∙ sym (length-valid _ c.fresh-made.ensures.kept)

pub returns-in-Ok : goal.returns-in-Ok
returns-in-Ok c =
    let made = c.fresh-made.ensures in
    stepped-begin c.args.text.now (accepted c.in-Ok.esi) c.in-Ok.ensures.answer c.put_read-end.ensures (table_in c.args.t.now)
    refl made.answer made.kept c.copy_from_slice.ensures.after

pub returns-in-Err : goal.returns-in-Err
returns-in-Err c =
    let x = c.in-Err.refused in
    let told = ap (λ n. refused n x.offset) c.number.ensures ∙ c.in-Err.ensures.answer in
    stepped-end c.args.text.now (refused c.number.result x.offset) told c.put_read-end-in-Err.ensures c.args.t.now c.requires.1
    (λ z. absurd (omega (arith, refusal_above x.refusal, c.number.ensures, z)))
