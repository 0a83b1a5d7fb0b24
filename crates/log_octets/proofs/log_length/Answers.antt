-- An entry more is its record more, by its family; at the end they are all.
use Rattle.std.proofs.Common.{◌≡◌, ◌+◌, ◌<◌, length, ap, sym, ◌∙◌, arith}
use Rattle.layout.specs.Words.{table_in}
use Rattle.log_octets.specs.Steps.{record_length}
use Rattle.log_octets.proofs.Laws.{length-log, entries_none, entries-all, size-more}
use Rattle.log_octets.proofs.log_length.Goals as goal

pub loop-i-init : goal.loop-i-init
loop-i-init c =
    let t = table_in c.args.t.now in
    (ap (λ l. 33 + length l) (sym (entries_none t.esi t.entries)), omega arith)

pub overflow_add-length : goal.overflow_add-length
overflow_add-length c =
    let t = table_in c.args.t.now in
    let less : c.loop-i.i < length t.entries = omega (arith, c.count-n.ensures) in
    let m = size-more t c.loop-i.i _ _ c.requires.sound less (c.record_length-length.ensures ∙ ap record_length c.family_at.ensures) c.loop-i.invariant.0 in
    omega (arith, m.0, m.1, c.loop-i.invariant.1)

pub loop-i-preserved : goal.loop-i-preserved
loop-i-preserved c =
    let t = table_in c.args.t.now in
    let less : c.loop-i.i < length t.entries = omega (arith, c.count-n.ensures) in
    let m = size-more t c.loop-i.i _ _ c.requires.sound less (c.record_length-length.ensures ∙ ap record_length c.family_at.ensures) c.loop-i.invariant.0 in
    (m.2, omega (arith, m.0, c.loop-i.invariant.1))

pub returns : goal.returns
returns c =
    let t = table_in c.args.t.now in
    let all : c.loop-i.i ≡ length t.entries = omega (arith, c.count-n.ensures) in
    c.loop-i.invariant.0 ∙ ap (λ l. 33 + length l) (entries-all t.esi t.entries c.loop-i.i all) ∙ sym (length-log t)
