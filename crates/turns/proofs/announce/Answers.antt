-- `announce` meets its contract: the record is cut after its route, and the table's answer is told. Assumes nothing.
use Rattle.std.proofs.Common.{ℕ, ◌≡◌, sym, ap, ◌∙◌, get_or, arith}
use lib.Seq.{length-take-le}
use Rattle.refusals.specs.Numbers.{number_at, offset_at}
use Rattle.route.proofs.Laws.{total-least}
use Rattle.layout.specs.Words.{table_in}
use Rattle.turns.proofs.Laws.{stepped-announce}
use Rattle.turns.proofs.announce.Goals.{in-Ok, in-Err}
use Rattle.turns.proofs.announce.Goals as goal

pub bounds-payload-20 : goal.bounds-payload-20
bounds-payload-20 c = omega (arith, c.requires.1, total-least (get_or c.args.payload.now 20 0))

pub slice_bounds-announce-end : goal.slice_bounds-announce-end
slice_bounds-announce-end c = sym (length-take-le c.total-n.result c.args.payload.now (rw c.total-n.ensures c.requires.1))

pub returns : goal.returns
returns c =
    let n = c.match-answer.number in
    let r = c.announce-answer.result in
    let same : (n.0 ≡ number_at r) × (n.1 ≡ offset_at r) =
    elim c.match-answer.branch [
      | in-Ok w ↦ (ap (λ (z : ℕ × ℕ). z.0) w.number-is ∙ sym (ap number_at w.in-Ok.is), ap (λ (z : ℕ × ℕ). z.1) w.number-is ∙ sym (ap offset_at w.in-Ok.is))
      | in-Err w ↦ (ap (λ (z : ℕ × ℕ). z.0) w.number-is ∙ w.number.ensures ∙ sym (ap number_at w.in-Err.is), ap (λ (z : ℕ × ℕ). z.1) w.number-is ∙ sym (ap offset_at w.in-Err.is))
    ] in
    let told = c.announce-answer.ensures in
    stepped-announce (table_in c.args.t.now) c.args.payload.now _ c.total-n.ensures (same.0 ∙ told.answer.0, same.1 ∙ told.answer.1, told.answer.2) told.kept c.put_read-end.ensures
