-- Whether the router of a turn is ready is what the two rows, or the two searches, tell. Assumes nothing.
use Rattle.std.proofs.Common.{◌≡◌, ◌≤◌, ◌<◌, ◌+◌, ◌*◌, ◌/◌, ℕ, Bool, true, List, length, get_or, refl, ap, arith}
use mathlib.Core.Path.{sym, subst, ◌∙◌}
use Rattle.lists.specs.Lists.{bit}
use Rattle.lists.proofs.Bools.{bit-less}
use Rattle.keyed.specs.Keyed.{rank}
use Rattle.keyed.proofs.Keyed.{rank-le}
use Rattle.rows.specs.Rows.{row_key}
use Rattle.rows.proofs.Compared.{Words, words-part}
use Rattle.address.specs.Address.{IsAddress}
use Rattle.layout.specs.Table.{no_entry}
use Rattle.layout.specs.Words.{table_in, Valid}
use Rattle.layout.proofs.Words.{address-row}
use Rattle.circuit_layout.specs.Circuits.{per_segment, per_instance, circuits_in}
use Rattle.circuit_ready.specs.Routers.{ready_for}
use Rattle.circuit_ready.proofs.Stands.{ready-stands, ready_at, segment-first}
use Rattle.circuit_ready.proofs.Laws.{address-right, ready-none, ready-more, ready-less}
use Rattle.circuit_ready.proofs.circuit_set.Goals as goal
use Rattle.circuit_ready.proofs.circuit_set.Goals.{then-both_at, else-both_at+then-first-other, else-both_at+else-first-other}

-- the row that is read is an address
is_address : (b : List ℕ) → Valid b → (i : ℕ) (a : List ℕ) → a ≡ (get_or (table_in b).entries i no_entry).address → i < length (table_in b).entries → IsAddress a
is_address b h i a e l = address-right (table_in b).entries h.sound.addresses i a e l

pub loop-at-init : goal.loop-at-init
loop-at-init c = record {
  so_far = ready-none (circuits_in c.args.circuits.now) c.args.tag;
  segment_starts = refl;
  instance_starts = refl;
  in_order = omega arith;
}

pub both_at-requires : goal.both_at-requires
both_at-requires c =
    let v = c.loop-at.invariant in
    (c.requires.1, is_address _ c.requires.0 _ _ c.address_at-address.ensures (omega arith), v.segment_starts, v.instance_starts, v.in_order)

pub overflow_add-segment : goal.overflow_add-segment
overflow_add-segment c =
    omega (arith, (ready_at c.args.circuits.now c.requires.1 c.args.tag (c.loop-at.segment / 7) (c.loop-at.instance / 7) c.address_at-address.result.now c.both_at.ensures c.if-both_at.true).0, c.requires.1.sound.short)

pub overflow_add-instance : goal.overflow_add-instance
overflow_add-instance c =
    omega (arith, (ready_at c.args.circuits.now c.requires.1 c.args.tag (c.loop-at.segment / 7) (c.loop-at.instance / 7) c.address_at-address.result.now c.both_at.ensures c.if-both_at.true).1, c.requires.1.sound.short)

pub look_for-first-requires : goal.look_for-first-requires
look_for-first-requires c = (c.requires.1, is_address _ c.requires.0 _ _ c.address_at-address.ensures (omega arith))

pub look_for-other-requires : goal.look_for-other-requires
look_for-other-requires c = (c.requires.1, is_address _ c.requires.0 _ _ c.address_at-address.ensures (omega arith))

-- no place is past the table's end
few : (m : ℕ) (l : List (List ℕ)) (p : Bool) {i : ℕ} → length l ≤ 256 → i ≡ rank row_key m l + bit p → i ≤ 257
few m l p s e = omega (arith, e, bit-less p, rank-le row_key m l)

pub overflow_mul-segment : goal.overflow_mul-segment
overflow_mul-segment c =
    omega (arith, few (row_key (per_segment c.address_at-address.result.now)) (circuits_in c.args.circuits.now) c.look_for-first.result.0 c.requires.1.sound.short c.look_for-first.ensures.next)

pub overflow_mul-instance : goal.overflow_mul-instance
overflow_mul-instance c =
    omega (arith, few (row_key (per_instance c.args.tag c.address_at-address.result.now)) (circuits_in c.args.circuits.now) c.look_for-other.result.0 c.requires.1.sound.short c.look_for-other.ensures.next)

pub loop-at-preserved : goal.loop-at-preserved
loop-at-preserved c =
    let b = c.args.t.now in
    let es = (table_in b).entries in
    let routes = circuits_in c.args.circuits.now in
    let tag = c.args.tag in
    let at = c.loop-at.at in
    let a = c.address_at-address.result.now in
    let v = c.loop-at.invariant in
    let there : at < length es = omega arith in
    let short : length es ≤ 64 = c.requires.0.sound.short in
    let words : Words a = subst Words (address-row b c.requires.0 at there ∙ sym c.address_at-address.ensures) (words-part 5 (at * 5) b (λ j. (c.type_inv.t j).fits)) in
    let same : ready_for routes tag a ≡ ready_for routes tag (get_or es at no_entry).address = ap (ready_for routes tag) c.address_at-address.ensures in
    elim c.if-both_at.branch [
      | then-both_at w ↦
          let both = ready_at c.args.circuits.now c.requires.1 tag (c.loop-at.segment / 7) (c.loop-at.instance / 7) a c.both_at.ensures w.if-both_at.true in
          record {
            so_far = w.set-is ∙ w.with-set.ensures ∙ ready-more routes tag es at there short c.loop-at.set v.so_far true (both.2 ∙ same) refl;
            segment_starts = omega (arith, w.segment-is, v.segment_starts);
            instance_starts = omega (arith, w.instance-is, v.instance_starts);
            in_order = omega (arith, w.segment-is, w.instance-is, v.in_order);
          }
      | else-both_at+then-first-other w ↦
          let p = w.look_for-first in
          let q = w.look_for-other in
          record {
            so_far = w.set-is ∙ w.with-set-then-first-other.ensures ∙ ready-more routes tag es at there short c.loop-at.set v.so_far _ (ready-stands routes tag a p.ensures.stands q.ensures.stands ∙ same) w.if-first-other.true;
            segment_starts = omega (arith, w.segment-is);
            instance_starts = omega (arith, w.instance-is);
            in_order = omega (arith, w.segment-is, w.instance-is, segment-first c.args.circuits.now c.requires.1 tag a words q.result.0 p.ensures.stands p.ensures.next q.ensures.next);
          }
      | else-both_at+else-first-other w ↦
          let p = w.look_for-first in
          let q = w.look_for-other in
          record {
            so_far = w.set-is ∙ ready-less routes tag es at there short c.loop-at.set v.so_far _ (ready-stands routes tag a p.ensures.stands q.ensures.stands ∙ same) w.if-first-other.false;
            segment_starts = omega (arith, w.segment-is);
            instance_starts = omega (arith, w.instance-is);
            in_order = omega (arith, w.segment-is, w.instance-is, segment-first c.args.circuits.now c.requires.1 tag a words q.result.0 p.ensures.stands p.ensures.next q.ensures.next);
          }
    ]
