-- Each address puts one row more behind those before it; at the end they are all.
use Rattle.std.proofs.Common.{ℕ, ◌≡◌, ◌+◌, ◌*◌, ◌/◌, ◌<◌, ◌≤◌, length, take, drop, ap, refl, sym, ◌∙◌, arith}
use lib.Seq.{take_all}
use Rattle.address.proofs.Laws.{length-address}
use Rattle.rows.specs.Rows.{flat}
use Rattle.rows.proofs.Rows.{length_inserted}
use Rattle.payloads.specs.Payloads.{size_of, address_of, addresses_in}
use Rattle.payloads.proofs.Laws.{size-pos, address-fits, addresses-few, length-addresses, address-in, row_more}
use Rattle.payloads.proofs.put_rows.Goals as goal

pub nonzero_div-n : goal.nonzero_div-n
nonzero_div-n c = omega (arith, (size-pos c.args.v6).0, c.size-each.ensures)

pub loop-i-init : goal.loop-i-init
unfolding flat
loop-i-init c = (c.requires.0, refl)

pub overflow_mul-i : goal.overflow_mul-i
overflow_mul-i c =
    let under : c.loop-i.i < length c.args.s.now / size_of c.args.v6 = rw (← c.size-each.ensures) (omega arith) in
    let fits = address-fits c.args.v6 c.args.s.now c.loop-i.i under in
    rw c.size-each.ensures (record { fits = omega (arith, fits, c.requires.1) })

pub address_at-a-requires : goal.address_at-a-requires
address_at-a-requires c =
    let under : c.loop-i.i < length c.args.s.now / size_of c.args.v6 = rw (← c.size-each.ensures) (omega arith) in
    rw c.size-each.ensures (address-fits c.args.v6 c.args.s.now c.loop-i.i under)

pub insert-requires : goal.insert-requires
insert-requires c =
    let under : c.loop-i.i < length c.args.s.now / size_of c.args.v6 = rw (← c.size-each.ensures) (omega arith) in
    let few = addresses-few c.args.v6 c.args.s.now c.requires.1 in
    let w = length-address c.row-row.result c.row-row.ensures.address in
    (omega arith, rw w (omega (arith, under, few, c.loop-i.invariant.0)))

pub loop-i-preserved : goal.loop-i-preserved
loop-i-preserved c =
    let v = c.args.v6 in
    let s = c.args.s.now in
    let l = c.loop-i in
    let under : l.i < length s / size_of v = rw (← c.size-each.ensures) (omega arith) in
    let few = addresses-few v s c.requires.1 in
    let w = length-address c.row-row.result c.row-row.ensures.address in
    let k : l.i * 5 + 5 ≤ length l.ready = omega (arith, under, few, l.invariant.0) in
    let e = c.row-row.ensures.words ∙ c.address_at-a.ensures ∙ ap (λ (z : ℕ). address_of v (take (size_of v) (drop (l.i * z) s))) c.size-each.ensures ∙ sym (address-in v s l.i under) in (
      ap length c.insert.ensures ∙ length_inserted l.i l.i c.row-row.result l.ready (omega arith) (rw w k) ∙ l.invariant.0,
      row_more (addresses_in v s) l.i c.row-row.result l.ready _ (omega (arith, under, length-addresses v s)) w k e l.invariant.1 c.insert.ensures,
    )

pub returns : goal.returns
returns c =
    let v = c.args.v6 in
    let s = c.args.s.now in
    let n : c.loop-i.i ≡ length s / size_of v = omega (arith, ap (λ (z : ℕ). length s / z) c.size-each.ensures) in
    rw n at c.loop-i.invariant.1 ∙ ap flat (take_all (length s / size_of v) (addresses_in v s) (omega (arith, length-addresses v s)))
