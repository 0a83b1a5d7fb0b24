-- An entry more is its record more, behind those before it; at the end they are all.
use Rattle.std.proofs.Common.{ℕ, ◌≡◌, ◌+◌, ◌<◌, ◌≤◌, List, length, take, ap, sym, ◌∙◌, arith}
use lib.ListN.{length-take}
use lib.Seq.{length-take-le}
use Rattle.octets.specs.Octets.{stored}
use Rattle.octets.proofs.Laws.{length-stored}
use Rattle.layout.specs.Words.{table_in}
use Rattle.frames.specs.Frames.{record_of}
use Rattle.log_octets.specs.Log.{entry_records}
use Rattle.log_octets.proofs.Laws.{length-log, length_some, entries_none, entries-all, records-none, records-put, entry-end}
use Rattle.log_octets.proofs.put_entries.Goals as goal

pub loop-i-init : goal.loop-i-init
loop-i-init c =
    let t = table_in c.args.t.now in
    (ap (λ l. 33 + length l) (sym (entries_none c.args.esi t.entries)), records-none c.args.esi t.entries c.args.out.now (omega (arith, length-log t, c.requires.3)), omega arith)

pub payload_at-p-requires : goal.payload_at-p-requires
payload_at-p-requires c = (c.requires.0, omega (arith, c.count-n.ensures), c.requires.1, c.requires.2)

pub slice_bounds-octets-end : goal.slice_bounds-octets-end
slice_bounds-octets-end c =
    let p = c.payload_at-p in
    let within : p.result.length ≤ length p.result.octets = omega (arith, p.ensures.1, ap length p.ensures.0, length-take p.result.length p.result.octets) in
    within

pub slice_bounds-put_record-end : goal.slice_bounds-put_record-end
slice_bounds-put_record-end c =
    let p = c.payload_at-p in
    let within : p.result.length ≤ length p.result.octets = omega (arith, p.ensures.1, ap length p.ensures.0, length-take p.result.length p.result.octets) in
    sym (length-take-le p.result.length p.result.octets within)

pub put_record-requires : goal.put_record-requires
put_record-requires c =
    let t = table_in c.args.t.now in
    let i = c.args.esi in
    let l = c.loop-i in
    let p = c.payload_at-p in
    let less : l.i < length t.entries = omega (arith, c.count-n.ensures) in
    let within : p.result.length ≤ length p.result.octets = omega (arith, p.ensures.1, ap length p.ensures.0, length-take p.result.length p.result.octets) in
    let next : l.at + (4 + p.result.length) ≡ 33 + length (entry_records i (take (l.i + 1) t.entries)) = entry-end i t.entries l.i _ _ less p.ensures.1 l.invariant.0 in
    let whole : 33 + length (entry_records i t.entries) ≤ length c.args.out.now = omega (arith, length-log t, c.requires.3, ap (λ (x : List ℕ). length (entry_records x t.entries)) c.requires.1) in
    let room : l.at + (4 + p.result.length) ≤ length l.out = omega (arith, next, length_some i t.entries (l.i + 1), whole, ap length l.invariant.1, length-stored c.args.out.now 33 (entry_records i (take l.i t.entries))) in
    let k : length (take p.result.length p.result.octets) ≡ p.result.length = length-take-le p.result.length p.result.octets within in
    (rw k room, rw k (omega (arith, p.ensures.2)))

pub loop-i-preserved : goal.loop-i-preserved
loop-i-preserved c =
    let t = table_in c.args.t.now in
    let i = c.args.esi in
    let l = c.loop-i in
    let p = c.payload_at-p in
    let less : l.i < length t.entries = omega (arith, c.count-n.ensures) in
    let next : l.at + (4 + p.result.length) ≡ 33 + length (entry_records i (take (l.i + 1) t.entries)) = entry-end i t.entries l.i _ _ less p.ensures.1 l.invariant.0 in
    let whole : 33 + length (entry_records i t.entries) ≤ length c.args.out.now = omega (arith, length-log t, c.requires.3, ap (λ (x : List ℕ). length (entry_records x t.entries)) c.requires.1) in (
      next,
      records-put i t.entries l.i c.args.out.now l.out _ l.at less l.invariant.0 whole l.invariant.1 (c.put_record.ensures ∙ ap (λ o. stored l.out l.at (record_of 1 o)) p.ensures.0),
      omega (arith, p.ensures.2, l.invariant.2),
    )

pub returns : goal.returns
returns c =
    let t = table_in c.args.t.now in
    let all : c.loop-i.i ≡ length t.entries = omega (arith, c.count-n.ensures) in
    c.loop-i.invariant.1 ∙ ap (stored c.args.out.now 33) (entries-all c.args.esi t.entries c.loop-i.i all)
