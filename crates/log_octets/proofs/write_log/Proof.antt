-- `write_log` meets its contract: its two refusals, and the first record with those of the entries behind it. Assumes nothing.
use Prim.Native.Nat.{ℕ, ◌≤◌}
use native.Mathlib.Omega.{arith}
use mathlib.Core.Path.{◌≡◌, ap, sym, ◌∙◌}
use mathlib.Core.Bool.{false}
use mathlib.Core.List.{List, append-nil}
use lib.ListN.{length, replicate}
use borrow.Author.Rules.{rules}
use Rattle.octets.specs.Octets.{stored}
use Rattle.octets.proofs.Laws.{length-stored}
use Rattle.esi.specs.Reserved.{reserved}
use Rattle.esi.specs.Text.{text_of}
use Rattle.esi.proofs.Laws.{number-written, written-text}
use Rattle.esi.proofs.Places.{length-text}
use Rattle.layout.specs.Table.{Table}
use Rattle.layout.specs.Words.{table_in}
use Rattle.frames.specs.Frames.{record_of}
use Rattle.log_octets.specs.Log.{entry_records, log_of}
use Rattle.log_octets.proofs.Laws.{length-log, wrote-reserved, wrote-short, wrote}
use Rattle.log_octets.proofs.write_log.Statement.{statement}
use Rattle.log_octets.proofs.write_log.Tie as tie

-- what is known once the identifier is
module _ (told : tie.After-is_reserved) where
  abbrev start : tie.Start
  start = told.before.before.before.before.before

  abbrev t : Table
  t = table_in start.args.t.now

  abbrev i : List ℕ
  i = told.identifier-esi.result

  owner : i ≡ t.esi
  owner = told.identifier-esi.ensures

-- and once the text is written
module _ (text : tie.After-write_text) where
  abbrev short : tie.Else-out-length
  short = text.before.before.before

  abbrev sized : tie.After-log_length-length
  sized = short.before

  abbrev asked : tie.After-is_reserved
  asked = sized.before.before

  free : reserved (i asked) ≡ false
  free = sym asked.is_reserved.ensures ∙ sized.if-is_reserved.false

  free-owner : reserved (t asked).esi ≡ false
  free-owner = sym (ap reserved (owner asked)) ∙ free

  text-is : text.write_text.new.buf ≡ text_of (i asked)
  text-is = text.write_text.ensures.1.0 ∙ written-text (replicate 29 0) (i asked) (number-written (replicate 29 0) (i asked) free (omega arith)) ∙ append-nil (text_of (i asked))

  -- how long it is, and how much room there is
  text-length : length text.write_text.new.buf ≡ 29
  text-length = ap length text-is ∙ length-text (i asked)

  room : length (log_of (t asked)) ≤ length (start asked).args.out.now
  room = omega (arith, sized.log_length-length.ensures, short.if-out-length.false)

  least : 33 ≤ length (start asked).args.out.now
  least = omega (arith, room, length-log (t asked))

returns : tie.Need-returns-then-is_reserved
returns c =
    let told = c.before in
    wrote-reserved (t told) (start told).args.out.now (sym (ap reserved (owner told)) ∙ sym told.is_reserved.ensures ∙ c.if-is_reserved.true)

returns-2 : tie.Need-returns-then-out-length
returns-2 c =
    let sized = c.before in
    let told = sized.before.before in
    wrote-short (t told) (start told).args.out.now (sym (ap reserved (owner told)) ∙ sym told.is_reserved.ensures ∙ sized.if-is_reserved.false) sized.log_length-length.result sized.log_length-length.ensures c.if-out-length.true

-- and once the first record is put
module _ (put : tie.After-put_record) where
  abbrev first : tie.After-write_text
  first = put.before.before.before.before

  abbrev s : tie.Start
  s = start (asked first)

  put_is : put.put_record.new.out ≡ stored s.args.out.now 0 (record_of 0 first.write_text.new.buf)
  put_is = put.put_record.ensures

  put-length : length put.put_record.new.out ≡ length s.args.out.now
  put-length = ap length put_is ∙ length-stored s.args.out.now 0 (record_of 0 first.write_text.new.buf)

put-record-requires : tie.Need-put_record-requires
put-record-requires c κs = let text = c.before.before.before in (omega (arith, text-length text, least text), omega (arith, text-length text))

put-entries-requires : tie.Need-put_entries-requires
put-entries-requires c κs =
    let put = c.before.before.before in
    let text = first put in
    ((s put).requires, owner (asked text), free text, omega (arith, room text, put-length put))

same_length : tie.Need-shape_of-out
same_length c =
    let all = c.before.before in
    let put = all.before.before.before.before in
    ap length all.put_entries.ensures ∙ length-stored _ _ _ ∙ put-length put

returns-3 : tie.Need-returns
returns-3 c =
    let all = c.before.before in
    let put = all.before.before.before.before in
    let text = first put in
    let told = asked text in
    let o = owner told in
    wrote (t told) (s put).args.out.now (free-owner text) (sized text).log_length-length.result text.write_text.new.buf put.put_record.new.out _ (sized text).log_length-length.ensures (short text).if-out-length.false
    (text-is text ∙ ap text_of o) (put_is put) (all.put_entries.ensures ∙ ap (λ x. stored put.put_record.new.out 33 (entry_records x (t told).entries)) o)

pub write_log_spec : {M : Type 1} → statement M
write_log_spec =
    tie.close
    (tie.spec
    (λ c κs. search rules)
    (λ c. search rules)
    (λ c κs. search rules)
    returns
    (λ c κs. search rules)
    returns-2
    (λ c. search rules)
    (λ c. search rules)
    (λ c κs. search rules)
    (λ c. search rules)
    put-record-requires
    put-entries-requires
    same_length
    returns-3)
