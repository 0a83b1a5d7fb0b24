-- `grow` meets its contract: both columns have a row more, and the count follows. Assumes nothing.
use native.Mathlib.Omega.{arith}
use Prim.Native.Nat.{ℕ, ◌+◌, ◌-◌, ◌*◌, ◌≤◌}
use mathlib.Core.Path.{◌≡◌, ap, sym, ◌∙◌}
use mathlib.Core.List.{List}
use lib.ListN.{length, take, drop, length-set, length-drop}
use borrow.Author.Rules.{rules}
use borrow.Rule.Slice.PartMut.{put_mid}
use Rattle.address.specs.Address.{address_row}
use Rattle.address.proofs.Laws.{length-address}
use Rattle.rows.proofs.Rows.{length_inserted}
use Rattle.layout.specs.Words.{table_in}
use Rattle.layout.proofs.Words.{length-valid, wide-addresses}
use Rattle.entries.proofs.Stores.{part-all, put-length, grown-words}
use Rattle.entries.proofs.grow.Statement.{statement}
use Rattle.entries.proofs.grow.Tie as tie

-- what is known once the first column has its row, and once the second has
module _ (r : tie.After-row-1) where
  abbrev from : tie.Start
  from = r.before.before.before.before.before

  abbrev words : List ℕ
  words = from.args.t.now

  abbrev n : ℕ
  n = r.count-n.result

  sized : length words ≡ 388
  sized = length-valid words from.requires.0

  width : length r.row-row.result ≡ 5
  width = length-address r.row-row.result r.row-row.ensures.1.0

  asks : (from.args.at ≤ n) × (n * length r.row-row.result + length r.row-row.result ≤ length words)
  asks = (omega (arith, r.count-n.ensures, from.requires.1), rw width (omega (arith, r.count-n.ensures, from.requires.2, sized)))

insert-requires : tie.Need-insert-requires
insert-requires c κs = asks c

module _ (o : tie.After-insert) where
  abbrev first : List ℕ
  first = o.insert.new.s

  first-sized : length first ≡ 388
  first-sized =
      let r = o.before in
      ap length o.insert.ensures ∙ length_inserted (n r) (from r).args.at r.row-row.result (words r) (asks r).0 (asks r).1 ∙ sized r

sub-insert : tie.Need-slice_bounds-insert-count
sub-insert c = omega (arith, first-sized c.before.before)

part-insert-start : tie.Need-slice_bounds-insert-start
part-insert-start c = omega (arith, first-sized c.before.before)

insert-requires-2 : tie.Need-insert-requires-2
insert-requires-2 c κs =
    let o = c.before.before.before.before in
    let r = o.before in
    ((asks r).0, omega (arith, ap length (part-all (first o)), length-drop 320 (first o), first-sized o, r.count-n.ensures, (from r).requires.2))

module _ (d : tie.After-insert-2) where
  abbrev one : tie.After-insert
  one = d.before.before.before.before.before

  abbrev row : tie.After-row-1
  row = one.before

  abbrev second : List ℕ
  second = d.insert-2.new.s

  second-sized : length second ≡ length (take (length (first one) - 320) (drop 320 (first one)))
  second-sized =
      ap length d.insert-2.ensures
      ∙ length_inserted (n row) (from row).args.at _ (take (length (first one) - 320) (drop 320 (first one))) (asks row).0
      (omega (arith, ap length (part-all (first one)), length-drop 320 (first one), first-sized one, row.count-n.ensures, (from row).requires.2))

slice-write-t : tie.Need-bounds-t-384
slice-write-t c =
    let d = c.before.before in
    omega (arith, put-length (first (one d)) (second d) (omega (arith, first-sized (one d))) (second-sized d), first-sized (one d))

same_length : tie.Need-shape_of-t
same_length c =
    let d = c.before.before in
    length-set (put_mid 320 (length (first (one d)) - 320) (first (one d)) (second d)) 384 _ ∙ put-length (first (one d)) (second d) (omega (arith, first-sized (one d))) (second-sized d) ∙ first-sized (one d) ∙ sym (sized (row d))

returns : tie.Need-returns
returns c =
    let d = c.before.before in
    let r = row d in
    let a = (from r).args in
    let b = words r in
    let h = (from r).requires.0 in
    grown-words b (table_in b).esi (table_in b).entries h.sound.short (wide-addresses (table_in b).entries h.sound.addresses) h.whole a.at (address_row a.address) a.word (ap length (sym r.row-row.ensures.0) ∙ width r) (from r).requires.1 (from r).requires.2 _ _ _ _
    r.count-n.ensures r.row-row.ensures.0 (one d).insert.ensures d.insert-2.ensures

pub grow_spec : {M : Type 1} → statement M
grow_spec =
    tie.close
    (tie.spec
    (λ c κs. search rules)
    (λ c κs. search rules)
    (λ c. search rules)
    insert-requires
    sub-insert
    part-insert-start
    (λ c. search rules)
    (λ c. search rules)
    insert-requires-2
    (λ c. search rules)
    (λ c. search rules)
    slice-write-t
    same_length
    returns)
