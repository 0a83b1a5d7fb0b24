-- `shrink` meets its contract: both columns have a row less, and the count follows. Assumes nothing.
use native.Mathlib.Omega.{arith}
use Prim.Native.Nat.{ℕ, ◌-◌, ◌*◌, ◌≤◌, ◌<◌}
use mathlib.Core.Path.{◌≡◌, ap, sym, ◌∙◌}
use mathlib.Core.List.{List}
use lib.ListN.{length, take, drop, length-set, length-drop}
use borrow.Author.Rules.{rules}
use borrow.Rule.Slice.PartMut.{put_mid}
use Rattle.rows.proofs.Rows.{length_removed}
use Rattle.layout.specs.Words.{table_in}
use Rattle.layout.proofs.Words.{length-valid, wide-addresses}
use Rattle.entries.proofs.Stores.{part-all, put-length, shrunk-words}
use Rattle.entries.proofs.shrink.Statement.{statement}
use Rattle.entries.proofs.shrink.Tie as tie

-- what is known once the first column has lost its row, and once the second has
module _ (r : tie.After-remove-arg-1) where
  abbrev from : tie.Start
  from = r.before.before.before

  abbrev words : List ℕ
  words = from.args.t.now

  abbrev n : ℕ
  n = r.count-n.result

  sized : length words ≡ 388
  sized = length-valid words from.requires.0

  asks : (from.args.at < n) × (n * 5 ≤ length words)
  asks = (omega (arith, r.count-n.ensures, from.requires.1), omega (arith, r.count-n.ensures, from.requires.0.sound.short, sized))

remove-requires : tie.Need-remove-requires
remove-requires c κs = asks c

module _ (o : tie.After-remove) where
  abbrev first : List ℕ
  first = o.remove.new.s

  first-sized : length first ≡ 388
  first-sized = let r = o.before in ap length o.remove.ensures ∙ length_removed 5 (n r) (from r).args.at (words r) (asks r).0 (asks r).1 ∙ sized r

  part-asks : n o.before * 1 ≤ length (take (length first - 320) (drop 320 first))
  part-asks = let r = o.before in omega (arith, ap length (part-all first), length-drop 320 first, first-sized, r.count-n.ensures, (from r).requires.0.sound.short)

sub-remove : tie.Need-slice_bounds-remove-count
sub-remove c = omega (arith, first-sized c.before.before)

part-remove-start : tie.Need-slice_bounds-remove-start
part-remove-start c = omega (arith, first-sized c.before.before)

remove-requires-2 : tie.Need-remove-requires-2
remove-requires-2 c κs = let o = c.before.before.before in ((asks o.before).0, part-asks o)

module _ (d : tie.After-remove-2) where
  abbrev one : tie.After-remove
  one = d.before.before.before.before

  abbrev called : tie.After-remove-arg-1
  called = one.before

  abbrev second : List ℕ
  second = d.remove-2.new.s

  second-sized : length second ≡ length (take (length (first one) - 320) (drop 320 (first one)))
  second-sized =
      ap length d.remove-2.ensures
      ∙ length_removed 1 (n called) (from called).args.at (take (length (first one) - 320) (drop 320 (first one))) (asks called).0 (part-asks one)

sub-less : tie.Need-overflow_sub-less
sub-less c = omega (arith, (asks (called c.before.before)).0)

slice-write-t : tie.Need-bounds-t-384
slice-write-t c =
    let d = c.before.before in
    omega (arith, put-length (first (one d)) (second d) (omega (arith, first-sized (one d))) (second-sized d), first-sized (one d))

same_length : tie.Need-shape_of-t
same_length c =
    let d = c.before.before in
    length-set (put_mid 320 (length (first (one d)) - 320) (first (one d)) (second d)) 384 _ ∙ put-length (first (one d)) (second d) (omega (arith, first-sized (one d))) (second-sized d) ∙ first-sized (one d) ∙ sym (sized (called d))

returns : tie.Need-returns
returns c =
    let d = c.before.before in
    let r = called d in
    let b = words r in
    let h = (from r).requires.0 in
    shrunk-words b (table_in b).esi (table_in b).entries h.sound.short (wide-addresses (table_in b).entries h.sound.addresses) h.whole (from r).args.at (from r).requires.1 _ _ _ r.count-n.ensures (one d).remove.ensures d.remove-2.ensures

pub shrink_spec : {M : Type 1} → statement M
shrink_spec =
    tie.close
    (tie.spec
    (λ c κs. search rules)
    remove-requires
    sub-remove
    part-remove-start
    (λ c. search rules)
    remove-requires-2
    sub-less
    (λ c. search rules)
    slice-write-t
    same_length
    returns)
