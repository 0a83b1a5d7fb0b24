-- `grow` meets its contract: the rows have one more, and the count follows. Assumes nothing.
use Prim.Native.Nat.{ℕ, ◌+◌, ◌*◌, ◌≤◌}
use native.Mathlib.Omega.{arith}
use mathlib.Core.Path.{◌≡◌, ap, sym, ◌∙◌}
use mathlib.Core.List.{List}
use lib.ListN.{length, length-set}
use borrow.Author.Rules.{rules}
use Rattle.rows.proofs.Rows.{length_inserted}
use Rattle.circuit_layout.proofs.Words.{length-valid, grown-words}
use Rattle.circuit_layout.proofs.grow.Statement.{statement}
use Rattle.circuit_layout.proofs.grow.Tie as tie

module _ (r : tie.After-insert-arg-1) where
  abbrev from : tie.Start
  from = r.before.before.before.before

  abbrev words : List ℕ
  words = from.args.t.now

  abbrev row : List ℕ
  row = from.args.row.now

  abbrev n : ℕ
  n = r.count-n.result

  sized : length words ≡ 1793
  sized = length-valid words from.requires.0

  asks : (from.args.at ≤ n) × (n * length row + length row ≤ length words)
  asks = (omega (arith, r.count-n.ensures, from.requires.1), rw from.requires.3 (omega (arith, r.count-n.ensures, from.requires.2, sized)))

insert-requires : tie.Need-insert-requires
insert-requires c κs = asks c

module _ (o : tie.After-insert) where
  abbrev first : List ℕ
  first = o.insert.new.s

  first-sized : length first ≡ 1793
  first-sized = let r = o.before in ap length o.insert.ensures ∙ length_inserted (n r) (from r).args.at (row r) (words r) (asks r).0 (asks r).1 ∙ sized r

slice-write-t : tie.Need-bounds-t-1792
slice-write-t c = omega (arith, first-sized c.before.before)

same_length : tie.Need-shape_of-t
same_length c = let o = c.before.before in length-set (first o) 1792 _ ∙ first-sized o ∙ sym (sized o.before)

returns : tie.Need-returns
returns c =
    let o = c.before.before in
    let r = o.before in
    let start = from r in
    grown-words (words r) start.requires.0 _ start.args.at (row r) _ r.count-n.ensures start.requires.3 start.requires.1 start.requires.2 o.insert.ensures

pub grow_spec : {M : Type 1} → statement M
grow_spec =
    tie.close
    (tie.spec
    (λ c κs. search rules)
    insert-requires
    (λ c. search rules)
    (λ c. search rules)
    slice-write-t
    same_length
    returns)
