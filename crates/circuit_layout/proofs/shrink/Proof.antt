-- `shrink` meets its contract: the rows have one less, and the count follows. Assumes nothing.
use Prim.Native.Nat.{ℕ, ◌*◌, ◌≤◌, ◌<◌}
use native.Mathlib.Omega.{arith}
use mathlib.Core.Path.{◌≡◌, ap, sym, ◌∙◌}
use mathlib.Core.List.{List}
use lib.ListN.{length, length-set}
use borrow.Author.Rules.{rules}
use Rattle.rows.proofs.Rows.{length_removed}
use Rattle.circuit_layout.proofs.Words.{length-valid, short, shrunk-words}
use Rattle.circuit_layout.proofs.shrink.Statement.{statement}
use Rattle.circuit_layout.proofs.shrink.Tie as tie

module _ (r : tie.After-remove-arg-1) where
  abbrev from : tie.Start
  from = r.before.before.before

  abbrev words : List ℕ
  words = from.args.t.now

  abbrev n : ℕ
  n = r.count-n.result

  sized : length words ≡ 1793
  sized = length-valid words from.requires.0

  asks : (from.args.at < n) × (n * 7 ≤ length words)
  asks = (omega (arith, r.count-n.ensures, from.requires.1), omega (arith, r.count-n.ensures, short words from.requires.0, sized))

remove-requires : tie.Need-remove-requires
remove-requires c κs = asks c

module _ (o : tie.After-remove) where
  abbrev first : List ℕ
  first = o.remove.new.s

  first-sized : length first ≡ 1793
  first-sized = let r = o.before in ap length o.remove.ensures ∙ length_removed 7 (n r) (from r).args.at (words r) (asks r).0 (asks r).1 ∙ sized r

sub-less : tie.Need-overflow_sub-less
sub-less c = omega (arith, (asks c.before.before.before).0)

slice-write-t : tie.Need-bounds-t-1792
slice-write-t c = omega (arith, first-sized c.before.before)

same_length : tie.Need-shape_of-t
same_length c = let o = c.before.before in length-set (first o) 1792 _ ∙ first-sized o ∙ sym (sized o.before)

returns : tie.Need-returns
returns c =
    let o = c.before.before in
    let r = o.before in
    let start = from r in
    shrunk-words (words r) start.requires.0 _ start.args.at _ r.count-n.ensures start.requires.1 o.remove.ensures

pub shrink_spec : {M : Type 1} → statement M
shrink_spec =
    tie.close
    (tie.spec
    (λ c κs. search rules)
    remove-requires
    sub-less
    (λ c. search rules)
    slice-write-t
    same_length
    returns)
