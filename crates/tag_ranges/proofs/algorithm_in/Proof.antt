-- `algorithm_in` meets its contract: it is that of the index of the ranges as handed in. Assumes nothing.
use native.Mathlib.Omega.{arith}
use mathlib.Core.Path.{sym}
use lib.Seq.{length-take-le}
use borrow.Author.Rules.{rules}
use Rattle.tag_ranges.specs.TagRanges.{tag_ranges_in}
use Rattle.tag_ranges.proofs.Laws.{length-tag-ranges, valid-kept, index-part}
use Rattle.tag_ranges.proofs.algorithm_in.Statement.{statement}
use Rattle.tag_ranges.proofs.algorithm_in.Tie as tie

returns : tie.Need-returns
unfolding tag_ranges_in
returns c = c.algorithm_in.ensures

pub algorithm_in_spec : {M : Type 1} → statement M
algorithm_in_spec =
    tie.close
    (tie.spec
    (λ c. let s = c in sym (length-take-le 49 s.args.b.now (omega (arith, length-tag-ranges s.args.b.now s.requires.0))))
    (λ c. let s = c in omega (arith, length-tag-ranges s.args.b.now s.requires.0))
    (λ c. let s = c in omega (arith, length-tag-ranges s.args.b.now s.requires.0))
    (λ c. search rules)
    (λ c κs. let s = c in (valid-kept s.args.b.now s.requires.0, index-part s.args.b.now s.requires.0, s.requires.1))
    returns)
