-- `any` meets its contract: it is that of the ranges as handed in. Assumes nothing.
use native.Mathlib.Omega.{arith}
use mathlib.Core.Path.{sym}
use lib.Seq.{length-take-le}
use Rattle.tag_ranges.specs.TagRanges.{tag_ranges_in}
use Rattle.tag_ranges.proofs.Laws.{length-tag-ranges, valid-kept}
use Rattle.tag_ranges.proofs.any.Statement.{statement}
use Rattle.tag_ranges.proofs.any.Tie as tie

returns : tie.Need-returns
unfolding tag_ranges_in
returns c = c.any.ensures

pub any_spec : {M : Type 1} → statement M
any_spec =
    tie.close
    (tie.spec
    (λ c. let s = c in sym (length-take-le 49 s.args.b.now (omega (arith, length-tag-ranges s.args.b.now s.requires))))
    (λ c κs. let s = c in valid-kept s.args.b.now s.requires)
    returns)
