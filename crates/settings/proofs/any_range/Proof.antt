-- `any_range` meets its contract: it is that of the ranges' part of the words. Assumes nothing.
use native.Mathlib.Omega.{arith}
use borrow.Author.Rules.{rules}
use Rattle.tag_ranges.proofs.Laws.{part-from}
use Rattle.settings.specs.Settings.{settings_in, any_range}
use Rattle.settings.proofs.Laws.{length-settings, valid-ranges-part}
use Rattle.settings.proofs.any_range.Statement.{statement}
use Rattle.settings.proofs.any_range.Tie as tie

returns : tie.Need-returns
unfolding settings_in any_range
returns c = let a = c.args in rw (part-from 2 a.s.now) at c.any.ensures

pub any_range_spec : {M : Type 1} → statement M
any_range_spec =
    tie.close
    (tie.spec
    (λ c. let s = c.before in omega (arith, length-settings s.args.s.now s.requires))
    (λ c. let s = c.before in omega (arith, length-settings s.args.s.now s.requires))
    (λ c. search rules)
    (λ c κs. let s = c.before.before in valid-ranges-part s.args.s.now s.requires)
    returns)
