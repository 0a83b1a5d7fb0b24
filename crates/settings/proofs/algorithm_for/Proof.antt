-- `algorithm_for` meets its contract: it is that of the ranges' part of the words. Assumes nothing.
use native.Mathlib.Omega.{arith}
use borrow.Author.Rules.{rules}
use Rattle.tag_ranges.proofs.Laws.{part-from}
use Rattle.settings.specs.Settings.{settings_in}
use Rattle.settings.proofs.Laws.{length-settings, valid-ranges-part}
use Rattle.settings.proofs.algorithm_for.Statement.{statement}
use Rattle.settings.proofs.algorithm_for.Tie as tie

returns : tie.Need-returns
unfolding settings_in
returns c = let a = c.args in rw (part-from 2 a.s.now) at c.algorithm_in.ensures

pub algorithm_for_spec : {M : Type 1} → statement M
algorithm_for_spec =
    tie.close
    (tie.spec
    (λ c. let s = c.before in omega (arith, length-settings s.args.s.now s.requires.0))
    (λ c. let s = c.before in omega (arith, length-settings s.args.s.now s.requires.0))
    (λ c. search rules)
    (λ c κs. let s = c.before.before in (valid-ranges-part s.args.s.now s.requires.0, s.requires.1))
    returns)
