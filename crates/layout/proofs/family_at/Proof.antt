-- `family_at` meets its contract. Assumes nothing.
use native.Mathlib.Omega.{arith}
use borrow.Author.Rules.{rules}
use Rattle.layout.proofs.Words.{length-valid}
use Rattle.layout.proofs.Addresses.{family-word, family-small}
use Rattle.layout.proofs.family_at.Statement.{statement}
use Rattle.layout.proofs.family_at.Tie as tie

shared-slice-read-result : tie.Need-bounds-t-at
shared-slice-read-result c = let start = c.before in omega (arith, length-valid start.args.t.now start.requires.0, start.requires.0.sound.short, start.requires.1)

cast-result : tie.Need-overflow_cast-result
cast-result c = let start = c.before in omega (arith, family-small start.args.t.now start.requires.0 start.args.at start.requires.1)

returns : tie.Need-returns
returns c = let start = c.before in family-word start.args.t.now start.requires.0 start.args.at start.requires.1

pub family_at_spec : {M : Type 1} → statement M
family_at_spec =
    tie.close
    (tie.spec
    (λ c. search rules)
    (λ c. search rules)
    shared-slice-read-result
    cast-result
    returns)
