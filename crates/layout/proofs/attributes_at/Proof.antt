-- `attributes_at` meets its contract. Assumes nothing.
use native.Mathlib.Omega.{arith}
use borrow.Author.Rules.{rules}
use Rattle.layout.proofs.Words.{length-valid, attributes-word}
use Rattle.layout.proofs.attributes_at.Statement.{statement}
use Rattle.layout.proofs.attributes_at.Tie as tie

shared-slice-read-result : tie.Need-bounds-t-at
shared-slice-read-result c = let start = c.before in omega (arith, length-valid start.args.t.now start.requires.0, start.requires.0.sound.short)

returns : tie.Need-returns
returns c = let start = c.before in attributes-word start.args.t.now start.requires.0 start.args.at start.requires.1

pub attributes_at_spec : {M : Type 1} → statement M
attributes_at_spec =
    tie.close
    (tie.spec
    (λ c. search rules)
    (λ c. search rules)
    shared-slice-read-result
    returns)
