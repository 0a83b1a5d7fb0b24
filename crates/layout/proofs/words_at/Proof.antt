-- `words_at` meets its contract. Assumes nothing.
use native.Mathlib.Omega.{arith}
use borrow.Author.Rules.{rules}
use Rattle.layout.proofs.Words.{length-valid}
use Rattle.layout.proofs.Addresses.{four-words}
use Rattle.layout.proofs.words_at.Statement.{statement}
use Rattle.layout.proofs.words_at.Tie as tie

shared-slice-read-t7 : tie.Need-bounds-t-start
shared-slice-read-t7 c = let start = c.before in omega (arith, length-valid start.args.t.now start.requires.0, start.requires.0.sound.short, start.requires.1)

shared-slice-read-t11 : tie.Need-bounds-t-start-2
shared-slice-read-t11 c = let start = c.before.before in omega (arith, length-valid start.args.t.now start.requires.0, start.requires.0.sound.short, start.requires.1)

shared-slice-read-t15 : tie.Need-bounds-t-start-3
shared-slice-read-t15 c = let start = c.before.before.before in omega (arith, length-valid start.args.t.now start.requires.0, start.requires.0.sound.short, start.requires.1)

shared-slice-read-t19 : tie.Need-bounds-t-start-4
shared-slice-read-t19 c = let start = c.before.before.before.before in omega (arith, length-valid start.args.t.now start.requires.0, start.requires.0.sound.short, start.requires.1)

returns : tie.Need-returns
returns c =
    let start = c.before.before.before.before in
    four-words start.args.t.now start.requires.0 start.args.at start.requires.1

pub words_at_spec : {M : Type 1} → statement M
words_at_spec =
    tie.close
    (tie.spec
    (λ c. search rules)
    (λ c. search rules)
    (λ c. search rules)
    shared-slice-read-t7
    (λ c. search rules)
    (λ c. search rules)
    shared-slice-read-t11
    (λ c. search rules)
    (λ c. search rules)
    shared-slice-read-t15
    (λ c. search rules)
    (λ c. search rules)
    shared-slice-read-t19
    returns)
