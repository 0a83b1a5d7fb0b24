-- `same_identifier` meets its contract: three words are compared, and a word that differs decides. Assumes nothing.
use Prim.Native.Nat.{ℕ, ◌<◌}
use native.Mathlib.Omega.{arith}
use mathlib.Core.Path.{◌∙◌}
use borrow.Author.Rules.{rules}
use Rattle.lists.proofs.Lists.{every-place}
use Rattle.layout.proofs.Words.{length-valid}
use Rattle.owner.proofs.Laws.{first-differs, second-differs, third-decides}
use Rattle.owner.proofs.same_identifier.Statement.{statement}
use Rattle.owner.proofs.same_identifier.Tie as tie

first-in : tie.Need-bounds-t-385
first-in c = let start = c.before.before.before in omega (arith, length-valid start.args.t.now start.requires.0)

returns : tie.Need-returns-then-t-low_four
returns c =
    let start = c.before.before.before.before.before in
    first-differs start.args.t.now start.requires.0 start.args.esi.now _ c.low_four.ensures c.if-t-low_four.true

second-in : tie.Need-bounds-t
second-in c = let start = c.before.before.before.before.before.before in omega (arith, length-valid start.args.t.now start.requires.0)

returns-2 : tie.Need-returns-then-t-low_four-2
returns-2 c =
    let start = c.before.before.before.before.before.before.before.before in
    second-differs start.args.t.now start.requires.0 start.args.esi.now _ c.low_four-2.ensures c.if-t-low_four-2.true

third-in : tie.Need-bounds-t-2
third-in c = let start = c.before.before.before.before.before.before.before.before.before in omega (arith, length-valid start.args.t.now start.requires.0)

returns-3 : tie.Need-returns
returns-3 c =
    let not-second = c.before.before in
    let not_first = not-second.before.before.before in
    let known = not_first.before.before.before in
    let start = known.before.before in
    third-decides start.args.t.now start.requires.0 start.args.esi.now start.requires.1
    (every-place (λ (x : ℕ). x < 256) start.args.esi.now 0 (λ j _. (known.shared_slice_known-2-1.given j).fits))
    (not_first.if-t-low_four.false ∙ not_first.low_four.ensures) (not-second.if-t-low_four-2.false ∙ not-second.low_four-2.ensures) _ c.low_two.ensures

pub same_identifier_spec : {M : Type 1} → statement M
same_identifier_spec =
    tie.close
    (tie.spec
    first-in
    (λ c κs. search rules)
    returns
    (λ c. search rules)
    (λ c. search rules)
    second-in
    (λ c κs. search rules)
    returns-2
    (λ c. search rules)
    (λ c. search rules)
    third-in
    (λ c κs. search rules)
    returns-3)
