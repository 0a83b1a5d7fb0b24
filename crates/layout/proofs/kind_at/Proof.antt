-- `kind_at` meets its contract. Assumes nothing.
use Prim.Native.Nat.{ℕ, ◌/◌}
use mathlib.Core.Path.{ap, ◌∙◌}
use borrow.Author.Rules.{rules}
use Rattle.layout.proofs.Words.{attributes-kind}
use Rattle.layout.proofs.kind_at.Statement.{statement}
use Rattle.layout.proofs.kind_at.Tie as tie

returns : tie.Need-returns
returns c =
    let read = c.before in
    let start = read.before.before in
    c.kind_of.ensures ∙ ap (λ (w : ℕ). w / 131072) read.attributes_at.ensures ∙ attributes-kind start.args.t.now start.requires.0 start.args.at start.requires.1

pub kind_at_spec : {M : Type 1} → statement M
kind_at_spec =
    tie.close
    (tie.spec
    (λ c κs. search rules)
    (λ c κs. search rules)
    returns)
