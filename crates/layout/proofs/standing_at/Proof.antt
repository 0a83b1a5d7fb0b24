-- `standing_at` meets its contract. Assumes nothing.
use Prim.Native.Nat.{ℕ, ◌%◌}
use native.Mathlib.Omega.{arith}
use mathlib.Core.Path.{ap, ◌∙◌}
use borrow.Author.Rules.{rules}
use Rattle.layout.proofs.Words.{attributes-standing}
use Rattle.layout.proofs.standing_at.Statement.{statement}
use Rattle.layout.proofs.standing_at.Tie as tie

returns : tie.Need-returns
returns c =
    let start = c.before.before in
    (ap (λ (w : ℕ). w % 131072) c.attributes_at.ensures ∙ attributes-standing start.args.t.now start.requires.0 start.args.at start.requires.1, omega arith)

pub standing_at_spec : {M : Type 1} → statement M
standing_at_spec =
    tie.close
    (tie.spec
    (λ c κs. search rules)
    returns)
