-- `algorithm_at` meets its contract. Assumes nothing.
use Prim.Native.Nat.{ℕ, ◌/◌}
use mathlib.Core.Path.{ap, ◌∙◌}
use borrow.Author.Rules.{rules}
use lib.ListN.{get_or}
use Rattle.layout.specs.Table.{no_entry}
use Rattle.layout.specs.Words.{table_in}
use Rattle.layout.proofs.Words.{kind-algorithm}
use Rattle.layout.proofs.algorithm_at.Statement.{statement}
use Rattle.layout.proofs.algorithm_at.Tie as tie

returns : tie.Need-returns
returns c =
    let start = c.before.before in
    ap (λ (k : ℕ). k / 2) c.kind_at.ensures ∙ kind-algorithm (get_or (table_in start.args.t.now).entries start.args.at no_entry)

pub algorithm_at_spec : {M : Type 1} → statement M
algorithm_at_spec =
    tie.close
    (tie.spec
    (λ c κs. search rules)
    returns)
