-- `head_at` meets its contract. Assumes nothing.
use mathlib.Core.Path.{◌∙◌, ap}
use borrow.Author.Rules.{rules}
use Rattle.rows.proofs.Compared.{turned, turned_pair}
use Rattle.rows.proofs.head_at.Statement.{statement}
use Rattle.rows.proofs.head_at.Tie as tie

returns : tie.Need-returns
returns c =
    let known = c.before.before in
    let a = known.args in
    c.turned.ensures ∙ ap turned c.pair_at-pair.ensures ∙ turned_pair _ _ (known.shared_slice_known-1.given a.at).fits (known.shared_slice_known-1.given _).fits

pub head_at_spec : {M : Type 1} → statement M
head_at_spec =
    tie.close
    (tie.spec
    (λ c κs. search rules)
    (λ c κs. search rules)
    returns)
