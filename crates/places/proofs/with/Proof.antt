-- `with` meets its contract: a one shifted by i sets bit i. Assumes nothing.
use mathlib.Core.Path.{sym, ap, ◌∙◌}
use lib.Bits.{bit_or}
use borrow.Author.Rules.{rules}
use Rattle.places.proofs.Laws.{shift_one}
use Rattle.places.proofs.Flags.{with_place-in}
use Rattle.places.proofs.with.Statement.{statement}
use Rattle.places.proofs.with.Tie as tie

returns : tie.Need-returns
returns c =
    let s = c.args.s in
    let i = c.args.i in
    ap (bit_or s) (shift_one i c.requires) ∙ sym (with_place-in s i c.requires)

pub with_spec : {M : Type 1} → statement M
with_spec =
    tie.close
    (tie.spec
    (λ c. search rules)
    returns)
