-- `in_range` meets its contract. Assumes nothing.
use Rattle.settings.proofs.Laws.{below-four, four-or-more}
use mathlib.Core.Path.{sym}
use Rattle.settings.proofs.in_range.Statement.{statement}
use Rattle.settings.proofs.in_range.Tie as tie

returns : tie.Need-returns-then-number-lt-LEAST
returns c = sym (below-four c.args.number c.if-number-lt-LEAST.true)

returns-2 : tie.Need-returns
returns-2 c = four-or-more c.args.number c.if-number-lt-LEAST.false

pub in_range_spec : {M : Type 1} → statement M
in_range_spec =
    tie.close
    (tie.spec
    returns
    returns-2)
