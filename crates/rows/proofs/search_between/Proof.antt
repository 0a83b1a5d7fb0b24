-- `search_between` meets its contract: the first look is in the middle. Assumes nothing.
use native.Mathlib.Omega.{arith}
use mathlib.Core.Path.{ap}
use mathlib.Core.List.{map}
use lib.ListN.{length}
use Rattle.rows.specs.Rows.{rows_in, row_key}
use Rattle.rows.proofs.Looks.{between-at}
use Rattle.rows.proofs.Rows.{rows-length}
use Rattle.rows.proofs.search_between.Statement.{statement}
use Rattle.rows.proofs.search_between.Tie as tie

halfway-requires : tie.Need-halfway-first-requires
halfway-requires c κs =
    let start = c.before.before in
    let a = start.args in
    (omega (arith, start.requires.2.0, start.requires.2.1), omega (arith, start.requires.2.2, rows-length (length a.key.now) a.n a.s.now, start.requires.4))

seek-requires : tie.Need-seek-requires
seek-requires c κs =
    let start = c.before.before.before in
    let half = c.halfway-first.ensures in
    (start.requires.0, start.requires.1, start.requires.2, λ h. (omega arith, omega arith), start.requires.3, start.requires.4)

returns : tie.Need-returns
returns c =
    let called = c.before in
    let a = called.args in
    let told = c.seek.ensures in
    let looks = ap length (between-at (row_key a.key.now) (map row_key (rows_in (length a.key.now) a.n a.s.now)) a.from _ a.to called.halfway-first.ensures) in
    (told.0, omega (arith, told.1, looks))

pub search_between_spec : {M : Type 1} → statement M
search_between_spec =
    tie.close
    (tie.spec
    halfway-requires
    seek-requires
    returns)
