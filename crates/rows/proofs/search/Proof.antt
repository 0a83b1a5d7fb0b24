-- `search` meets its contract: the first look is at the place that is proposed, or in the middle. Assumes nothing.
use native.Mathlib.Omega.{arith}
use mathlib.Core.Path.{ap}
use mathlib.Core.List.{map}
use borrow.Author.Rules.{rules}
use lib.ListN.{length}
use Rattle.rows.specs.Rows.{rows_in, row_key}
use Rattle.rows.proofs.Looks.{look-lt, for-first}
use Rattle.rows.proofs.Outcomes.{within_all}
use Rattle.rows.proofs.Rows.{keys_length}
use Rattle.rows.proofs.search.Statement.{statement}
use Rattle.rows.proofs.search.Tie as tie

seek-requires : tie.Need-seek-requires
seek-requires c κs =
    let start = c.before.before.before in
    let a = start.args in
    (start.requires.0, start.requires.1, within_all (length a.key.now) a.n (row_key a.key.now) a.s.now, λ h. (omega arith, look-lt _ a.n c.first_look-look.ensures h), omega arith, start.requires.2)

returns : tie.Need-returns
returns c =
    let called = c.before in
    let a = called.args in
    let k = length a.key.now in
    let told = c.seek.ensures in
    let looks = ap length (for-first (row_key a.key.now) (map row_key (rows_in k a.n a.s.now)) a.first _ a.n (keys_length k a.n a.s.now) called.first_look-look.ensures) in
    (told.0, omega (arith, told.1, looks))

pub search_spec : {M : Type 1} → statement M
search_spec =
    tie.close
    (tie.spec
    (λ c κs. search rules)
    seek-requires
    returns)
