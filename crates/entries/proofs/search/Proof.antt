-- `search` meets its contract: the rows of the first column have the entries' keys. Assumes nothing.
use native.Mathlib.Omega.{arith}
use borrow.Author.Rules.{rules}
use Rattle.address.specs.Address.{address_row}
use Rattle.entries.proofs.Lookups.{fits, rise, whole, found-told, between-told}
use Rattle.entries.proofs.search.Statement.{statement}
use Rattle.entries.proofs.search.Tie as tie

search-between-requires : tie.Need-search_between-requires
search-between-requires c κs =
    let start = c.before.before.before.before in
    let a = start.args in
    let b = a.t.now in
    let row = c.row-row in
    let z = c.count-n.ensures in
    let r = address_row a.address in (
      fits b _ _ r start.requires z row.ensures.0 row.ensures.1.0,
      rise b _ _ r start.requires z row.ensures.0 row.ensures.1.0,
      whole b _ _ r start.requires z row.ensures.0 row.ensures.1.0,
      omega arith,
      omega (arith, z, start.requires.sound.short),
    )

returns : tie.Need-returns
returns c =
    let start = c.before.before.before.before.before in
    let a = start.args in
    let b = a.t.now in
    let row = c.row-row in
    let z = c.count-n.ensures in
    let r = address_row a.address in
    let told = c.search_between.ensures in
    (found-told b _ _ r start.requires z row.ensures.0 row.ensures.1.0 _ told.0, between-told b _ _ r start.requires z row.ensures.0 row.ensures.1.0 _ (omega (arith, told.1)))

pub search_spec : {M : Type 1} → statement M
search_spec =
    tie.close
    (tie.spec
    (λ c κs. search rules)
    (λ c κs. search rules)
    (λ c. search rules)
    search-between-requires
    returns)
