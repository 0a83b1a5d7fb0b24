-- `second_of` meets its contract: the set without the first elected place holds the other candidates, and is not empty. Assumes nothing.
use native.Mathlib.Omega.{arith}
use borrow.Author.Rules.{rules}
use Rattle.layout.specs.Table.{Table}
use Rattle.layout.specs.Words.{table_in}
use Rattle.answers.specs.Answers.{Method, by_tag}
use Rattle.backup.proofs.Laws.{two-some, rest_under, rest-count, rest_some, second_at}
use Rattle.backup.proofs.second_of.Statement.{statement}
use Rattle.backup.proofs.second_of.Tie as tie

module _ (start : tie.Start) where
  abbrev table : Table
  table = table_in start.args.t.now

  abbrev method : Method
  method = by_tag start.args.algorithm start.args.tag table.esi

place-by-tag-requires : tie.Need-place_by_tag-first-requires
place-by-tag-requires c κs = let start = c.before in (start.requires.0, two-some _ start.requires.1, start.requires.2, start.requires.3)

-- what is known once the first elected is taken out
module _ (taken : tie.After-without-rest) where
  abbrev found : tie.After-place_by_tag-first
  found = taken.before

  abbrev from : tie.Start
  from = found.before.before

place-by-tag-requires-2 : tie.Need-place_by_tag-requires
place-by-tag-requires-2 c κs =
    let taken = c in
    let start = from taken in
    let t = table start in
    let w = start.requires.0.sound in
    let first = (found taken).place_by_tag-first.ensures in (
      start.requires.0,
      rest_some t.entries w.short w.rising (method start) _ _ start.requires.1 start.requires.2 _ first _ taken.without-rest.ensures,
      rest_under t.entries w.short w.rising (method start) _ _ start.requires.1 start.requires.2 _ first _ taken.without-rest.ensures,
      rest-count t.entries w.short w.rising (method start) _ _ start.requires.1 start.requires.2 _ first _ taken.without-rest.ensures _ start.requires.3,
    )

returns : tie.Need-returns
returns c =
    let taken = c.before in
    let start = from taken in
    let t = table start in
    let w = start.requires.0.sound in
    second_at t.entries w.short w.rising (method start) _ _ start.requires.1 start.requires.2 _ (found taken).place_by_tag-first.ensures _ taken.without-rest.ensures
    _ c.place_by_tag.ensures

pub second_of_spec : {M : Type 1} → statement M
second_of_spec =
    tie.close
    (tie.spec
    place-by-tag-requires
    (λ c κs. search rules)
    (λ c. let start = from c in omega (arith, start.requires.1, start.requires.3))
    place-by-tag-requires-2
    returns)
