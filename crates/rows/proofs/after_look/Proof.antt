-- `after_look` meets its contract: what the look leaves is searched. Assumes nothing.
use Prim.Native.Nat.{ℕ}
use native.Mathlib.Omega.{arith}
use mathlib.Core.Path.{◌≡◌, sym, ◌∙◌}
use mathlib.Core.List.{map}
use borrow.Author.Rules.{rules}
use lib.ListN.{length}
use Rattle.rows.specs.Rows.{rows_in, row_key, looks_for}
use Rattle.std.specs.declared.cmp.Ordering.{Ordering}
use Rattle.std.specs.declared.cmp.Ordering.TheVariants.{Less, Equal, Greater}
use Rattle.rows.proofs.Outcomes.{Left, left-first}
use Rattle.rows.proofs.after_look.Statement.{statement}
use Rattle.rows.proofs.after_look.Tie as tie

-- what is left, by the outcome
module _ (entered : tie.After-shared_slice_known-2-1) where
  abbrev start : tie.Start
  start = entered.before.before

  abbrev k : ℕ
  k = length start.args.key.now

  abbrev m : ℕ
  m = row_key start.args.key.now

  after : (o : Ordering) → start.args.order ≡ o
      → Left k start.args.n m start.args.s.now 0 start.args.at start.args.n (length (looks_for start.args.at m (map row_key (rows_in k start.args.n start.args.s.now)))) o
  after o e = left-first k start.args.n m start.args.s.now start.requires.1 start.args.at start.requires.2 o (sym e ∙ start.requires.3)

search-between-requires : tie.Need-search_between-requires
search-between-requires c κs =
    let e = c.before in
    ((start e).requires.0, (start e).requires.1, (after e Less c.in-Less.is).0, omega arith, (start e).requires.4)

search-between-requires-2 : tie.Need-search_between-requires-in-Greater
search-between-requires-2 c κs =
    let e = c.before in
    ((start e).requires.0, (start e).requires.1, (after e Greater c.in-Greater.is).0, omega arith, (start e).requires.4)

returns : tie.Need-returns-in-Equal
returns c = let told = after c.before Equal c.in-Equal.is in (told.0, sym told.1)

returns-2 : tie.Need-returns-in-Less
returns-2 c =
    let told = after c.before.before Less c.in-Less.is in
    (c.search_between.ensures.0, omega (arith, c.search_between.ensures.1, told.1))

returns-3 : tie.Need-returns-in-Greater
returns-3 c =
    let told = after c.before.before Greater c.in-Greater.is in
    (c.search_between-in-Greater.ensures.0, omega (arith, c.search_between-in-Greater.ensures.1, told.1))

pub after_look_spec : {M : Type 1} → statement M
after_look_spec =
    tie.close
    (tie.spec
    (λ c. search rules)
    (λ c. search rules)
    (λ c. search rules)
    search-between-requires
    (λ c. search rules)
    search-between-requires-2
    returns
    returns-2
    returns-3)
