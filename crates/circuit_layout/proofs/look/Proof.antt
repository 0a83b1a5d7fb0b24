-- `look` meets its contract: the rows of the table are its routes. Assumes nothing.
use Prim.Native.Nat.{ℕ}
use native.Mathlib.Omega.{arith}
use mathlib.Core.Path.{◌≡◌, ap, ap₂, ◌∙◌, sym, subst}
use mathlib.Core.List.{List}
use lib.ListN.{length}
use borrow.Author.Rules.{rules}
use Rattle.keyed.specs.Keyed.{Rising}
use Rattle.rows.specs.Rows.{rows_in, row_key, found_in}
use Rattle.circuit_layout.specs.Circuits.{circuits_in}
use Rattle.circuit_layout.proofs.Words.{length-valid, short, rows_are}
use Rattle.circuit_layout.proofs.look.Statement.{statement}
use Rattle.circuit_layout.proofs.look.Tie as tie

module _ (r : tie.After-count-n) where
  abbrev from : tie.Start
  from = r.before.before.before

  abbrev words : List ℕ
  words = from.args.t.now

  rows : rows_in (length from.args.row.now) r.count-n.result words ≡ circuits_in words
  rows = ap₂ (λ (k n : ℕ). rows_in k n words) from.requires.1 r.count-n.ensures ∙ rows_are words from.requires.0

search-requires : tie.Need-search-r-requires
search-requires c κs =
    let start = from c in
    (rw start.requires.1 (omega (arith, c.count-n.ensures, short (words c) start.requires.0, length-valid (words c) start.requires.0)), subst (λ (l : List (List ℕ)). Rising row_key 0 l) (sym (rows c)) start.requires.0.sound.rising, omega (arith, c.count-n.ensures, short (words c) start.requires.0))

returns : tie.Need-returns
returns c = c.search-r.ensures.0 ∙ ap (λ (l : List (List ℕ)). found_in row_key (row_key (from c.before).args.row.now) l) (rows c.before)

pub look_spec : {M : Type 1} → statement M
look_spec =
    tie.close
    (tie.spec
    (λ c κs. search rules)
    search-requires
    returns)
