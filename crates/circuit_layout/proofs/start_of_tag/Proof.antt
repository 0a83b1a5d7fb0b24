-- `start_of_tag` meets its contract: the rows of the table are its routes. Assumes nothing.
use Prim.Native.Nat.{ℕ, ◌+◌, ◌*◌, ◌≤◌}
use native.Mathlib.Omega.{arith}
use mathlib.Core.Path.{◌≡◌, ap, ◌∙◌, sym, subst}
use mathlib.Core.List.{List}
use lib.ListN.{length}
use borrow.Author.Rules.{rules}
use Rattle.keyed.specs.Keyed.{Rising, rank}
use Rattle.rows.specs.Rows.{rows_in, row_key, head_key}
use Rattle.circuit_layout.specs.Circuits.{circuits_in}
use Rattle.circuit_layout.proofs.Words.{length-valid, short, rows_are}
use Rattle.circuit_layout.proofs.start_of_tag.Statement.{statement}
use Rattle.circuit_layout.proofs.start_of_tag.Tie as tie

module _ (r : tie.After-count-n) where
  abbrev from : tie.Start
  from = r.before.before

  abbrev words : List ℕ
  words = from.args.t.now

  rows : rows_in 7 r.count-n.result words ≡ circuits_in words
  rows = ap (λ (n : ℕ). rows_in 7 n words) r.count-n.ensures ∙ rows_are words from.requires

  few : r.count-n.result ≤ 256
  few = omega (arith, r.count-n.ensures, short words from.requires)

  fits : r.count-n.result * 7 ≤ length words
  fits = omega (arith, few, length-valid words from.requires)

  rising : Rising row_key 0 (rows_in 7 r.count-n.result words)
  rising = subst (λ (l : List (List ℕ)). Rising row_key 0 l) (sym rows) from.requires.sound.rising

  there : (p : ℕ) → p ≡ rank row_key (head_key 7 (from.args.kind * 4294967296 + from.args.tag)) (rows_in 7 r.count-n.result words) * 7
      → p ≡ rank row_key (head_key 7 (from.args.kind * 4294967296 + from.args.tag)) (circuits_in words) * 7
  there p e = e ∙ ap (λ (l : List (List ℕ)). rank row_key (head_key 7 (from.args.kind * 4294967296 + from.args.tag)) l * 7) rows

pub start_of_tag_spec : {M : Type 1} → statement M
start_of_tag_spec =
    tie.close
    (tie.spec
    (λ c κs. search rules)
    (λ c κs. let r = c.before in (omega arith, omega arith, fits r, rising r, omega (arith, c.if-n-lt-FEW.true), omega arith))
    (λ c. there c.before.before _ c.word_of_head.ensures)
    (λ c κs. let r = c.before in (omega arith, omega arith, fits r, rising r, omega (arith, few r), omega arith))
    (λ c. there c.before.before _ c.word_of_head-2.ensures))
