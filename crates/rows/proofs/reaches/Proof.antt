-- `reaches` meets its contract: the last of those rows tells. Assumes nothing.
use Prim.Native.Nat.{ℕ, ◌+◌, ◌-◌, ◌*◌, ◌/◌, ◌≤◌, ◌<◌}
use native.Mathlib.Omega.{arith}
use mathlib.Core.Path.{◌≡◌, refl, ap, ◌∙◌}
use lib.ListN.{length, get_or}
use borrow.Author.Tests.{ltb-true, ltb-false}
use Rattle.lists.proofs.Bools.{true-false}
use Rattle.keyed.proofs.Keyed.{rank-le}
use Rattle.rows.specs.Rows.{rows_in, row_key, head_key}
use Rattle.rows.proofs.Compared.{Words}
use Rattle.rows.proofs.Rows.{rows-length}
use Rattle.rows.proofs.Heads.{passed, not-passed, whole-rows, rows-over, rows-within, row_before}
use Rattle.rows.proofs.reaches.Statement.{statement}
use Rattle.rows.proofs.reaches.Tie as tie

returns : tie.Need-returns-then-end-next
returns c =
    let start = c.before.before in
    let a = start.args in
    let over = rows-over a.k a.next start.requires.4 a.n start.requires.0 (omega (arith, c.if-end-next.true, start.requires.1)) in
    (λ e. absurd (true-false e refl), λ e. omega (arith, over, rank-le row_key (head_key a.k a.head) (rows_in a.k a.n a.s.now), rows-length a.k a.n a.s.now))

-- the last of the rows
module _ (c : tie.Else-end-next) where
  abbrev from : tie.Start
  from = c.before.before

  abbrev place : ℕ
  place = from.args.next / from.args.k - 1

  within : from.args.next / from.args.k ≤ from.args.n
  within = rows-within from.args.k from.args.next from.requires.4 from.args.n from.requires.0 (omega (arith, c.if-end-next.false, from.requires.1))

  last : place < from.args.n
  last = omega (arith, within, from.requires.5)

  there : from.args.next - from.args.k ≡ place * from.args.k
  there = row_before from.args.k from.args.next from.requires.4 from.requires.0 from.requires.5

  whole : from.args.k ≤ from.args.next
  whole = whole-rows from.args.k from.args.next from.requires.4 from.requires.5

returns-2 : tie.Need-returns
returns-2 c =
    let else = c.before in
    let f = from else in
    let words : Words f.args.s.now = λ j. (else.shared_slice_known-1.given j).fits in
    let told = c.head_at.ensures ∙ ap (λ (j : ℕ). get_or f.args.s.now j 0 * 4294967296 + get_or f.args.s.now (j + 1) 0) (there else) in
    let fits : f.args.n * f.args.k ≤ length f.args.s.now = omega (arith, f.requires.1, f.requires.2) in (
      λ e. omega (arith, f.requires.5, passed f.args.k f.args.n f.args.head f.args.s.now f.requires.0 fits words (place else) (last else) f.requires.3 (omega (arith, told, ltb-true c.head_at.result f.args.head e))),
      λ e. omega (arith, f.requires.5, not-passed f.args.k f.args.n f.args.head f.args.s.now f.requires.0 fits words (place else) (last else) (omega (arith, told, ltb-false c.head_at.result f.args.head e))),
    )

pub reaches_spec : {M : Type 1} → statement M
reaches_spec =
    tie.close
    (tie.spec
    returns
    (λ c. omega (arith, whole c))
    (λ c κs. omega (arith, whole c, c.if-end-next.false, (from c).requires.0, (from c).requires.2))
    returns-2)
