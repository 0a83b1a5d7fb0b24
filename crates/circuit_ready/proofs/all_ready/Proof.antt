-- `all_ready` meets its contract: what is told is told by `together`, if at all. Assumes nothing.
use Prim.Native.Nat.{ℕ, ◌+◌, ◌*◌, ◌≤◌, ◌<◌}
use native.Mathlib.Omega.{arith}
use mathlib.Core.Path.{refl}
use mathlib.Core.List.{List}
use lib.ListN.{length}
use borrow.Author.Rules.{rules}
use Rattle.lists.proofs.Bools.{true-false}
use Rattle.keyed.specs.Keyed.{rank}
use Rattle.keyed.proofs.Keyed.{rank-le}
use Rattle.rows.specs.Rows.{row_key, head_key}
use Rattle.circuit_layout.specs.Circuits.{circuits_in}
use Rattle.circuit_layout.proofs.Words.{short}
use Rattle.circuit_ready.specs.Steps.{StartsAt}
use Rattle.circuit_ready.proofs.SideBySide.{tag-starts}
use Rattle.circuit_ready.proofs.all_ready.Statement.{statement}
use Rattle.circuit_ready.proofs.all_ready.Tie as tie

-- where the tag's routes start
module _ (counted : tie.After-count-end) where
  abbrev asked : tie.Else-n-eq0
  asked = counted.before.before

  abbrev from : tie.Start
  from = asked.before.before.before

  abbrev words : List ℕ
  words = from.args.circuits.now

  abbrev place : ℕ
  place = rank row_key (head_key 7 (2 * 4294967296 + from.args.tag)) (circuits_in words)

  few : length (circuits_in words) ≤ 256
  few = short words from.requires.1

  begins : place < length (circuits_in words) → StartsAt words counted.start_of_tag-start.result 2 from.args.tag
  begins l = tag-starts words from.requires.1 (λ j. (asked.shared_slice_known-2-1.given j).fits) 2 from.args.tag _ counted.start_of_tag-start.ensures l

together-requires : tie.Need-together-requires
together-requires c κs =
    let counted = c.before in
    let start = from counted in
    let some : 0 < start.args.n = omega (arith, (asked counted).if-n-eq0.false) in
    let there = counted.start_of_tag-start.ensures in
    let room : place counted + start.args.n ≤ length (circuits_in (words counted)) = omega (arith, c.if-end-start.false, there, counted.count-end.ensures) in
    (start.requires.0, start.requires.1, start.requires.2, some, omega (arith, there), omega (arith, there, room), begins counted (omega (arith, room, some)))

pub all_ready_spec : {M : Type 1} → statement M
all_ready_spec =
    tie.close
    (tie.spec
    (λ c e i l. absurd (omega (arith, c.if-n-eq0.true, l)))
    (λ c κs. search rules)
    (λ c κs. search rules)
    (λ c. omega (arith, c.count-end.ensures, few c))
    (λ c. search rules)
    (λ c. omega (arith, c.start_of_tag-start.ensures, rank-le row_key (head_key 7 (2 * 4294967296 + (from c).args.tag)) (circuits_in (words c)), few c, (from c).requires.2, (from c).requires.0.sound.short))
    (λ c e. absurd (true-false e refl))
    together-requires
    (λ c e. c.together.ensures e))
