-- `is_at` meets its contract: the two parts of the row decide. Assumes nothing.
use Prim.Native.Nat.{ℕ, ◌*◌, ◌/◌}
use native.Mathlib.Omega.{arith}
use mathlib.Core.Path.{◌≡◌, sym, ◌∙◌}
use mathlib.Core.List.{List}
use borrow.Author.Rules.{rules}
use Rattle.rows.proofs.Compared.{Words}
use Rattle.circuit_ready.proofs.Stands.{first-fails, first_holds, head-fits, rest-fits, parts-decide}
use Rattle.circuit_ready.proofs.is_at.Statement.{statement}
use Rattle.circuit_ready.proofs.is_at.Tie as tie

module _ (k : tie.After-head-1) where
  abbrev known : tie.After-shared_slice_known-2-1
  known = k.before

  abbrev from : tie.Start
  from = known.before.before

  abbrev words : List ℕ
  words = from.args.circuits.now

  abbrev address : List ℕ
  address = from.args.address.now

  abbrev place : ℕ
  place = from.args.start / 7

  -- the row starts at its place
  starts : from.args.start ≡ place * 7
  starts = omega (arith, from.requires.2)

  words-table : Words words
  words-table j = (known.shared_slice_known-1.given j).fits

  words-address : Words address
  words-address j = (known.shared_slice_known-2-1.given j).fits

same-at-requires : tie.Need-same_at-requires
same-at-requires c κs = omega (arith, head-fits (words c) (from c).requires.0 (place c) (from c).args.start (starts c) (from c).requires.3)

returns : tie.Need-returns-then-not-same_at
returns c =
    let k = c.before.before in
    let a = (from k).args in
    first-fails _ _ c.same_at.ensures c.if-not-same_at.true
    ∙ sym (parts-decide (words k) (from k).requires.0 (place k) a.start (starts k) (from k).requires.3 a.kind a.tag (address k) (from k).requires.1 (words-table k) (words-address k))

same-at-requires-2 : tie.Need-same_at-requires-2
same-at-requires-2 c κs =
    let k = c.before.before in
    omega (arith, rest-fits (words k) (from k).requires.0 (place k) (from k).args.start (starts k) (from k).requires.3 (address k) (from k).requires.1)

returns-2 : tie.Need-returns
returns-2 c =
    let k = c.before.before.before in
    let a = (from k).args in
    first_holds _ _ c.same_at.ensures c.if-not-same_at.false c.same_at-2.ensures
    ∙ sym (parts-decide (words k) (from k).requires.0 (place k) a.start (starts k) (from k).requires.3 a.kind a.tag (address k) (from k).requires.1 (words-table k) (words-address k))

pub is_at_spec : {M : Type 1} → statement M
is_at_spec =
    tie.close
    (tie.spec
    (λ c. search rules)
    same-at-requires
    returns
    (λ c. let k = c.before.before in omega (arith, head-fits (words k) (from k).requires.0 (place k) (from k).args.start (starts k) (from k).requires.3))
    same-at-requires-2
    returns-2)
