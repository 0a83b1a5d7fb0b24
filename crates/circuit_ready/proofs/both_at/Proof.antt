-- `both_at` meets its contract: where the later of the two places is in use, so is the other. Assumes nothing.
use Prim.Native.Nat.{◌/◌, ◌<◌}
use native.Mathlib.Omega.{arith}
use mathlib.Core.Path.{◌≡◌, sym}
use mathlib.Core.Bool.{Bool, false, ◌&&◌, and-false}
use lib.ListN.{length}
use borrow.Author.Rules.{rules}
use Rattle.circuit_layout.specs.Circuits.{circuits_in, per_segment, per_instance}
use Rattle.circuit_layout.proofs.Words.{short}
use Rattle.circuit_ready.specs.Routers.{stands_at}
use Rattle.circuit_ready.proofs.Stands.{first-fails, first_holds, past-last}
use Rattle.circuit_ready.proofs.both_at.Statement.{statement}
use Rattle.circuit_ready.proofs.both_at.Tie as tie

-- a second test that fails
second-fails : (a b : Bool) → false ≡ b → false ≡ (a && b)
second-fails a b e = rw (sym e) (sym (and-false a))

returns : tie.Need-returns-then-end-instance
returns c =
    let start = c.before.before.before.before in
    let a = start.args in
    second-fails (stands_at (circuits_in a.circuits.now) (a.segment / 7) (per_segment a.address.now)) _ (past-last a.circuits.now start.requires.0 (a.instance / 7) (per_instance a.tag a.address.now) (omega (arith, c.count-end.ensures, c.if-end-instance.true, start.requires.3)))

-- the later place is in use
module _ (k : tie.Else-end-instance) where
  abbrev from : tie.Start
  from = k.before.before.before.before

  used : from.args.instance / 7 < length (circuits_in from.args.circuits.now)
  used = omega (arith, k.count-end.ensures, k.if-end-instance.false, from.requires.3)

is-at-requires : tie.Need-is_at-requires
is-at-requires c κs = ((from c).requires.0, (from c).requires.1, (from c).requires.2, omega (arith, used c, (from c).requires.4))

returns-2 : tie.Need-returns-then-not-is_at
returns-2 c = first-fails _ _ c.is_at.ensures c.if-not-is_at.true

is-at-requires-2 : tie.Need-is_at-requires-2
is-at-requires-2 c κs = let k = c.before.before in ((from k).requires.0, (from k).requires.1, (from k).requires.3, used k)

returns-3 : tie.Need-returns
returns-3 c = first_holds _ _ c.is_at.ensures c.if-not-is_at.false c.is_at-2.ensures

pub both_at_spec : {M : Type 1} → statement M
both_at_spec =
    tie.close
    (tie.spec
    (λ c κs. search rules)
    (λ c. let start = c.before.before.before in omega (arith, c.count-end.ensures, short start.args.circuits.now start.requires.0))
    returns
    is-at-requires
    returns-2
    is-at-requires-2
    returns-3)
