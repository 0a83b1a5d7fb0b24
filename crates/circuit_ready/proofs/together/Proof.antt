-- `together` meets its contract: each router's two rows have the kind and the tag of the last, and its address. Assumes nothing.
use Prim.Native.Nat.{ℕ, ◌+◌, ◌-◌, ◌*◌, ◌≤◌, ◌<◌}
use native.Mathlib.Omega.{arith}
use mathlib.Core.Path.{◌≡◌, refl, sym, ◌∙◌}
use mathlib.Core.Bool.{true}
use mathlib.Core.Logic.{◌⊎◌, inl, inr}
use lib.ListN.{length, get_or}
use Rattle.lists.proofs.Bools.{true-false}
use Rattle.address.specs.Address.{family_of}
use Rattle.layout.specs.Table.{no_entry}
use Rattle.layout.specs.Words.{table_in, Valid}
use Rattle.circuit_layout.specs.Circuits.{circuits_in}
use Rattle.circuit_layout.proofs.Words.{short, length-valid}
use Rattle.circuit_ready.specs.Routers.{ready_for}
use Rattle.circuit_ready.specs.Steps.{SameWords}
use Rattle.circuit_ready.proofs.SideBySide.{all-stand}
use Rattle.circuit_ready.proofs.together.Statement.{statement}
use Rattle.circuit_ready.proofs.together.Tie as tie

-- the rows that are asked for are in the table
inside : (start : tie.Start) → start.args.start + start.args.n * 7 ≤ 1792
inside start = omega (arith, start.requires.4, start.requires.5, short start.args.circuits.now start.requires.1)

head-fits : (start : tie.Start) (first : ℕ) → first ≤ start.args.start → first + (start.args.n - 1) * 7 + 2 ≤ length start.args.circuits.now
head-fits start first l = omega (arith, inside start, start.requires.3, length-valid start.args.circuits.now start.requires.1)

-- once the kinds and the tags are told
module _ (k : tie.Else-not-head_is-2) where
  abbrev known : tie.After-shared_slice_known-2-1
  known = k.before.before.before.before

  abbrev from : tie.Start
  from = known.before.before

  fits : Valid from.args.t.now × (from.args.n ≤ length (table_in from.args.t.now).entries) × (length from.args.circuits.now ≡ 1793) × (from.args.start + from.args.n * 7 ≤ 1792)
  fits = (from.requires.0, omega (arith, from.requires.2), length-valid from.args.circuits.now from.requires.1, inside from)

  ready : (w : ℕ) → (w ≡ 5) ⊎ ((w ≡ 2) × (family_of (get_or (table_in from.args.t.now).entries (from.args.n - 1) no_entry).address ≡ 4))
      → ((i : ℕ) → i < from.args.n → SameWords w from.args.t.now (i * 5) from.args.circuits.now (i * 7 + 2) × SameWords w from.args.t.now (i * 5) from.args.circuits.now (from.args.start + (i * 7 + 2)))
      → (i : ℕ) → i < from.args.n → ready_for (circuits_in from.args.circuits.now) from.args.tag (get_or (table_in from.args.t.now).entries i no_entry).address ≡ true
  ready w words same =
      all-stand from.args.t.now from.requires.0 (λ j. (known.shared_slice_known-1.given j).fits) from.args.circuits.now from.requires.1 (λ j. (known.shared_slice_known-2-1.given j).fits)
      from.args.n from.args.start from.args.tag from.requires.2 from.requires.3 from.requires.4 from.requires.5 w words
      (k.head_is.ensures (k.if-not-head_is.false)) from.requires.6 (k.head_is-2.ensures (k.if-not-head_is-2.false)) same

returns-3 : tie.Need-returns-then-family_at-eq4
returns-3 c e =
    let told = c.before.before in
    ready told.before 2 (inr (refl, sym told.family_at.ensures ∙ c.if-family_at-eq4.true)) (c.addresses_are.ensures e)

pub together_spec : {M : Type 1} → statement M
together_spec =
    tie.close
    (tie.spec
    (λ c. omega (arith, c.requires.3))
    (λ c. let start = c.before.before in omega (arith, inside start))
    (λ c κs. omega (arith, head-fits c.before.before 0 (omega arith)))
    (λ c e. absurd (true-false e refl))
    (λ c. let start = c.before.before.before.before in omega (arith, inside start))
    (λ c κs. let start = c.before.before.before.before in head-fits start start.args.start (omega arith))
    (λ c e. absurd (true-false e refl))
    (λ c. omega (arith, (from c).requires.3))
    (λ c κs. ((from c).requires.0, omega (arith, (from c).requires.2, (from c).requires.3)))
    (λ c κs. let f = fits c.before.before in (f.0, f.1, f.2, f.3, omega arith))
    returns-3
    (λ c κs. let f = fits c.before.before in (f.0, f.1, f.2, f.3, omega arith))
    (λ c e. ready c.before.before.before 5 (inl refl) (c.addresses_are-2.ensures e)))
