-- Laws of `specs/Checks.antt`: a chain refuses by the first test that holds, and it answers 0 exactly if none does. Assumes nothing.
use Prim.Native.Nat.{ℕ, zero, suc}
use mathlib.Core.Path.{◌≡◌, refl}
use mathlib.Core.Bool.{Bool, true, false, cond, not, ◌||◌, ◌&&◌, false≢true, or-not_self}
use mathlib.Core.List.{List, [], ◌∷◌, ◌++◌}
use lib.ListN.{get_or, take, drop}
use lib.Dec.{eqb}
use borrow.Author.Tests.{eqb-false}
use Rattle.lists.proofs.Bools.{cond-by}
use Rattle.lists.specs.Checks.{Check, first_refusal}

-- no test of the checks holds: one fact to a check, in their order
abbrev pub Passed : List Check → Type 0
Passed [] = Unit {0}
Passed (c ∷ cs) = (c.0 ≡ false) × Passed cs

-- a check that holds refuses with a number that is not 0
abbrev pub telling : List Check → Bool
telling [] = true
telling (c ∷ cs) = (not (eqb c.1 0) || not c.0) && telling cs

-- what is passed does not count
pub passed_on : (i : ℕ) (cs : List Check) → Passed (take i cs) → first_refusal (drop i cs) ≡ first_refusal cs
unfolding first_refusal
passed_on zero cs p = refl
passed_on (suc i) [] p = refl
passed_on (suc i) (c ∷ cs) p = rw p.0 (passed_on i cs p.1)

-- the check at place i refuses, where it holds and those before it do not
pub refused-at : (i : ℕ) (cs : List Check) → Passed (take i cs) → (get_or cs i (false, 0)).0 ≡ true → (get_or cs i (false, 0)).1 ≡ first_refusal cs
unfolding first_refusal
refused-at i [] p h = refl
refused-at zero (c ∷ cs) p h = rw h
refused-at (suc i) (c ∷ cs) p h = rw p.0 (refused-at i cs p.1 h)

-- none refuses
pub refused_none : (cs : List Check) → Passed cs → 0 ≡ first_refusal cs
unfolding first_refusal
refused_none [] p = refl
refused_none (c ∷ cs) p = rw p.0 (refused_none cs p.1)

-- what is refused by the first checks is refused, whatever the others say
pub refused-first : (cs ds : List Check) → (first_refusal cs ≡ 0 → ⊥) → first_refusal cs ≡ first_refusal (cs ++ ds)
unfolding first_refusal
refused-first [] ds n = absurd (n refl)
refused-first (c ∷ cs) ds n = go c.0 (refused-first cs ds) n
  where
    go : (b : Bool) → ((first_refusal cs ≡ 0 → ⊥) → first_refusal cs ≡ first_refusal (cs ++ ds)) → (cond b c.1 (first_refusal cs) ≡ 0 → ⊥) → cond b c.1 (first_refusal cs) ≡ cond b c.1 (first_refusal (cs ++ ds))
    go true ih m = refl
    go false ih m = ih m

-- and back: where the answer is 0, no test holds
pub passed : (cs : List Check) → telling cs ≡ true → first_refusal cs ≡ 0 → Passed cs
unfolding first_refusal
passed [] t h = tt
passed (c ∷ cs) t h = go c.0 (eqb c.1 0) refl (passed cs) t h
  where
    go : (b e : Bool) → eqb c.1 0 ≡ e → (telling cs ≡ true → first_refusal cs ≡ 0 → Passed cs) → ((not e || not b) && telling cs) ≡ true → cond b c.1 (first_refusal cs) ≡ 0 → (b ≡ false) × Passed cs
    go false true q ih t h = (refl, ih t h)
    go false false q ih t h = (refl, ih t h)
    go true true q ih t h = absurd (false≢true t)
    go true false q ih t h = absurd (eqb-false c.1 0 q h)

-- a number that is passed on unless it is 0 is telling
pub telling-own : (n : ℕ) → ((not (eqb n 0) || not (not (eqb n 0))) && true) ≡ true
telling-own n = rw (or-not_self (not (eqb n 0)))

-- what is shown of the number of each check that refuses, and of 0, is so of the answer
module _ (P : ℕ → Type 0) where
  abbrev pub Each : List Check → Type 0
  Each [] = P 0
  Each (c ∷ cs) = (c.0 ≡ true → P c.1) × Each cs

  pub each : (cs : List Check) → Each cs → P (first_refusal cs)
  unfolding first_refusal
  each [] f = f
  each (c ∷ cs) f = cond-by P c.0 f.0 (λ h. each cs f.1)
