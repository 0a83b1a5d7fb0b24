-- The election where all routes are on algorithm 2 or 3, the same, with AC-DF clear: every one of them is a candidate, and the best under 2 or 3 is named, by the range of the tag where it is
-- in one, and else by the algorithm that all are on. Assumes nothing.
use Prim.Native.Nat.{ℕ, ◌≤◌, ◌<◌}
use native.Mathlib.Omega.{arith}
use mathlib.Core.Path.{◌≡◌, refl, ap, ◌∙◌}
use mathlib.Core.Bool.{Bool, true, false, not, ◌||◌, and-false}
use mathlib.Core.List.{List, [], ◌∷◌}
use mathlib.Core.Logic.{◌⊎◌, inl, inr, ⊎_elim}
use lib.ListN.{length}
use lib.Dec.{eqb}
use borrow.Author.Tests.{not-true, not-false, eq-eqb, ne_eqb, eqb-true, le-ltb}
use Rattle.lists.specs.Lists.{all, Every}
use Rattle.lists.proofs.Bools.{by-test}
use Rattle.lists.proofs.Lists.{empty}
use Rattle.layout.specs.Table.{Entry, no_entry}
use Rattle.places.specs.Places.{picked}
use Rattle.choice.specs.Choice.{best_in}
use Rattle.hrw.specs.Weight.{digest_of}
use Rattle.ranges.specs.Ranges.{algorithm_in}
use Rattle.ranges.proofs.Laws.{both, algorithm-none, algorithm-named}
use Rattle.settings.specs.Settings.{Settings, any_range, SettingsRight}
use Rattle.settings.proofs.Laws.{in-range-bounds, may-be-set-parts}
use Rattle.agreement.specs.Agreement.{all_carry, in_use_with}
use Rattle.agreement.specs.declared.InUse.{InUse}
use Rattle.agreement.proofs.Laws.{usable-low}
use Rattle.ready.specs.Ready.{eligible, candidates, candidate_set}
use Rattle.winner.specs.Winner.{elected}
use Rattle.winner.proofs.Orders.{better-any}
use Rattle.answers.specs.Answers.{Answer, named_answer, Method, by_tag, answer_by}
use Rattle.election.specs.Queries.{Query, plain, by_source_group, by_any_source, number_for, agreed_on, plain_algorithm, method_for, method_of, candidates_of}
use Rattle.returning.specs.Returning.{all_under, reference}

pub two-or-three : (g : ℕ) → (eqb g 2 || eqb g 3) ≡ true → (g ≡ 2) ⊎ (g ≡ 3)
two-or-three g h = by-test (eqb g 2) (λ e. inl (eqb-true g 2 e)) (λ e. let k : eqb g 3 ≡ true = rw e at h in inr (eqb-true g 3 k))

-- ROUTES ON THE ALGORITHM g with AC-DF clear
abbrev pub Plain : ℕ → Entry → Type 0
Plain g e = (e.algorithm ≡ g) × (e.ac_df ≡ false)

pub plain-all : (g : ℕ) (l : List Entry) → all_under g l ≡ true → all (λ (e : Entry). not e.ac_df) l ≡ true → Every (Plain g) l
unfolding all_under all Every
plain-all g [] h k = tt
plain-all g (e ∷ l) h k =
    let a = both (eqb e.algorithm g) (all_under g l) h in
    let b = both (not e.ac_df) (all (λ (x : Entry). not x.ac_df) l) k in
    ((eqb-true e.algorithm g a.0, not-true e.ac_df b.0), plain-all g l a.1 b.1)

carry : (g : ℕ) (l : List Entry) → Every (Plain g) l → all_carry g false l ≡ true
unfolding all_carry all Every
carry g [] h = refl
carry g (e ∷ l) h = rw (h.0.0, h.0.1, eq-eqb g g refl) (carry g l h.1)

in_use : (s : Settings) (g : ℕ) → g < 4 → (l : List Entry) → (length l ≡ 0 → ⊥) → Every (Plain g) l → in_use_with s l ≡ record { algorithm = g; ac_df = false }
unfolding in_use_with Every
in_use s g k [] n h = absurd (n refl)
in_use s g k (e ∷ l) n h = rw (h.0.0, h.0.1, carry g l h.1, ← usable-low s g k)

-- with AC-DF clear all are candidates
candidates-all : (ready : List (List ℕ)) (l : List Entry) → candidates false ready l ≡ l
unfolding candidates eligible picked
candidates-all ready [] = refl
candidates-all ready (e ∷ l) = ap (e ∷◌) (candidates-all ready l)

-- THE METHOD: the numbers that are set are above 3
module _ (s : Settings) (v : SettingsRight s) where
  none-or-high : (q : Query) → (number_for s q ≡ 0) ⊎ (3 < number_for s q)
  unfolding number_for
  none-or-high plain = inl refl
  none-or-high (by_source_group x y) =
      ⊎_elim (λ z. inl z.0) (λ m. inr (in-range-bounds s.by_source_group (may-be-set-parts s.by_source_group s.by_any_source m).0).0) v.numbers
  none-or-high (by_any_source y) =
      ⊎_elim (λ z. inl z.1) (λ m. inr (in-range-bounds s.by_any_source (may-be-set-parts s.by_source_group s.by_any_source m).1).0) v.numbers

  module _ (g : ℕ) (low : 2 ≤ g) (high : g ≤ 3) where
    not-agreed : (q : Query) → agreed_on g (number_for s q) ≡ false
    unfolding agreed_on
    not-agreed q =
        let d : g ≡ number_for s q → ⊥ = λ e. ⊎_elim (λ z. omega (arith, e, z)) (λ h. omega (arith, e, h)) (none-or-high q) in
        rw (ne_eqb g (number_for s q) d) (and-false (not (eqb (number_for s q) 0)))

    -- the algorithm for a tag
    abbrev pub ruling : ℕ → ℕ
    ruling tag = algorithm_in s.ranges tag g

    by-ruling : (q : Query) (tag : ℕ) (i : List ℕ) → method_for s q g tag i ≡ by_tag (ruling tag) tag i
    unfolding method_for plain_algorithm
    by-ruling q tag i = rw (not-agreed q, le-ltb g 2 low, le-ltb 3 g high)

    pub ruling-two-three : (g ≡ 2) ⊎ (g ≡ 3) → (tag : ℕ) → (ruling tag ≡ 2) ⊎ (ruling tag ≡ 3)
    ruling-two-three k tag =
        ⊎_elim (λ e. ⊎_elim (λ f. inl (e ∙ f)) (λ f. inr (e ∙ f)) k) (λ n. n) (algorithm-named s.ranges tag g v.ranges)

    pub ruling-own : any_range s ≡ false → (tag : ℕ) → ruling tag ≡ g
    unfolding any_range
    ruling-own n tag =
        let none : s.ranges ≡ [] = empty s.ranges (eqb-true (length s.ranges) 0 (not-false _ n)) in
        rw none (algorithm-none tag g)

    -- WHO IS NAMED among routes that are on g
    module _ (q : Query) (tag : ℕ) (i : List ℕ) (ready : List (List ℕ)) (l : List Entry) (some : length l ≡ 0 → ⊥) (h : Every (Plain g) l) where
      abbrev pub answer_in : Answer
      answer_in = answer_by (method_of s q i l tag) (candidates_of s l ready) (candidate_set (in_use_with s l).ac_df ready l) tag

      abbrev d : ℕ
      d = digest_of tag i

      best_of : (k : ℕ) → (k ≡ 2) ⊎ (k ≡ 3) → elected k tag d l ≡ reference k l
      unfolding elected
      best_of k o =
          let z : k ≡ 0 → ⊥ = λ e. ⊎_elim (λ f. omega (arith, e, f)) (λ f. omega (arith, e, f)) o in
          let n : k ≡ 1 → ⊥ = λ e. ⊎_elim (λ f. omega (arith, e, f)) (λ f. omega (arith, e, f)) o in
          rw (ne_eqb k 0 z) (ap (λ (B : Entry → Entry → Bool). best_in B no_entry l) (better-any k d 0 (ne_eqb k 1 n)))

      abbrev pub named : Answer
      named = named_answer (reference (ruling tag) l).address (ruling tag) (length l) (candidate_set false ready l)

      pub names-best : (g ≡ 2) ⊎ (g ≡ 3) → answer_in ≡ named
      unfolding answer_by
      names-best k =
          ap (λ (u : InUse). answer_by (method_for s q u.algorithm tag i) (candidates u.ac_df ready l) (candidate_set u.ac_df ready l) tag) (in_use s g (omega arith) l some h)
          ∙ ap (λ (m : Method). answer_by m (candidates false ready l) (candidate_set false ready l) tag) (by-ruling q tag i)
          ∙ ap (λ (cs : List Entry). answer_by (by_tag (ruling tag) tag i) cs (candidate_set false ready l) tag) (candidates-all ready l)
          ∙ rw (ne_eqb (length l) 0 some, best_of (ruling tag) (ruling-two-three k tag))
