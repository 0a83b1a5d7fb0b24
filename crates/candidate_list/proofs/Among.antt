-- The backup among the entries that were loaded: all places in use, and the case of the answer that each return is. Assumes nothing.
use Prim.Native.Nat.{ℕ, ◌^◌, ◌≤◌, ◌<◌}
use native.Mathlib.Omega.{arith}
use mathlib.Core.Path.{◌≡◌, ap, ◌∙◌, sym, subst}
use mathlib.Core.Bool.{true, false}
use mathlib.Core.List.{List}
use lib.ListN.{length, replicate, length-replicate}
use lib.Dec.{eqb}
use borrow.Author.Tests.{ne_eqb}
use Rattle.lists.proofs.Bools.{one_of_two}
use Rattle.layout.specs.Table.{Entry, no_entry}
use Rattle.places.specs.Places.{places, set_of}
use Rattle.places.proofs.Flags.{set_of-lt, picked-places, picked_all}
use Rattle.hrw.specs.Weight.{digest_of}
use Rattle.winner.specs.Winner.{entries_at}
use Rattle.answers.specs.Answers.{by_tag}
use Rattle.backup.specs.Backup.{Backup, refused_backup, backup_by}
use Rattle.candidate_list.specs.Candidates.{backup_under}
use Rattle.candidate_list.proofs.Orders.{backup-digest}

-- ALL PLACES IN USE
module _ (es : List Entry) (short : length es ≤ 64) (n s : ℕ) (z : n ≡ length es) (q : s ≡ set_of (replicate n true)) where
  is_all : s ≡ set_of (replicate (length es) true)
  is_all = q ∙ ap (λ (k : ℕ). set_of (replicate k true)) z

  pub all_under : s < 2 ^ length es
  all_under = rw is_all (subst (λ (k : ℕ). set_of (replicate (length es) true) < 2 ^ k) (length-replicate (length es) true) (set_of-lt (replicate (length es) true)))

  all_there : entries_at es (places s) ≡ es
  all_there = rw is_all (picked-places (replicate (length es) true) es no_entry (sym (length-replicate (length es) true)) (omega (arith, length-replicate (length es) true))) ∙ picked_all es

  -- THE ANSWER where the algorithm is 2 or 3
  pub among-all : (a : ℕ) (i : List ℕ) (r : Backup) → 2 ≤ a → a ≤ 3 → r ≡ backup_by (by_tag a 0 i) (entries_at es (places s)) 0 → r ≡ backup_under false a es
  unfolding backup_under
  among-all a i r l h e =
      let one : eqb a 1 ≡ false = ne_eqb a 1 (λ y. omega (arith, y, l)) in
      rw (one_of_two 2 a l h)
      (e ∙ ap (λ (cs : List Entry). backup_by (by_tag a 0 i) cs 0) all_there ∙ backup-digest a (digest_of 0 i) 0 0 es one)

-- THE REFUSAL
pub among-15 : (a : ℕ) (es : List Entry) → (a ≡ 2 → ⊥) → (a ≡ 3 → ⊥) → refused_backup 15 ≡ backup_under false a es
unfolding backup_under
among-15 a es m n = rw (ne_eqb a 2 m, ne_eqb a 3 n)

-- what `backup_of` refuses, and the set of places that it hands on
pub ruleset refused_or_not = (among-15, all_under)
