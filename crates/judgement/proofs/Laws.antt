-- What a record is, by its place, its kind and its length. Assumes nothing.
use Prim.Native.Nat.{ℕ, ◌-◌, ◌%◌, ◌≤◌, ◌<◌}
use native.Mathlib.Omega.{arith}
use mathlib.Core.Path.{◌≡◌, ap, ◌∙◌, sym}
use mathlib.Core.Bool.{Bool, true, false, ◌&&◌, and-false, and-eq-true_iff}
use mathlib.Core.List.{List}
use lib.ListN.{length, get_or}
use lib.Dec.{leb, eqb}
use borrow.Author.Tests.{eq-eqb, ne_eqb, eqb-true, le-leb, lt-leb, leb-true}
use Rattle.lists.proofs.Bools.{cond-by}
use Rattle.route.specs.Route.{total_of}
use Rattle.route.proofs.Laws.{total-least, total-most}
use Rattle.payloads.specs.Payloads.{size_of}
use Rattle.judgement.specs.Judgement.{announcement_of, withdrawal_of, query_of, first_of, later_of, judged_of}
use Rattle.judgement.specs.declared.Judged.{Judged}
use Rattle.judgement.specs.declared.Judged.TheVariants.{Text, Announcement, Withdrawal, Query, Bad}

-- ---- what a record is

-- what its payload then has
abbrev pub Fits : Judged → List ℕ → Type 0
Fits Text p = Unit
Fits Announcement p = total_of (get_or p 20 0) ≤ length p
Fits (Withdrawal v) p = length p ≡ size_of v
Fits (Query v) p = 4 ≤ length p
Fits Bad p = Unit

announcement-fits : (p : List ℕ) → Fits (announcement_of p) p
unfolding announcement_of
announcement-fits p = cond-by (λ (j : Judged). Fits j p) (leb (total_of (get_or p 20 0)) (length p)) (λ e. leb-true _ _ e) (λ _. tt)

withdrawal-fits : (v : Bool) (p : List ℕ) → Fits (withdrawal_of v p) p
unfolding withdrawal_of
withdrawal-fits v p = cond-by (λ (j : Judged). Fits j p) (eqb (length p) (size_of v)) (λ e. eqb-true _ _ e) (λ _. tt)

query-fits : (v : Bool) (p : List ℕ) → Fits (query_of v p) p
unfolding query_of
query-fits v p =
    cond-by (λ (j : Judged). Fits j p) (leb 4 (length p) && eqb ((length p - 4) % size_of v) 0)
    (λ e. leb-true _ _ ((and-eq-true_iff (leb 4 (length p)) (eqb ((length p - 4) % size_of v) 0)).0 e).0) (λ _. tt)

later-fits : (k : ℕ) (p : List ℕ) → Fits (later_of k p) p
unfolding later_of
later-fits k p =
    let P : Judged → Type 0 = λ j. Fits j p in
    cond-by P (eqb k 1) (λ _. announcement-fits p) (λ _.
    cond-by P (eqb k 2) (λ _. withdrawal-fits false p) (λ _.
    cond-by P (eqb k 3) (λ _. query-fits false p) (λ _.
    cond-by P (eqb k 4) (λ _. withdrawal-fits true p) (λ _.
    cond-by P (eqb k 5) (λ _. query-fits true p) (λ _. tt)))))

pub judged-fits : (f : Bool) (k : ℕ) (p : List ℕ) → Fits (judged_of f k p) p
unfolding judged_of first_of
judged-fits f k p =
    let P : Judged → Type 0 = λ j. Fits j p in
    cond-by P f (λ _. cond-by P (eqb k 0) (λ _. tt) (λ _. tt)) (λ _. later-fits k p)

-- only an announcement is of kind 1
abbrev pub Named : Judged → ℕ → Type 0
Named Text k = eqb k 1 ≡ false
Named Announcement k = eqb k 1 ≡ true
Named (Withdrawal v) k = eqb k 1 ≡ false
Named (Query v) k = eqb k 1 ≡ false
Named Bad k = Unit

module _ (k : ℕ) (p : List ℕ) where
  announcement-named : eqb k 1 ≡ true → Named (announcement_of p) k
  unfolding announcement_of
  announcement-named e = cond-by (λ (j : Judged). Named j k) (leb (total_of (get_or p 20 0)) (length p)) (λ _. e) (λ _. tt)

  withdrawal-named : (v : Bool) → eqb k 1 ≡ false → Named (withdrawal_of v p) k
  unfolding withdrawal_of
  withdrawal-named v e = cond-by (λ (j : Judged). Named j k) (eqb (length p) (size_of v)) (λ _. e) (λ _. tt)

  query-named : (v : Bool) → eqb k 1 ≡ false → Named (query_of v p) k
  unfolding query_of
  query-named v e = cond-by (λ (j : Judged). Named j k) (leb 4 (length p) && eqb ((length p - 4) % size_of v) 0) (λ _. e) (λ _. tt)

  pub judged-named : (f : Bool) → Named (judged_of f k p) k
  unfolding judged_of first_of later_of
  judged-named f =
      let P : Judged → Type 0 = λ j. Named j k in
      cond-by P f (λ _. cond-by P (eqb k 0) (λ e. ne_eqb k 1 (λ z. omega (arith, z, eqb-true k 0 e))) (λ _. tt)) (λ _.
      cond-by P (eqb k 1) announcement-named (λ e.
      cond-by P (eqb k 2) (λ _. withdrawal-named false e) (λ _.
      cond-by P (eqb k 3) (λ _. query-named false e) (λ _.
      cond-by P (eqb k 4) (λ _. withdrawal-named true e) (λ _.
      cond-by P (eqb k 5) (λ _. query-named true e) (λ _. tt))))))

-- ---- how the code finds it

module _ (p : List ℕ) where
  pub announcement-short : length p < 25 → Bad ≡ announcement_of p
  unfolding announcement_of
  announcement-short h = rw (lt-leb (total_of (get_or p 20 0)) (length p) (omega (arith, total-least (get_or p 20 0))))

  pub announcement-long : 37 ≤ length p → Announcement ≡ announcement_of p
  unfolding announcement_of
  announcement-long h = rw (le-leb (total_of (get_or p 20 0)) (length p) (omega (arith, total-most (get_or p 20 0))))

  pub announcement-six : length p < 37 → get_or p 20 0 ≡ 128 → Bad ≡ announcement_of p
  unfolding announcement_of total_of
  announcement-six h e = rw (e, lt-leb 37 (length p) h)

  pub announcement-four : 25 ≤ length p → (get_or p 20 0 ≡ 128 → ⊥) → Announcement ≡ announcement_of p
  unfolding announcement_of total_of
  announcement-four h n = rw (ne_eqb (get_or p 20 0) 128 n, le-leb 25 (length p) h)

  module _ (v : Bool) (n : ℕ) (e : n ≡ size_of v) where
    pub withdrawal-bad : (length p ≡ n → ⊥) → Bad ≡ withdrawal_of v p
    unfolding withdrawal_of
    withdrawal-bad h = rw (ne_eqb (length p) (size_of v) (λ z. h (z ∙ sym e)))

    pub withdrawal-right : length p ≡ n → Withdrawal v ≡ withdrawal_of v p
    unfolding withdrawal_of
    withdrawal-right h = rw (eq-eqb (length p) (size_of v) (h ∙ e))

    pub query-odd : ((length p - 4) % n ≡ 0 → ⊥) → Bad ≡ query_of v p
    unfolding query_of
    query-odd h = rw (ne_eqb ((length p - 4) % size_of v) 0 (λ z. h (ap (λ (x : ℕ). (length p - 4) % x) e ∙ z)), and-false (leb 4 (length p)))

    pub query-right : 4 ≤ length p → (length p - 4) % n ≡ 0 → Query v ≡ query_of v p
    unfolding query_of
    query-right h m = rw (le-leb 4 (length p) h, eq-eqb ((length p - 4) % size_of v) 0 (sym (ap (λ (x : ℕ). (length p - 4) % x) e) ∙ m))

  pub query-short : (v : Bool) → length p < 4 → Bad ≡ query_of v p
  unfolding query_of
  query-short v h = rw (lt-leb 4 (length p) h)

module _ (k : ℕ) (p : List ℕ) where
  pub later-1 : k ≡ 1 → announcement_of p ≡ later_of k p
  unfolding later_of
  later-1 e = rw e

  pub later-2 : k ≡ 2 → withdrawal_of false p ≡ later_of k p
  unfolding later_of
  later-2 e = rw e

  pub later-3 : k ≡ 3 → query_of false p ≡ later_of k p
  unfolding later_of
  later-3 e = rw e

  pub later-4 : k ≡ 4 → withdrawal_of true p ≡ later_of k p
  unfolding later_of
  later-4 e = rw e

  pub later-5 : k ≡ 5 → query_of true p ≡ later_of k p
  unfolding later_of
  later-5 e = rw e

  pub later-none : (k ≡ 1 → ⊥) → (k ≡ 2 → ⊥) → (k ≡ 3 → ⊥) → (k ≡ 4 → ⊥) → (k ≡ 5 → ⊥) → Bad ≡ later_of k p
  unfolding later_of
  later-none a b c d e = rw (ne_eqb k 1 a, ne_eqb k 2 b, ne_eqb k 3 c, ne_eqb k 4 d, ne_eqb k 5 e)
