-- A walk over the runs of a set of places finds what a walk over its places finds. Assumes nothing.
use Prim.Native.Nat.{ℕ, suc, ◌+◌, ◌-◌, ◌%◌, ◌^◌, ◌≤◌, ◌<◌}
use native.Mathlib.Nat.{not-suc-le-zero}
use native.Mathlib.Omega.{arith}
use mathlib.Core.Path.{◌≡◌, refl, ap, ◌∙◌, sym}
use mathlib.Core.Bool.{Bool, cond}
use mathlib.Core.List.{List, [], ◌∷◌, ◌++◌, map}
use mathlib.Core.Logic.{◌⊎◌, inl, inr}
use lib.ListN.{length, get_or, drop}
use borrow.Author.Tests.{lt-ltb, le-ltb}
use Rattle.lists.specs.Lists.{Every}
use Rattle.lists.proofs.Numbers.{either}
use Rattle.rows.proofs.Compared.{Words}
use Rattle.keyed.specs.Keyed.{Rising}
use Rattle.layout.specs.Table.{Entry, entry_key, no_entry}
use Rattle.layout.specs.Words.{table_in, Valid}
use Rattle.layout.proofs.Words.{Narrow}
use Rattle.layout.proofs.Addresses.{families-rise}
use Rattle.places.specs.Places.{places, lowest_run, stretch}
use Rattle.places.proofs.Laws.{Rises, places-walk, places-under, places-none}
use Rattle.place_runs.proofs.Runs.{run-under, stretch-over}
use Rattle.choice.specs.Choice.{best, best_in, higher}
use Rattle.choice.proofs.Laws.{best_none, best-wins, best-stays, best_in-cons}
use Rattle.winner.specs.Winner.{entries_at}
use Rattle.winner.specs.Steps.{score_of, ending_at, Along, Toward, FamilyAt, rank_of, top_rank}
use Rattle.winner.proofs.Laws.{BestAt, fits, some-places, first-there, least-begins, least-six, least-ends, best-scored}

-- the best of places in two parts, and of none
best-parts : {A : Type 0} (B : A → A → Bool) (f : ℕ → A) (x : A) (ps qs : List ℕ) → best B x (map f (ps ++ qs)) ≡ best B (best B x (map f ps)) (map f qs)
unfolding best
best-parts B f x [] qs = refl
best-parts B f x (p ∷ ps) qs = best-parts B f (cond (B (f p) x) (f p) x) ps qs

best-over : {A : Type 0} (B : A → A → Bool) (f : ℕ → A) (x : A) {ps : List ℕ} → ps ≡ [] → x ≡ best B x (map f ps)
best-over B f x e = sym (ap (λ (l : List ℕ). best B x (map f l)) e ∙ best_none B x)

-- what is above c is above a lower number
rises-from : (a c b : ℕ) (l : List ℕ) → a ≤ c → Rises c b l → Rises a b l
rises-from a c b [] h r = tt
rises-from a c b (x ∷ l) h r = (omega (arith, r.0), r.1, r.2)

-- BY RANK: the greatest rank, after a place, at the end, and after a run
module _ (S : Entry → ℕ) (es : List Entry) where
  pub rank-on : (t p : ℕ) {r q : ℕ} (ps : List ℕ) → r ≡ rank_of S es p → ((t < r) × (q ≡ r)) ⊎ ((r ≤ t) × (q ≡ t)) → top_rank S es q ps ≡ top_rank S es t (p ∷ ps)
  rank-on t p ps e (inl c) = ap (λ (x : ℕ). top_rank S es x ps) (c.1 ∙ e) ∙ sym (best-wins (higher (λ (n : ℕ). n)) _ _ _ (lt-ltb t (rank_of S es p) (omega (arith, c.0, e))))
  rank-on t p ps e (inr c) = ap (λ (x : ℕ). top_rank S es x ps) c.1 ∙ sym (best-stays (higher (λ (n : ℕ). n)) _ _ _ (le-ltb t (rank_of S es p) (omega (arith, c.0, e))))

  pub rank-over : (t : ℕ) {l : List ℕ} → l ≡ [] → t ≡ top_rank S es t l
  rank-over t = best-over (higher (λ (n : ℕ). n)) (λ (i : ℕ). rank_of S es i) t

  pub rank-run : (t : ℕ) {q : ℕ} {l : List ℕ} (run m : List ℕ) → l ≡ run ++ m → q ≡ top_rank S es t run → top_rank S es q m ≡ top_rank S es t l
  rank-run t run m e h = ap (λ (x : ℕ). top_rank S es x m) h ∙ sym (best-parts (higher (λ (n : ℕ). n)) (λ (i : ℕ). rank_of S es i) t run m) ∙ ap (λ (l : List ℕ). top_rank S es t l) (sym e)

  -- a rank tells its place, and so the entry x at it
  abbrev Tells : ℕ → Entry → Type 0
  Tells r x = (63 - r % 64 < length es) × (get_or es (63 - r % 64) no_entry ≡ x)

  rank-back : (i : ℕ) → i < 64 → 63 - rank_of S es i % 64 ≡ i
  rank-back i h = omega arith

  module _ (short : length es ≤ 64) where
    -- of a place and places above it, the greatest rank is that of the best by score
    rank-ends : (at : ℕ) (ps : List ℕ) → at < length es → Rises (suc at) (length es) ps → Tells (top_rank S es (rank_of S es at) ps) (ending_at S es at ps)
    rank-ends at [] h r =
        rw (best_none (higher (λ (n : ℕ). n)) (rank_of S es at), best_none (higher S) (get_or es at no_entry), rank-back at (omega arith)) (h, refl)
    rank-ends at (p ∷ ps) h r =
        let x = get_or es at no_entry in
        let y = get_or es p no_entry in
        let t = rank_of S es at in
        either (S x) (S y)
        (λ l. rw (← rank-on t p ps refl (inl (omega (arith, r.0, r.1), refl)), best-wins (higher S) x y (entries_at es ps) (lt-ltb (S x) (S y) l)) (rank-ends p ps r.1 r.2))
        (λ l. rw (← rank-on t p ps refl (inr (omega (arith, r.0, r.1), refl)), best-stays (higher S) x y (entries_at es ps) (le-ltb (S x) (S y) l)) (rank-ends at ps h (rises-from (suc at) (suc p) (length es) ps (omega (arith, r.0)) r.2)))

    -- so it is of places that rise
    rank-best : (ps : List ℕ) → 0 < length ps → Rises 0 (length es) ps → Tells (top_rank S es 0 ps) (best_in (higher S) no_entry (entries_at es ps))
    rank-best [] n r = absurd (not-suc-le-zero n)
    rank-best (p ∷ ps) n r =
        let first : top_rank S es (rank_of S es p) ps ≡ top_rank S es 0 (p ∷ ps) = either 0 (rank_of S es p) (λ l. rank-on 0 p ps refl (inl (l, refl))) (λ l. rank-on 0 p ps refl (inr (l, omega arith))) in
        rw (← first, best_in-cons (higher S) no_entry (get_or es p no_entry) (entries_at es ps)) (rank-ends p ps r.1 r.2)

-- where no place is left
module _ (es : List Entry) (short : length es ≤ 64) (rising : Rising entry_key 1 es) (narrow : Every Narrow es) (a : ℕ) (s : ℕ) (within : s < 2 ^ length es) where
  pub ranks-end : (top : ℕ) {left : ℕ} → (s ≡ 0 → ⊥) → top_rank (score_of a 0) es top (places left) ≡ top_rank (score_of a 0) es 0 (places s) → left ≡ 0 → BestAt es a 0 s (63 - top % 64)
  ranks-end top n w z =
      let S = score_of a 0 in
      let ps = places s in
      let r = places-under s (length es) within in
      let t : top_rank S es 0 ps ≡ top = sym w ∙ sym (rank-over S es top (ap places z ∙ places-none)) in
      let b : Tells S es top (best_in (higher S) no_entry (entries_at es ps)) = rw t at (rank-best S es short ps (some-places es short s within n) r) in
      (b.0, b.1 ∙ best-scored es short rising narrow a 0 ps r)

-- THE LOWEST RUN of a set of places in use, from f to before e, is in use
pub run-there : (es : List Entry) → length es ≤ 64 → {s f e : ℕ} → s < 2 ^ length es → (s ≡ 0 → ⊥) → f ≡ get_or (places s) 0 64 → e ≡ get_or (places s) 0 64 + lowest_run (places s) → e ≤ length es
run-there es short {s} {f} {e} within n p q =
    run-under (length es) (places s) f e p q (omega (arith, first-there es short within n p)) (places-under s (length es) within)

-- BY WEIGHT, or any score
module _ (S : Entry → ℕ) (es : List Entry) where
  -- the walk begins at the first place, which it then looks at once more
  pub runs-begin : length es ≤ 64 → {s f v : ℕ} → s < 2 ^ length es → (s ≡ 0 → ⊥) → f ≡ get_or (places s) 0 64 → v ≡ S (get_or es f no_entry) → Toward (best_in (higher S) no_entry (entries_at es (places s))) S es f v s
  runs-begin short {s} {f} within n p e =
      let x = get_or es f no_entry in
      let l = drop 1 (places s) in
      let w : places s ≡ f ∷ l = places-walk s (fits es short s within) n ∙ ap (◌∷ l) (sym p) in (
        record { within = within; there = first-there es short within n p; scored = e },
        ap (λ (l : List ℕ). ending_at S es f l) w
            ∙ best-stays (higher S) x x (entries_at es l) (le-ltb (S x) (S x) (omega arith))
            ∙ sym (ap (λ (l : List ℕ). best_in (higher S) no_entry (entries_at es l)) w ∙ best_in-cons (higher S) no_entry x (entries_at es l)),
      )

  -- and goes on after a run that it has walked in two parts
  pub runs_on : {m : Entry} {at top s r j p k q : ℕ} (run rest none : List ℕ) → Toward m S es at top s → r < s → places s ≡ run ++ places r
      → Along (ending_at S es at run) S es j p rest
      → Along (ending_at S es j rest) S es k q none
      → none ≡ []
      → Toward m S es k q r
  runs_on {at = at} {r = r} {k = k} run rest none w less splits x y z = (
    record { within = omega (arith, less, w.0.within); there = y.0.0; scored = y.0.1 },
    ap (λ (e : Entry). best (higher S) e (entries_at es (places r))) (best-over (higher S) (λ (i : ℕ). get_or es i no_entry) (get_or es k no_entry) z ∙ y.1 ∙ x.1)
        ∙ sym (best-parts (higher S) (λ (i : ℕ). get_or es i no_entry) (get_or es at no_entry) run (places r))
        ∙ ap (λ (l : List ℕ). ending_at S es at l) (sym splits)
        ∙ w.1,
  )

-- addresses rise along a run, and at its end none is left
module _ (b : List ℕ) (h : Valid b) (i e : ℕ) (under : e ≤ length (table_in b).entries) where
  pub family-next : (n : ℕ) → Words b → i < e → FamilyAt n (table_in b).entries i e → FamilyAt n (table_in b).entries (i + 1) e
  family-next n o l k m = omega (arith, k l, families-rise b h o i (i + 1) (omega arith) (omega arith))

  run-in-use : i < e → i < length (table_in b).entries
  run-in-use l = omega arith

  pub run-begins : FamilyAt 4 (table_in b).entries i e
  run-begins = least-begins b h (i < e) i run-in-use

  pub run-six : FamilyAt 5 (table_in b).entries i e → FamilyAt 6 (table_in b).entries i e
  run-six = least-six b h (i < e) i run-in-use

  pub run-over : FamilyAt 7 (table_in b).entries i e → stretch i (e - i) ≡ []
  run-over k = stretch-over i e (either i e (λ l. absurd (least-ends b h (i < e) i run-in-use k l)) (λ l. l))
