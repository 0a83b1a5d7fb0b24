-- The best candidate of a set of places is found by a walk over the scores. Assumes nothing.
use Prim.Native.Nat.{ℕ, ◌+◌, ◌-◌, ◌*◌, ◌/◌, ◌%◌, ◌^◌, ◌≤◌, ◌<◌, min}
use native.Mathlib.Nat.{mod-lt, min-zero, add-zero, lt_of_lt_of_le}
use native.Mathlib.Omega.{arith}
use mathlib.Core.Path.{◌≡◌, refl, ap, ap₂, ◌∙◌, sym}
use mathlib.Core.Bool.{Bool, cond}
use mathlib.Core.List.{List, [], ◌∷◌, map}
use mathlib.Core.Logic.{◌⊎◌, inl, inr, ⊎_elim}
use lib.ListN.{length, get_or, drop, length-map, get_or-map, get_or-eq_default}
use lib.Bits.{bit_and, bit_xor, and_step, and_mask, xor_add_and}
use lib.Dec.{eqb}
use lib.Pow.{pow_mono}
use borrow.Author.Tests.{lt-ltb, le-ltb, eq-eqb, ne_eqb}
use Rattle.keyed.proofs.Keyed as keyed
use Rattle.lists.specs.Lists.{bit, Every}
use Rattle.lists.proofs.Bools.{cond-by, bit-less}
use Rattle.lists.proofs.Lists.{every-at}
use Rattle.lists.proofs.Numbers.{whether}
use Rattle.rows.proofs.Compared.{Words}
use Rattle.address.specs.Address.{family_of, address_number}
use Rattle.hrw.specs.Weight.{weight_of}
use Rattle.hrw.proofs.Laws.{weight_of-word}
use Rattle.keyed.specs.Keyed.{Rising}
use Rattle.layout.specs.Table.{Entry, entry_key, no_entry}
use Rattle.layout.specs.Words.{standing_of, table_in, Valid}
use Rattle.layout.proofs.Words.{Narrow}
use Rattle.layout.proofs.Addresses.{family-either, families-rise}
use Rattle.places.specs.Places.{places}
use Rattle.places.proofs.Laws.{Rises, rises-least, rises-below, rises-at, places-walk, places-next, places-under, places-none, first_under}
use Rattle.choice.specs.Choice.{best, best_in, higher, by_score}
use Rattle.choice.proofs.Laws.{best_none, best-wins, best-stays, best_in-cons}
use Rattle.choice.proofs.Criteria.{best-walk}
use Rattle.winner.specs.Winner.{better, elected, entries_at}
use Rattle.winner.specs.Steps.{score_of, ending_at, Along, ending, Toward, FamilyFrom}
use Rattle.winner.proofs.Orders.{better-score, better-any}

-- SCORES, from an entry's standing
over-of : (x s : ℕ) → x + s / 2 * 2 * 2 ≡ s + 131070 → x ≡ 131070 + s % 2 * 2 - s
over-of x s e = omega arith

-- the bits of a preference turned over count it down from the greatest
turned-over : (s : ℕ) → s < 131072 → bit_xor s 131070 ≡ 131070 + s % 2 * 2 - s
turned-over s h =
    let a : bit_and s 131070 ≡ bit_and (s / 2) 65535 * 2 + min (s % 2) 0 = and_step s 131070 in
    let m : bit_and (s / 2) 65535 ≡ s / 2 % 65536 = and_mask (s / 2) 16 in
    let z : min (s % 2) 0 ≡ 0 = min-zero (s % 2) in
    let w : s / 2 % 65536 ≡ s / 2 = omega arith in
    let b : bit_and s 131070 ≡ s / 2 * 2 = a ∙ ap₂ (λ (x y : ℕ). x * 2 + y) (m ∙ w) z ∙ add-zero (s / 2 * 2) in
    let x : bit_xor s 131070 + bit_and s 131070 * 2 ≡ s + 131070 = xor_add_and s 131070 in
    let y : bit_xor s 131070 + s / 2 * 2 * 2 ≡ s + 131070 = ap (λ (v : ℕ). bit_xor s 131070 + v * 2) (sym b) ∙ x in
    over-of (bit_xor s 131070) s y

pub score-turned : (a d s : ℕ) (e : Entry) → Narrow e → (a ≡ 1 → ⊥) → a ≡ 3 → s ≡ standing_of e → s < 131072 → bit_xor s 131070 ≡ score_of a d e
unfolding score_of standing_of
score-turned a d s e h n t q l =
    let b = bit-less e.dp in
    rw (ne_eqb a 1 n, eq-eqb a 3 t) (omega (arith, turned-over s l, b, h, q))

pub score-plain : (a d s : ℕ) (e : Entry) → (a ≡ 1 → ⊥) → (a ≡ 3 → ⊥) → s ≡ standing_of e → s ≡ score_of a d e
unfolding score_of standing_of
score-plain a d s e n t q = q ∙ rw (ne_eqb a 1 n, ne_eqb a 3 t)

-- it has 17 bits
pub score-less : (a d : ℕ) (e : Entry) → Narrow e → (a ≡ 1 → ⊥) → score_of a d e < 131072
unfolding score_of
score-less a d e h n =
    let b = bit-less e.dp in
    rw (ne_eqb a 1 n) (cond-by (λ (p : ℕ). p * 2 + bit e.dp < 131072) (eqb a 3) (λ _. omega arith) (λ _. omega arith))

-- and from the low 32 bits of its address
pub score-weight : (d w s : ℕ) (e : Entry) → w ≡ address_number e.address % 2 ^ 32 → s ≡ 2 * weight_of w d → s ≡ score_of 1 d e
unfolding score_of
score-weight d w s e l q = q ∙ ap (λ (x : ℕ). 2 * weight_of x d) l ∙ ap (λ (x : ℕ). 2 * x) (weight_of-word (address_number e.address) d)

-- THE BEST AT A PLACE: also under another number and digest whose order is the same, and then it is the elected one if the number is not 0
abbrev pub BestAt : List Entry → ℕ → ℕ → ℕ → ℕ → Type 0
BestAt es a d s r = (r < length es) × (get_or es r no_entry ≡ best_in (better a d) no_entry (entries_at es (places s)))

module _ (es : List Entry) (s : ℕ) where
  pub best-as : {r : ℕ} (a d b f : ℕ) → better a d ≡ better b f → BestAt es a d s r → BestAt es b f s r
  best-as a d b f e q = (q.0, q.1 ∙ ap (λ (B : Entry → Entry → Bool). best_in B no_entry (entries_at es (places s))) e)

  -- under algorithms other than 1 the digest plays no part
  pub best_any : {r : ℕ} (a f : ℕ) → (a ≡ 1 → ⊥) → BestAt es a 0 s r → BestAt es a f s r
  best_any a f n q = best-as a 0 a f (better-any a 0 f (ne_eqb a 1 n)) q

  pub elected-best : {r : ℕ} (a tag d : ℕ) → (a ≡ 0 → ⊥) → BestAt es a d s r → (r < length es) × (get_or es r no_entry ≡ elected a tag d (entries_at es (places s)))
  unfolding elected
  elected-best a tag d z q = (q.0, q.1 ∙ sym (rw (ne_eqb a 0 z)))

-- A WALK by a score takes the next place where its score is greater, and ends where it would have ended
module _ (S : Entry → ℕ) (es : List Entry) where
  pub keep-on : {m : Entry} (at f : ℕ) {top v p q : ℕ} (ps : List ℕ) → Along m S es at top (f ∷ ps) → f < length es → v ≡ S (get_or es f no_entry) → ((top < v) × (p ≡ f) × (q ≡ v)) ⊎ ((v ≤ top) × (p ≡ at) × (q ≡ top))
      → Along m S es p q ps
  keep-on at f ps w l e (inl c) = (
    (rw c.1 l, c.2 ∙ e ∙ ap (λ (i : ℕ). S (get_or es i no_entry)) (sym c.1)),
    ap (λ (i : ℕ). ending_at S es i ps) c.1 ∙ sym (best-wins (higher S) _ _ _ (lt-ltb (S (get_or es at no_entry)) (S (get_or es f no_entry)) (omega (arith, c.0, e, w.0.1)))) ∙ w.1,
  )
  keep-on at f ps w l e (inr c) = (
    (rw c.1 w.0.0, c.2 ∙ w.0.1 ∙ ap (λ (i : ℕ). S (get_or es i no_entry)) (sym c.1)),
    ap (λ (i : ℕ). ending_at S es i ps) c.1 ∙ sym (best-stays (higher S) _ _ _ (le-ltb (S (get_or es at no_entry)) (S (get_or es f no_entry)) (omega (arith, c.0, e, w.0.1)))) ∙ w.1,
  )

-- A STEP along a set of places in use that is not empty: its first place f, and the rest r
pub record Step (s f r : ℕ) : Type 0 where
  pub some : s ≡ 0 → ⊥
  pub first : f ≡ get_or (places s) 0 64
  pub rest : places r ≡ drop 1 (places s)
  pub less : r < s

module _ (es : List Entry) (short : length es ≤ 64) where
  pub fits : (s : ℕ) → s < 2 ^ length es → s < 2 ^ 64
  fits s l = lt_of_lt_of_le l (pow_mono short)

  pub some-places : (s : ℕ) → s < 2 ^ length es → (s ≡ 0 → ⊥) → 0 < length (places s)
  some-places s l n = rw (places-walk s (fits s l) n) (omega arith)

  pub first-there : {s f : ℕ} → s < 2 ^ length es → (s ≡ 0 → ⊥) → f ≡ get_or (places s) 0 64 → f < length es
  first-there {s} l n e = rw e (first_under s (length es) l short n)

  module _ {s f r : ℕ} (step : Step s f r) (within : s < 2 ^ length es) where
    step-there : f < length es
    step-there = first-there within step.some step.first

    step_left : r < 2 ^ length es
    step_left = omega (arith, step.less, within)

    step-places : places s ≡ f ∷ places r
    step-places = places-next s (fits s within) f r step.some step.first step.rest

    step-up : (r ≡ 0 → ⊥) → get_or (places s) 0 64 < get_or (places r) 0 64
    step-up n = rw (← step.first) (rises-least _ _ (places r) 0 64 (rw step-places at (places-under s (length es) within)).2 (some-places r step_left n))

    -- A WALK by a score
    module _ (S : Entry → ℕ) where
      -- it begins at the first place
      pub walk_begins : {v : ℕ} → v ≡ S (get_or es f no_entry) → Toward (best_in (higher S) no_entry (entries_at es (places s))) S es f v r
      walk_begins e = (
        record { within = step_left; there = step-there; scored = e },
        sym (ap (λ (l : List ℕ). best_in (higher S) no_entry (entries_at es l)) step-places ∙ best_in-cons (higher S) no_entry (get_or es f no_entry) (entries_at es (places r))),
      )

      -- and goes on from place to place
      pub walk-on : {m : Entry} {at top v p q : ℕ} → Toward m S es at top s → v ≡ S (get_or es f no_entry) → ((top < v) × (p ≡ f) × (q ≡ v)) ⊎ ((v ≤ top) × (p ≡ at) × (q ≡ top))
          → Toward m S es p q r
      walk-on {at = at} w e c =
          let x = keep-on S es at f (places r) ((w.0.there, w.0.scored), ap (λ (l : List ℕ). ending_at S es at l) (sym step-places) ∙ w.1) step-there e c in
          (record { within = step_left; there = x.0.0; scored = x.0.1 }, x.1)

-- a walk that goes on where another has come
pub walk_through : {m : Entry} {S : Entry → ℕ} {es : List Entry} {at top s p q r : ℕ} → Toward m S es at top s → Toward (ending S es at s) S es p q r → Toward m S es p q r
walk_through w x = (x.0, x.1 ∙ w.1)

-- THE FAMILY at a place p that is in use if P holds: 4 or 6
module _ (b : List ℕ) (h : Valid b) (P : Type 0) (p : ℕ) (there : P → p < length (table_in b).entries) where
  abbrev least : ℕ → Type 0
  least n = P → n ≤ family_of (get_or (table_in b).entries p no_entry).address

  pub least-begins : least 4
  least-begins q = ⊎_elim (λ e. omega arith) (λ e. omega arith) (family-either b h p (there q))

  pub least-six : least 5 → least 6
  least-six k q = ⊎_elim (λ e. absurd (omega (arith, k q))) (λ e. omega arith) (family-either b h p (there q))

  pub least-ends : least 7 → P → ⊥
  least-ends k q = ⊎_elim (λ e. omega (arith, k q)) (λ e. omega (arith, k q)) (family-either b h p (there q))

-- at the first of the places left, where it does not fall as a walk goes on
module _ (b : List ℕ) (h : Valid b) {s : ℕ} (within : s < 2 ^ length (table_in b).entries) where
  abbrev es : List Entry
  es = (table_in b).entries

  left_there : (s ≡ 0 → ⊥) → get_or (places s) 0 64 < length es
  left_there n = first_under s _ within h.sound.short n

  pub family-begins : FamilyFrom 4 es s
  family-begins = least-begins b h (s ≡ 0 → ⊥) (get_or (places s) 0 64) left_there

  pub family-six : FamilyFrom 5 es s → FamilyFrom 6 es s
  family-six = least-six b h (s ≡ 0 → ⊥) (get_or (places s) 0 64) left_there

  pub family-ends : FamilyFrom 7 es s → s ≡ 0
  family-ends k = whether s 0 (λ z. z) (λ n. absurd (least-ends b h (s ≡ 0 → ⊥) (get_or (places s) 0 64) left_there k n))

  pub family-on : (n : ℕ) {f r : ℕ} → Words b → Step s f r → FamilyFrom n es s → FamilyFrom n es r
  family-on n {f} {r} o step k m =
      let short = h.sound.short in
      let rise = families-rise b h o _ _ (step-up es short step within m) (first_under r _ (step_left es short step within) short m) in
      omega (arith, k step.some, rise)

-- a set of places in use that is not empty has some
pub some_counted : (b : List ℕ) (s n : ℕ) → Valid b → s < 2 ^ length (table_in b).entries → (s ≡ 0 → ⊥) → n ≡ length (places s) → 0 < n
some_counted b s n h under some e = rw e (some-places (table_in b).entries h.sound.short s under some)

-- THE ENTRIES AT PLACES that rise have keys that rise
module _ (es : List Entry) (short : length es ≤ 64) (rising : Rising entry_key 1 es) where
  entry_at : (ps : List ℕ) (i : ℕ) → get_or (entries_at es ps) i no_entry ≡ get_or es (get_or ps i 64) no_entry
  entry_at ps i =
      let f : ℕ → Entry = λ (j : ℕ). get_or es j no_entry in
      let out : get_or es 64 no_entry ≡ no_entry = get_or-eq_default es no_entry (omega arith) in
      ap (λ (e : Entry). get_or (map f ps) i e) (sym out) ∙ get_or-map f ps i 64

  pub places-rising : (ps : List ℕ) → Rises 0 (length es) ps → Rising entry_key 0 (entries_at es ps)
  places-rising ps r = keyed.rising-of entry_key (entries_at es ps) 0 no_entry (λ h. omega arith) (λ i j g h.
      let n = length-map ps (λ (k : ℕ). get_or es k no_entry) in
      rw (entry_at ps i, entry_at ps j)
      (keyed.rising-pairs entry_key es 1 no_entry rising (get_or ps i 64) (get_or ps j 64) (rises-at 0 (length es) ps i j 64 r g (omega (arith, n))) (rises-below 0 (length es) ps j 64 r (omega (arith, n)))))

  -- THE BEST by score is the best by document 01's order
  module _ (narrow : Every Narrow es) (a d : ℕ) where
    narrow_at : (i : ℕ) → Narrow (get_or es i no_entry)
    narrow_at i = every-at Narrow es i no_entry (omega arith) narrow

    best-same : (x : Entry) (ps : List ℕ) → Narrow x → best (better a d) x (entries_at es ps) ≡ best (by_score (score_of a d) entry_key) x (entries_at es ps)
    unfolding best
    best-same x [] h = refl
    best-same x (p ∷ ps) h =
        let y = get_or es p no_entry in
        let k = narrow_at p in
        let b = by_score (score_of a d) entry_key y x in
        ap (λ (c : Bool). best (better a d) (cond c y x) (entries_at es ps)) (better-score a d y x k h) ∙ best-same (cond b y x) ps (cond-by Narrow b (λ _. k) (λ _. h))

    pub best-scored : (ps : List ℕ) → Rises 0 (length es) ps → best_in (higher (score_of a d)) no_entry (entries_at es ps) ≡ best_in (better a d) no_entry (entries_at es ps)
    unfolding best_in Rising
    best-scored [] r = refl
    best-scored (p ∷ ps) r =
        sym (best-same (get_or es p no_entry) ps (narrow_at p) ∙ best-walk (score_of a d) entry_key (get_or es p no_entry) (entries_at es ps) (places-rising (p ∷ ps) r).1)

    -- where a walk has no place left
    pub walk_ends : (s : ℕ) {at top left : ℕ} → s < 2 ^ length es → Toward (best_in (higher (score_of a d)) no_entry (entries_at es (places s))) (score_of a d) es at top left → left ≡ 0 → BestAt es a d s at
    walk_ends s {at} within w z =
        let W = higher (score_of a d) in
        let kept = get_or es at no_entry in
        (w.0.there, sym (ap (λ (l : List ℕ). best W kept (entries_at es l)) (ap places z ∙ places-none) ∙ best_none W kept) ∙ w.1 ∙ best-scored (places s) (places-under s (length es) within))

  -- THE ELECTED ONE
  module _ (s a tag d : ℕ) (under : s < 2 ^ length es) (some : s ≡ 0 → ⊥) where
    pub elected-nth : (r n : ℕ) → a ≡ 0 → n ≡ length (places s) → r ≡ get_or (places s) (tag % n) 64
        → (r < length es) × (get_or es r no_entry ≡ elected a tag d (entries_at es (places s)))
    unfolding elected
    elected-nth r n z e q =
        let l : tag % n < length (places s) = rw e (mod-lt tag (some-places es short s under some)) in
        let m : length (entries_at es (places s)) ≡ n = length-map (places s) (λ (k : ℕ). get_or es k no_entry) ∙ sym e in
        (rw q (rises-below 0 (length es) (places s) (tag % n) 64 (places-under s (length es) under) l), sym (rw (eq-eqb a 0 z, m) (entry_at (places s) (tag % n)) ∙ ap (λ (i : ℕ). get_or es i no_entry) (sym q)))
