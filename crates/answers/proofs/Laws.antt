-- Laws of what an election answers: the candidates are the entries at the places of their set, what each return answers, and what an answer says. Assumes nothing.
use Prim.Native.Nat.{ℕ, ◌%◌, ◌^◌, ◌<◌}
use native.Mathlib.Nat.{mod-lt, lt_of_lt_of_le}
use native.Mathlib.Omega.{arith}
use mathlib.Core.Path.{◌≡◌, refl, ap, ◌∙◌, sym, subst}
use mathlib.Core.Bool.{Bool, true, false, cond}
use mathlib.Core.List.Memᴰ
use mathlib.Core.List.{List, [], ◌∷◌, map, Memᴰ}
use lib.ListN.{length, get_or, length-map}
use lib.Dec.{eqb}
use lib.Count.{ones}
use lib.Pow.{pow_mono}
use borrow.Author.Tests.{eq-eqb, ne_eqb, eqb-true, eqb-false}
use Rattle.lists.proofs.Lists.{empty, at_mem}
use Rattle.address.specs.Address.{family_of, address_words}
use Rattle.keyed.specs.Keyed.{Rising}
use Rattle.layout.specs.Table.{Entry, entry_key, no_entry, Table, WellFormed}
use Rattle.places.specs.Places.{places, set_of}
use Rattle.places.proofs.Laws.{places-none, places-empty, length-places, places-under}
use Rattle.places.proofs.Flags.{set_of-lt, picked-places}
use Rattle.choice.specs.Choice.{best_in}
use Rattle.choice.proofs.Laws.{Unique, best-in, best-top, best-only, best_in-cons}
use Rattle.choice.proofs.Criteria.{unique-rising}
use Rattle.hrw.specs.Weight.{digest_of, flow_digest_of}
use Rattle.ready.specs.Ready.{eligible, candidates, candidate_set}
use Rattle.winner.specs.Winner.{better, elected, entries_at}
use Rattle.winner.proofs.Orders.{order-better, better-any}
use Rattle.winner.proofs.Laws.{places-rising}
use Rattle.answers.specs.Answers.{Answer, refused_answer, named_answer, Method, answer_by, Forwarder}
use Rattle.answers.specs.Steps.{digest_under, ElectedAt}

pub ones_none : 0 ≡ ones 0
ones_none = ap length (sym places-none) ∙ length-places 0 (omega arith)

-- the elected one does not depend on a digest that its algorithm does not ask for
elected-under : (a tag : ℕ) (i : List ℕ) (cs : List Entry) → elected a tag (digest_under a [] tag i) cs ≡ elected a tag (digest_of tag i) cs
unfolding elected digest_under flow_digest_of digest_of
elected-under a tag i cs = go (eqb a 1) refl
  where
    go : (b : Bool) → eqb a 1 ≡ b
        → cond (eqb a 0) (get_or cs (tag % length cs) no_entry) (best_in (better a (cond b (digest_of tag i) 0)) no_entry cs)
        ≡ cond (eqb a 0) (get_or cs (tag % length cs) no_entry) (best_in (better a (digest_of tag i)) no_entry cs)
    go true e = refl
    go false e = ap (λ (B : Entry → Entry → Bool). cond (eqb a 0) (get_or cs (tag % length cs) no_entry) (best_in B no_entry cs)) (better-any a 0 (digest_of tag i) e)

-- the elected one, with a digest that is known
pub elected-by : (l : List Entry) (a s tag d e at : ℕ) → d ≡ e → ElectedAt l a d s tag at → ElectedAt l a e s tag at
elected-by l a s tag d e at p g = (g.0, g.1 ∙ ap (λ (y : ℕ). elected a tag y (entries_at l (places s))) p)

-- and with the digest that its algorithm asks for
pub elected-at : (i : List ℕ) (l : List Entry) (a s tag d at : ℕ) → d ≡ digest_under a [] tag i → ElectedAt l a d s tag at → ElectedAt l a (digest_of tag i) s tag at
elected-at i l a s tag d at e g = let f = elected-by l a s tag d (digest_under a [] tag i) at e g in (f.0, f.1 ∙ elected-under a tag i (entries_at l (places s)))

-- an answer that names, by its parts
pub named-answer : (x : List ℕ) (a f m n s : ℕ) (w : List ℕ) → f ≡ family_of x → w ≡ address_words x → m ≡ n → m ≡ ones s
    → (record { number = 0; family = f; address = w; algorithm = a; n = m; candidates = s } ≡ named_answer x a n s) × (m ≡ ones s)
named-answer x a f m n s w p q r o = (rw (p, q, r), o)

-- AN ANSWER BY A METHOD, whatever its candidates
module _ (m : Method) (cs : List Entry) (set tag : ℕ) where
  abbrev names : Answer
  names = named_answer (elected m.algorithm tag m.digest cs).address m.told (length cs) set

  -- none is named exactly if there is no candidate
  pub none-by : ((answer_by m cs set tag).number ≡ 12 → cs ≡ []) × (cs ≡ [] → answer_by m cs set tag ≡ refused_answer 12)
  unfolding answer_by
  none-by = go (eqb (length cs) 0) refl
    where
      go : (b : Bool) → eqb (length cs) 0 ≡ b → ((cond b (refused_answer 12) names).number ≡ 12 → cs ≡ []) × (cs ≡ [] → cond b (refused_answer 12) names ≡ refused_answer 12)
      go true e = (λ h. empty cs (eqb-true (length cs) 0 e), λ n. refl)
      go false e = (λ h. absurd (omega (arith, h)), λ n. absurd (eqb-false (length cs) 0 e (ap length n)))

  -- it is 0 or 12
  pub numbers-by : (P : ℕ → Type 0) → P 0 → P 12 → P (answer_by m cs set tag).number
  unfolding answer_by
  numbers-by P a b = go (eqb (length cs) 0)
    where
      go : (c : Bool) → P (cond c (refused_answer 12) names).number
      go true = b
      go false = a

  pub names-by : (answer_by m cs set tag).number ≡ 0 → (length cs ≡ 0 → ⊥) × (answer_by m cs set tag ≡ names)
  unfolding answer_by
  names-by = go (eqb (length cs) 0) refl
    where
      go : (b : Bool) → eqb (length cs) 0 ≡ b → (cond b (refused_answer 12) names).number ≡ 0 → (length cs ≡ 0 → ⊥) × (cond b (refused_answer 12) names ≡ names)
      go true e h = absurd (omega (arith, h))
      go false e h = (eqb-false (length cs) 0 e, refl)

-- THE ELECTED ONE of a list of candidates
module _ (a tag d : ℕ) where
  pub elected-in : (l : List Entry) → (length l ≡ 0 → ⊥) → Memᴰ (elected a tag d l) l
  unfolding elected
  elected-in l n = go (eqb a 0) l n
    where
      go : (b : Bool) (l : List Entry) → (length l ≡ 0 → ⊥) → Memᴰ (cond b (get_or l (tag % length l) no_entry) (best_in (better a d) no_entry l)) l
      go true l n = at_mem l (tag % length l) no_entry (mod-lt tag (omega (arith, n)))
      go false [] n = absurd (n refl)
      go false (x ∷ l) n = rw (best_in-cons (better a d) no_entry x l) (best-in (better a d) x l)

  pub elected-top : (l : List Entry) → Unique entry_key l → (a ≡ 0 → ⊥) → (x : Entry) → Memᴰ x l → better a d x (elected a tag d l) ≡ false
  unfolding elected
  elected-top [] q z x m = absurd (Memᴰ.not-nil m)
  elected-top (y ∷ l) q z x m = rw (ne_eqb a 0 z, best_in-cons (better a d) no_entry y l) (best-top entry_key (better a d) (order-better a d) y l q x m)

  pub elected-only : (l : List Entry) → Unique entry_key l → (a ≡ 0 → ⊥) → (x : Entry) → Memᴰ x l → ((y : Entry) → Memᴰ y l → better a d y x ≡ false) → x ≡ elected a tag d l
  unfolding elected
  elected-only [] q z x m n = absurd (Memᴰ.not-nil m)
  elected-only (y ∷ l) q z x m n = best-only entry_key (better a d) (order-better a d) y l q x m n ∙ sym (rw (ne_eqb a 0 z) (best_in-cons (better a d) no_entry y l))

-- THE CANDIDATES of a table, where ac tells whether AC-DF is in use
module _ (t : Table) (w : WellFormed t) (ac : Bool) (ready : List (List ℕ)) where
  abbrev es : List Entry
  es = t.entries

  abbrev pub set : ℕ
  set = candidate_set ac ready es

  abbrev pub cs : List Entry
  cs = candidates ac ready es

  abbrev bs : List Bool
  bs = map (eligible ac ready) es

  length-bs : length bs ≡ length es
  length-bs = length-map es (eligible ac ready)

  pub by-places : cs ≡ entries_at es (places set)
  unfolding candidates candidate_set
  by-places = sym (picked-places bs es no_entry (sym length-bs) (omega (arith, length-bs, w.short)))

  set-under : set < 2 ^ length es
  unfolding candidate_set
  set-under = subst (λ (n : ℕ). set_of bs < 2 ^ n) length-bs (set_of-lt bs)

  pub set-in-use : (s : ℕ) → s ≡ set → s < 2 ^ length es
  set-in-use s f = rw f set-under

  fits : set < 2 ^ 64
  fits = lt_of_lt_of_le set-under (pow_mono w.short)

  length-cs : length cs ≡ length (places set)
  length-cs = ap length by-places ∙ length-map (places set) (λ (i : ℕ). get_or es i no_entry)

  pub rising : Rising entry_key 0 cs
  rising = subst (λ (l : List Entry). Rising entry_key 0 l) (sym by-places) (places-rising es w.short w.rising (places set) (places-under set (length es) set-under))

  module _ (m : Method) (tag : ℕ) where
    -- the answer, and N by the ones of the candidate set
    abbrev pub Answers : Answer → Type 0
    Answers r = (r ≡ answer_by m cs set tag) × (r.n ≡ ones r.candidates)

    -- where the candidate set was found to be s
    module _ (s : ℕ) (f : s ≡ set) where
      pub answers-12 : s ≡ 0 → Answers (refused_answer 12)
      unfolding answer_by
      answers-12 z =
          let none-there : length cs ≡ 0 = length-cs ∙ ap (λ (x : ℕ). length (places x)) (sym f ∙ z) ∙ ap length places-none in
          (rw (eq-eqb (length cs) 0 none-there), ones_none)

      pub answers-named : {r : Answer} (at : ℕ) → (s ≡ 0 → ⊥) → ElectedAt es m.algorithm m.digest s tag at
          → (r ≡ named_answer (get_or es at no_entry).address m.told (length (places s)) s) × (r.n ≡ ones r.candidates) → Answers r
      unfolding answer_by
      answers-named at z g (p, q) =
          let some : length cs ≡ 0 → ⊥ = λ n. z (f ∙ places-empty set fits (empty (places set) (sym length-cs ∙ n))) in
          let who : get_or es at no_entry ≡ elected m.algorithm tag m.digest cs =
          g.1 ∙ ap (elected m.algorithm tag m.digest) (ap (λ (y : ℕ). entries_at es (places y)) f ∙ sym by-places) in
          let count : length (places s) ≡ length cs = ap (λ (y : ℕ). length (places y)) f ∙ sym length-cs in
          (p ∙ rw (ne_eqb (length cs) 0 some, who, count, f), q)

    pub forwarder-by : (answer_by m cs set tag).number ≡ 0 → Forwarder m cs tag (answer_by m cs set tag)
    unfolding elected
    forwarder-by h =
        let n = names-by m cs set tag h in
        let q = unique-rising entry_key 0 cs rising in
        record {
          entry = elected m.algorithm tag m.digest cs;
          family = ap (λ (r : Answer). r.family) n.1;
          address = ap (λ (r : Answer). r.address) n.1;
          candidate = elected-in m.algorithm tag m.digest cs n.0;
          top = elected-top m.algorithm tag m.digest cs q;
          only = elected-only m.algorithm tag m.digest cs q;
          counted = λ z. rw (eq-eqb m.algorithm 0 z);
        }

-- these laws, by names that a function of the code can cite
pub ruleset at_tag = (elected-at)

pub ruleset counted_places = (length-places)
