-- The theorem on journals for a state that is made of entries and of a register, over any calls, announcements, checks, capacity, entries, register, state and replies:
-- the replies are the journal's, and what is held and what is set, announced and set alone in any order, is accepted each time and makes the same state. Assumes nothing.
use Prim.Native.Nat.{ℕ, ◌≤◌}
use mathlib.Core.Path.{◌≡◌, refl, ap, ap₂, sym, ◌∙◌}
use mathlib.Core.Bool.{Bool, cond}
use mathlib.Core.List.Permᴰ
use mathlib.Core.List.{List, [], ◌∷◌, ◌++◌, map, Permᴰ}
use mathlib.Core.Option.{Option, none}
use lib.ListN.{length, replicate}
use lib.Dec.{eqb}
use Rattle.lists.specs.Lists.{Every}
use Rattle.keyed.specs.Keyed.{Rising, Distinct, insert, arranged}
use Rattle.keyed.specs.Journal.{Effect, after, answers, held_at, heard, last_held, journal_number, journal_step}
use Rattle.keyed.proofs.Keyed.{map-insert}
use Rattle.keyed.proofs.Order.{perm-arranged, rising-arranged-all, rising-unique}
use Rattle.keyed.proofs.Journal as journals

-- ENTRIES that are read off what is held, with the same keys
module _ {A E : Type 0} (key : A → ℕ) (entry : A → E) (entry_key : E → ℕ) (same : (a : A) → entry_key (entry a) ≡ key a) where
  abbrev pub entries : List A → List E
  entries js = map entry (arranged key js)

  entries-arranged : (js : List A) → entries js ≡ arranged entry_key (map entry js)
  unfolding arranged
  entries-arranged [] = refl
  entries-arranged (a ∷ js) = map-insert entry key entry_key same a (arranged key js) ∙ ap (insert entry_key (entry a)) (entries-arranged js)

  rising-entries : (js : List A) → Rising entry_key 0 (entries js)
  rising-entries js = rw (entries-arranged js) (rising-arranged-all entry_key (map entry js))

  all-entries : (js : List A) → Distinct key js → Permᴰ (entries js) (map entry js)
  all-entries js d = Permᴰ.map entry (perm-arranged key js d)

  only-entries : (js : List A) → Distinct key js → (l : List E) → Rising entry_key 0 l → Permᴰ l (map entry js) → l ≡ entries js
  only-entries js d l r h = rising-unique entry_key l (entries js) 0 0 r (rising-entries js) (Permᴰ.trans h (Permᴰ.symm (all-entries js d)))

module _ {A C E S G J R : Type 0} (key : A → ℕ) (number : C → (ℕ → Bool) → ℕ → ℕ) (effect : C → Effect A) (again : A → C) (entry : A → E) (entry_key : E → ℕ)
    (made : G → List E → S) (run : S → C → S) (reply : S → C → R) (journal : List A → G → J) (step : J → C → J) (journal_reply : J → C → R) (number_in : R → ℕ) (change : ℕ → R)
    (first : G) (set : G → C → G) (Right : G → Type 0) (restore : G → List C) where
  abbrev Number : List A → C → ℕ
  Number = journal_number key number effect

  abbrev Step : List A → C → List A
  Step = journal_step key number effect

  abbrev pub Held : List C → List A
  Held cs = after Step [] cs

  -- the register after the calls cs
  abbrev pub Register : List C → G
  Register cs = after set first cs

  -- the calls that bring back what is set and what is held
  abbrev pub Left : List C → List C
  Left cs = restore (Register cs) ++ map again (Held cs)

  -- what is to be shown of single calls, where `capacity` is the most that may be held
  pub record Single (capacity : ℕ) : Type 0 where
    pub rules : journals.Rules key number effect again capacity
    pub same : (a : A) → entry_key (entry a) ≡ key a
    -- a call on the state of what is listed leaves the state of what is then held, and sets the register,
    pub leaves : (g : G) (l : List A) (c : C) → run (made g (map entry l)) c ≡ made (set g c) (map entry (cond (eqb (Number l c) 0) (journals.placed key (effect c) l) l))
    pub steps : (js : List A) (g : G) (c : C) → step (journal js g) c ≡ journal (Step js c) (set g c)
    -- and on the state of what is held answers as the journal does,
    pub agrees : (g : G) (js : List A) (c : C) → journals.Kept key number effect again capacity js → reply (made g (map entry (arranged key js))) c ≡ journal_reply (journal js g) c
    -- with a number that leaves the same held; an announcement is answered its number
    pub heard_same : (k : ℕ) (o : Option A) (js : List A) (g : G) (c : C) → cond (eqb (Number js c) 0) (heard key k (effect c) o) o ≡ cond (eqb (number_in (journal_reply (journal js g) c)) 0) (heard key k (effect c) o) o
    pub own : (js : List A) (g : G) (a : A) → journal_reply (journal js g) (again a) ≡ change (Number js (again a))
    -- an announcement sets nothing; what is set can be set again from the first register, by calls that hold nothing and are accepted, in any order
    pub quiet : (g : G) (a : A) → set g (again a) ≡ g
    pub right_first : Right first
    pub right_set : (g : G) (c : C) → Right g → Right (set g c)
    pub setters : (g : G) → Right g → Every (journals.Setter key number effect again capacity rules set journal step journal_reply change steps own) (restore g)
    pub restored : (g : G) → Right g → (l : List C) → Permᴰ l (restore g) → after set first l ≡ g

  -- what then holds of every list of calls, from the state of nothing held and the first register
  pub record Replayed (cs : List C) : Type 0 where
    pub told : answers reply run (made first []) cs ≡ answers journal_reply step (journal [] first) cs
    pub distinct : Distinct key (Held cs)
    pub last : (k : ℕ) → held_at key k (Held cs) ≡ last_held key effect k none cs (map number_in (answers reply run (made first []) cs))
    pub standing : after run (made first []) cs ≡ made (Register cs) (map entry (arranged key (Held cs)))
    pub accepted : (order : List C) → Permᴰ order (Left cs) → answers reply run (made first []) order ≡ replicate (length order) (change 0)
    pub state : (order : List C) → Permᴰ order (Left cs) → after run (made first []) order ≡ after run (made first []) cs
    pub rising : Rising entry_key 0 (map entry (arranged key (Held cs)))
    pub all : Permᴰ (map entry (arranged key (Held cs))) (map entry (Held cs))
    pub only : (l : List E) → Rising entry_key 0 l → Permᴰ l (map entry (Held cs)) → l ≡ map entry (arranged key (Held cs))
    pub replied : (c : C) → reply (after run (made first []) cs) c ≡ journal_reply (journal (Held cs) (Register cs)) c
    pub replied_again : (order : List C) → Permᴰ order (Left cs) → (c : C) → reply (after run (made first []) order) c ≡ journal_reply (journal (Held cs) (Register cs)) c

  module _ (capacity : ℕ) (single : Single capacity) where
    abbrev state-of : G → List A → S
    state-of g l = made g (map entry l)

    one : (g : G) (l : List A) (c : C) → length l ≤ capacity → run (state-of g l) c ≡ state-of (set g c) (cond (eqb (Number l c) 0) (journals.placed key (effect c) l) l)
    one g l c h = single.leaves g l c

    kept-none : journals.Kept key number effect again capacity []
    kept-none = journals.kept-none key number effect again capacity

    kept : (cs : List C) → journals.Kept key number effect again capacity (Held cs)
    kept cs = journals.kept-after key number effect again capacity single.rules [] cs kept-none

    right-after : (g : G) (cs : List C) → Right g → Right (after set g cs)
    unfolding after
    right-after g [] r = r
    right-after g (c ∷ cs) r = right-after (set g c) cs (single.right_set g c r)

    tells : (cs : List C) → answers reply run (made first []) cs ≡ answers journal_reply step (journal [] first) cs
    unfolding arranged
    tells cs =
        journals.answers-follow key number effect again capacity single.rules set state-of run one reply journal step journal_reply single.steps single.agrees first [] cs kept-none

    state-after : (cs : List C) → after run (made first []) cs ≡ state-of (Register cs) (arranged key (Held cs))
    state-after cs = journals.from-none key number effect again capacity single.rules set state-of run one first cs

    replies : (cs : List C) (c : C) → reply (after run (made first []) cs) c ≡ journal_reply (journal (Held cs) (Register cs)) c
    replies cs c = ap (λ (s : S). reply s c) (state-after cs) ∙ single.agrees (Register cs) (Held cs) c (kept cs)

    last-held : (cs : List C) (k : ℕ) → held_at key k (Held cs) ≡ last_held key effect k none cs (map number_in (answers reply run (made first []) cs))
    unfolding held_at
    last-held cs k =
        journals.held-last key number effect again capacity single.rules k [] cs kept-none
        ∙ journals.last-replies key number effect again capacity set journal step journal_reply single.steps number_in k (single.heard_same k) none [] first cs
        ∙ ap (λ (l : List R). last_held key effect k none cs (map number_in l)) (sym (tells cs))

    module _ (cs : List C) (order : List C) (h : Permᴰ order (Left cs)) where
      right : Right (Register cs)
      right = right-after first cs single.right_first

      again-accepted : answers reply run (made first []) order ≡ replicate (length order) (change 0)
      again-accepted =
          tells order
          ∙ journals.again-accepted key number effect again capacity single.rules set journal step journal_reply change single.steps single.own
          (Held cs) (kept cs) (restore (Register cs)) order (single.setters (Register cs) right) h first

      again-set : Register order ≡ Register cs
      again-set =
          journals.again-set key number effect again capacity single.rules set journal step journal_reply change single.steps single.own
          (Held cs) (kept cs) (restore (Register cs)) order (single.setters (Register cs) right) h single.quiet first
          ∙ single.restored (Register cs) right (journals.setters_in effect order)
          (journals.setters-left key number effect again capacity single.rules set journal step journal_reply change single.steps single.own
          (Held cs) (kept cs) (restore (Register cs)) order (single.setters (Register cs) right) h)

      again-state : after run (made first []) order ≡ after run (made first []) cs
      again-state =
          state-after order
          ∙ ap₂ state-of again-set
          (journals.again-arranged key number effect again capacity single.rules set journal step journal_reply change single.steps single.own
          (Held cs) (kept cs) (restore (Register cs)) order (single.setters (Register cs) right) h first)
          ∙ sym (state-after cs)

    -- THE WHOLE
    pub replayed : (cs : List C) → Replayed cs
    replayed cs = record {
      told = tells cs;
      distinct = (kept cs).distinct;
      last = last-held cs;
      standing = state-after cs;
      accepted = again-accepted cs;
      state = again-state cs;
      rising = rising-entries key entry entry_key single.same (Held cs);
      all = all-entries key entry entry_key single.same (Held cs) (kept cs).distinct;
      only = only-entries key entry entry_key single.same (Held cs) (kept cs).distinct;
      replied = replies cs;
      replied_again = λ order h c. ap (λ (s : S). reply s c) (again-state cs order h) ∙ replies cs c;
    }

-- ONE CALL MORE: wherever a list of calls leaves the state s
pub follows : {C S R : Type 0} (reply : S → C → R) (run : S → C → S) (start s u : S) (c : C) (r : R) → reply s c ≡ r → run s c ≡ u → (cs : List C) → s ≡ after run start cs
    → (answers reply run start (cs ++ c ∷ []) ≡ answers reply run start cs ++ r ∷ []) × (after run start (cs ++ c ∷ []) ≡ u)
follows reply run start s u c r p q cs e = (journals.answers-last reply run start cs c ∙ rw (← e, p), journals.after_last reply run start cs c ∙ rw (← e) q)
