-- The settings as a register of the journal: what is set can be set again, and is what was last accepted. Assumes nothing.
use Prim.Native.Nat.{ℕ}
use native.Mathlib.Omega.{arith}
use mathlib.Core.Path.{◌≡◌, refl, ap, ap₂, ◌∙◌, sym}
use mathlib.Core.Bool.{Bool, true, false, cond}
use mathlib.Core.Logic.{◌⊎◌, inl, inr, ⊎_elim}
use mathlib.Core.List.Permᴰ
use mathlib.Core.List.{List, [], ◌∷◌, map, Permᴰ}
use lib.ListN.{length}
use lib.Dec.{eqb}
use borrow.Author.Tests.{ne_eqb, eq-eqb}
use Rattle.lists.specs.Lists.{Every}
use Rattle.lists.proofs.Bools.{no-choice}
use Rattle.lists.proofs.Lists.{perm-length, every-perm, empty}
use Rattle.lists.proofs.Numbers.{whether}
use Rattle.keyed.specs.Journal.{after, answers, neither}
use Rattle.rows.specs.Rows.{flat}
use Rattle.ranges.specs.Ranges.{ranges_of, may_be_ranges, ranges_set}
use Rattle.settings.specs.Settings.{Settings, nothing_set, may_be_set, numbers_set, ranges_given, SettingsRight}
use Rattle.settings.proofs.Laws.{numbers-again, given-again, may-be-set-parts, in-range-bounds}
use Rattle.segment_state.specs.State.{Segment}
use Rattle.demand3.specs.Calls.{Call, announce, withdraw, set_numbers, set_ranges, elect, returning, change_reply, number_in, reply_to, settings_left, leaves}
use Rattle.demand3.specs.Journal.{Announcement, call_effect, journal_of, journal_reply, numbers_again, ranges_again, set_again, set_by, last_settings}

-- WHAT IS SET is none, or numbers that may be set, and no range, or ranges that may be set: each part takes no call to set it again, or one
module _ (g : Settings) (r : SettingsRight g) where
  abbrev numbers : Call
  numbers = set_numbers g.by_source_group g.by_any_source

  abbrev ranges : Call
  ranges = set_ranges (flat g.ranges)

  abbrev May : Type 0
  May = may_be_set g.by_source_group g.by_any_source ≡ true

  numbers-part : ((numbers_again g ≡ []) × (g.by_source_group ≡ 0) × (g.by_any_source ≡ 0)) ⊎ ((numbers_again g ≡ numbers ∷ []) × May)
  unfolding numbers_again
  numbers-part =
      ⊎_elim
      (λ z. inl (rw (eq-eqb g.by_source_group 0 z.0), z.0, z.1))
      (λ m.
      let n : g.by_source_group ≡ 0 → ⊥ = λ z. omega (arith, z, (in-range-bounds g.by_source_group (may-be-set-parts g.by_source_group g.by_any_source m).0).0) in
      inr (rw (ne_eqb g.by_source_group 0 n), m))
      r.numbers

  ranges-part : ((ranges_again g ≡ []) × (g.ranges ≡ [])) ⊎ (ranges_again g ≡ ranges ∷ [])
  unfolding ranges_again
  ranges-part = whether (length g.ranges) 0 (λ z. inl (rw (eq-eqb (length g.ranges) 0 z), empty g.ranges z)) (λ n. inr (rw (ne_eqb (length g.ranges) 0 n)))

  by_parts : (P : List Call → Type 0) → (g.by_source_group ≡ 0 → g.by_any_source ≡ 0 → g.ranges ≡ [] → P []) → (May → g.ranges ≡ [] → P (numbers ∷ []))
      → (g.by_source_group ≡ 0 → g.by_any_source ≡ 0 → P (ranges ∷ [])) → (May → P (numbers ∷ ranges ∷ [])) → P (set_again g)
  by_parts P none one other two =
      ⊎_elim
      (λ n. ⊎_elim (λ e. rw (n.0, e.0) (none n.1 n.2 e.1)) (λ e. rw (n.0, e) (other n.1 n.2)) ranges-part)
      (λ n. ⊎_elim (λ e. rw (n.0, e.0) (one n.1 e.1)) (λ e. rw (n.0, e) (two n.1)) ranges-part)
      numbers-part

-- such a call holds nothing, and is accepted wherever it stands
abbrev Setter : List ℕ → Call → Type 0
Setter i c = (call_effect c ≡ neither) × ((js : List Announcement) (h : Settings) → journal_reply i (journal_of js h) c ≡ change_reply 0)

module _ (i : List ℕ) (g : Settings) (r : SettingsRight g) where
  numbers-setter : May g r → Setter i (numbers g r)
  unfolding call_effect journal_reply
  numbers-setter m = (refl, λ js h. ap change_reply (numbers-again h g.by_source_group g.by_any_source m).0)

  ranges-setter : Setter i (ranges g r)
  unfolding call_effect journal_reply
  ranges-setter = (refl, λ js h. ap change_reply (given-again h g.ranges r.ranges).0)

  pub again-accepted : Every (Setter i) (set_again g)
  unfolding Every
  again-accepted =
      by_parts g r (Every (Setter i)) (λ x y z. tt) (λ m z. (numbers-setter m, tt)) (λ x y. (ranges-setter, tt)) (λ m. (numbers-setter m, (ranges-setter, tt)))

-- THEIR ORDERS: a list of one element has one, and a list of two has two
one-order : (c : Call) (l : List Call) → Permᴰ l (c ∷ []) → l ≡ c ∷ []
unfolding Every
one-order c [] h = absurd (omega (arith, perm-length h))
one-order c (d ∷ []) h = ap (λ (x : Call). x ∷ []) (every-perm (λ x. x ≡ c) (Permᴰ.symm h) (refl, tt)).0
one-order c (d ∷ e ∷ l) h = absurd (omega (arith, perm-length h))

two-orders : (c d : Call) (l : List Call) → Permᴰ l (c ∷ d ∷ []) → (l ≡ c ∷ d ∷ []) ⊎ (l ≡ d ∷ c ∷ [])
unfolding Every
two-orders c d [] h = absurd (omega (arith, perm-length h))
two-orders c d (x ∷ []) h = absurd (omega (arith, perm-length h))
two-orders c d (x ∷ y ∷ []) h =
    let from = every-perm (λ z. (z ≡ c) ⊎ (z ≡ d)) (Permᴰ.symm h) (inl refl, (inr refl, tt)) in
    let back = every-perm (λ z. (z ≡ x) ⊎ (z ≡ y)) h (inl refl, (inr refl, tt)) in
    ⊎_elim
    (λ p. inl (ap₂ (λ (a b : Call). a ∷ b ∷ []) p (⊎_elim (λ q. ⊎_elim (λ s. q ∙ sym p ∙ sym s) (λ s. sym s) back.1.0) (λ q. q) from.1.0)))
    (λ p. inr (ap₂ (λ (a b : Call). a ∷ b ∷ []) p (⊎_elim (λ q. q) (λ q. ⊎_elim (λ s. q ∙ sym p ∙ sym s) (λ s. sym s) back.0) from.1.0)))
    from.0
two-orders c d (x ∷ y ∷ z ∷ l) h = absurd (omega (arith, perm-length h))

-- each sets its part and leaves the other, so that in every order they bring back what was set
same-settings : (g : Settings) {a b : ℕ} {l : List (List ℕ)} → a ≡ g.by_source_group → b ≡ g.by_any_source → l ≡ g.ranges → record { by_source_group = a; by_any_source = b; ranges = l } ≡ g
same-settings g p q e = rw (p, q, e)

module _ (g : Settings) (r : SettingsRight g) where
  abbrev a : ℕ
  a = g.by_source_group

  abbrev b : ℕ
  b = g.by_any_source

  pub again-restores : (l : List Call) → Permᴰ l (set_again g) → after settings_left nothing_set l ≡ g
  unfolding after settings_left
  again-restores l =
      by_parts g r (λ m. Permᴰ l m → after settings_left nothing_set l ≡ g)
      (λ x y z h. ap (after settings_left nothing_set) (empty l (perm-length h)) ∙ same-settings g (sym x) (sym y) (sym z))
      (λ m z h. ap (after settings_left nothing_set) (one-order (numbers g r) l h) ∙ (numbers-again nothing_set a b m).1 ∙ same-settings g refl refl (sym z))
      (λ x y h. ap (after settings_left nothing_set) (one-order (ranges g r) l h) ∙ (given-again nothing_set g.ranges r.ranges).1 ∙ same-settings g (sym x) (sym y) refl)
      (λ m h.
      ⊎_elim
      (λ e.
      ap (after settings_left nothing_set) e
      ∙ (given-again (numbers_set nothing_set a b).settings g.ranges r.ranges).1
      ∙ ap (λ (s : Settings). record { by_source_group = s.by_source_group; by_any_source = s.by_any_source; ranges = g.ranges }) (numbers-again nothing_set a b m).1)
      (λ e.
      ap (after settings_left nothing_set) e
      ∙ (numbers-again (ranges_given nothing_set (flat g.ranges)).settings a b m).1
      ∙ ap (λ (s : Settings). record { by_source_group = a; by_any_source = b; ranges = s.ranges }) (given-again nothing_set g.ranges r.ranges).1)
      (two-orders (numbers g r) (ranges g r) l h))

-- WHAT WAS LAST ACCEPTED
abbrev numbers_in : Settings → ℕ → ℕ → Settings
numbers_in g a b = record { by_source_group = a; by_any_source = b; ranges = g.ranges }

abbrev ranges_into : Settings → List (List ℕ) → Settings
ranges_into g l = record { by_source_group = g.by_source_group; by_any_source = g.by_any_source; ranges = l }

one_set : (s : Segment) (c : Call) → settings_left s.settings c ≡ cond (eqb (number_in (reply_to s c)) 0) (set_by s.settings c) s.settings
unfolding settings_left set_by number_in reply_to numbers_set ranges_given ranges_set
one_set s (announce r c) = no-choice true (eqb (number_in (reply_to s (announce r c))) 0) s.settings
one_set s (withdraw a) = no-choice true (eqb (number_in (reply_to s (withdraw a))) 0) s.settings
one_set s (set_numbers a b) = go (may_be_set a b)
  where
    go : (x : Bool) → cond x (numbers_in s.settings a b) s.settings ≡ cond (eqb (cond x 0 15) 0) (numbers_in s.settings a b) s.settings
    go true = refl
    go false = refl
one_set s (set_ranges w) = go (may_be_ranges w)
  where
    go : (x : Bool) → ranges_into s.settings (cond x (ranges_of w) s.settings.ranges) ≡ cond (eqb (cond x 0 20) 0) (ranges_into s.settings (ranges_of w)) s.settings
    go true = refl
    go false = refl
one_set s (elect q tag ready) = no-choice true (eqb (number_in (reply_to s (elect q tag ready))) 0) s.settings
one_set s (returning a alg p d) = no-choice true (eqb (number_in (reply_to s (returning a alg p d))) 0) s.settings

pub last_set : (s : Segment) (cs : List Call) → after settings_left s.settings cs ≡ last_settings s.settings cs (map number_in (answers reply_to leaves s cs))
unfolding after answers last_settings
last_set s [] = refl
last_set s (c ∷ cs) = last_set (leaves s c) cs ∙ ap (λ (g : Settings). last_settings g cs (map number_in (answers reply_to leaves (leaves s c) cs))) (one_set s c)
