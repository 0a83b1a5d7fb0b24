-- Elections among fewer: where all agree on an algorithm other than 0, some of the entries agree on the same, and if the elected one is among them it is elected. Assumes nothing.
use Prim.Native.Nat.{ℕ, ◌≤◌}
use native.Mathlib.Omega.{arith}
use mathlib.Core.Path.{◌≡◌, refl, ap, ap₂, sym, ◌∙◌, subst}
use mathlib.Core.Bool.{Bool, true, false, cond, ◌&&◌, beq}
use mathlib.Core.List.{List, [], ◌∷◌, Memᴰ}
use lib.ListN.{length}
use lib.Dec.{ltb, eqb}
use borrow.Author.Tests.{eq-eqb, eqb-true, ltb-false}
use Rattle.lists.proofs.Bools.{cond-by}
use Rattle.ranges.proofs.Laws.{both}
use Rattle.settings.specs.Settings.{Settings, SettingsRight}
use Rattle.address.specs.Address.{family_of, address_words}
use Rattle.layout.specs.Table.{Entry, Table, WellFormed}
use Rattle.tags.specs.Tags.{reserved_tag}
use Rattle.agreement.specs.Agreement.{carries, all_carry, fallback, usable, in_use_with}
use Rattle.agreement.specs.declared.InUse.{InUse}
use Rattle.ready.specs.Ready.{on_list, candidates, candidate_set}
use Rattle.answers.specs.Answers.{Answer, refused_answer, Method, answer_by, Forwarder}
use Rattle.answers.proofs.Laws.{none-by, numbers-by, forwarder-by}
use Rattle.election.specs.Queries.{Query, right_lengths, number_for, agreed_on, method_for, method_of, candidates_of, elect_with}
use Rattle.election.proofs.Laws.{passes, plain-some}
use Rattle.forwarders.specs.Forwarders.{Names, SameForwarder}
use Rattle.bystander.proofs.Members.{all-members, member-of-all, candidate-of, candidate-in, eligible-alike}

-- WHAT ALL AGREE ON
abbrev used_by : Entry → InUse
used_by e = record { algorithm = e.algorithm; ac_df = e.ac_df }

carries_same : (x e : Entry) → carries e.algorithm e.ac_df x ≡ true → used_by x ≡ used_by e
carries_same x e h =
    let p = both (eqb x.algorithm e.algorithm) (beq x.ac_df e.ac_df) h in
    ap₂ (λ (a : ℕ) (b : Bool). record { algorithm = a; ac_df = b }) (eqb-true x.algorithm e.algorithm p.0) (beq_same x.ac_df e.ac_df p.1)
  where
    beq_same : (b c : Bool) → beq b c ≡ true → b ≡ c
    beq_same true true h = refl
    beq_same true false h = sym h
    beq_same false true h = h
    beq_same false false h = refl

same-carries : (x e : Entry) → used_by x ≡ used_by e → carries e.algorithm e.ac_df x ≡ true
same-carries x e p =
    let a : x.algorithm ≡ e.algorithm = ap (λ (u : InUse). u.algorithm) p in
    let b : x.ac_df ≡ e.ac_df = ap (λ (u : InUse). u.ac_df) p in
    rw (eq-eqb x.algorithm e.algorithm a, b) (beq-own e.ac_df)
  where
    beq-own : (c : Bool) → beq c c ≡ true
    beq-own true = refl
    beq-own false = refl

module _ (s : Settings) where
  -- where it is not 0, every entry carries it, and it may be agreed on
  carried : (l : List Entry) → ((in_use_with s l).algorithm ≡ 0 → ⊥) → (x : Entry) → Memᴰ x l → (usable s x.algorithm ≡ true) × (used_by x ≡ in_use_with s l)
  unfolding in_use_with all_carry
  carried [] n x m = absurd (n refl)
  carried (e ∷ l) n x m = go (usable s e.algorithm && all_carry e.algorithm e.ac_df l) refl n m
    where
      go : (b : Bool) → (usable s e.algorithm && all_carry e.algorithm e.ac_df l) ≡ b → ((cond b (used_by e) fallback).algorithm ≡ 0 → ⊥) → Memᴰ x (e ∷ l)
          → (usable s x.algorithm ≡ true) × (used_by x ≡ cond b (used_by e) fallback)
      go false p n m = absurd (n refl)
      go true p n (mathlib.Core.List.Memᴰ.head h) = rw h ((both _ _ p).0, refl)
      go true p n (mathlib.Core.List.Memᴰ.tail m) =
          let q = both (usable s e.algorithm) (all_carry e.algorithm e.ac_df l) p in
          let c = carries_same x e (member-of-all (carries e.algorithm e.ac_df) q.1 m) in
          (ap (λ (u : InUse). usable s u.algorithm) c ∙ q.0, c)

  -- so some of the entries agree on it
  pub in-use-fewer : (l k : List Entry) → ((in_use_with s l).algorithm ≡ 0 → ⊥) → ((x : Entry) → Memᴰ x k → Memᴰ x l) → (x : Entry) → Memᴰ x k → in_use_with s k ≡ in_use_with s l
  unfolding in_use_with all_carry
  in-use-fewer l [] n f x m = absurd (mathlib.Core.List.Memᴰ.not-nil m)
  in-use-fewer l (e ∷ k) n f x m =
      let c = carried l n e (f e (mathlib.Core.List.Memᴰ.head refl)) in
      let others = all-members (carries e.algorithm e.ac_df) k (λ y h. same-carries y e ((carried l n y (f y (mathlib.Core.List.Memᴰ.tail h))).1 ∙ sym c.1)) in
      rw (c.0, others) c.1

  -- THE ALGORITHM OF A QUERY is not 0 either
  pub method-some : SettingsRight s → (q : Query) (a tag : ℕ) (i : List ℕ) → (a ≡ 0 → ⊥) → (method_for s q a tag i).algorithm ≡ 0 → ⊥
  unfolding method_for
  method-some r q a tag i n = cond-by (λ (m : Method). m.algorithm ≡ 0 → ⊥) (agreed_on a (number_for s q)) (λ _ z. omega (arith, z)) (λ _. plain-some s r tag a n)

  -- THE CHECKS that an answer with the number 0 has passed
  pub checks-passed : (q : Query) (i : List ℕ) (l : List Entry) (tag : ℕ) (ready : List (List ℕ)) → (elect_with s q i l tag ready).number ≡ 0
      → (reserved_tag tag ≡ false) × (length ready ≤ 64) × (right_lengths q ≡ true)
  unfolding elect_with
  checks-passed q i l tag ready = go (reserved_tag tag) (ltb 64 (length ready)) refl (right_lengths q)
    where
      answer : Answer
      answer = answer_by (method_of s q i l tag) (candidates_of s l ready) (candidate_set (in_use_with s l).ac_df ready l) tag

      go : (a b : Bool) → ltb 64 (length ready) ≡ b → (c : Bool) → (cond a (refused_answer 10) (cond b (refused_answer 11) (cond c answer (refused_answer 18)))).number ≡ 0
          → (a ≡ false) × (length ready ≤ 64) × (c ≡ true)
      go true b e c h = absurd (omega (arith, h))
      go false true e c h = absurd (omega (arith, h))
      go false false e false h = absurd (omega (arith, h))
      go false false e true h = (refl, ltb-false 64 (length ready) e, refl)

-- ANSWERS BY ONE METHOD: an answer that names somebody tells the method's number
told-by : (m : Method) (cs : List Entry) (set tag : ℕ) → (answer_by m cs set tag).number ≡ 0 → (answer_by m cs set tag).algorithm ≡ m.told
unfolding answer_by
told-by m cs set tag =
    cond-by (λ (r : Answer). r.number ≡ 0 → r.algorithm ≡ m.told) (eqb (length cs) 0) (λ _ h. absurd (omega (arith, h))) (λ _ h. refl)

pub named_some : (m : Method) (cs : List Entry) (set tag : ℕ) (x : Entry) → Memᴰ x cs → (answer_by m cs set tag).number ≡ 0
named_some m cs set tag x h =
    numbers-by m cs set tag (λ (n : ℕ). (n ≡ 12 → cs ≡ []) → n ≡ 0)
    (λ _. refl)
    (λ none. absurd (mathlib.Core.List.Memᴰ.not-nil (subst (λ (l : List Entry). Memᴰ x l) (none refl) h)))
    (none-by m cs set tag).0

-- TWO TABLES: the second has some entries of the first, and all that have another address than a
module _ (s : Settings) (r : SettingsRight s) (t u : Table) (w : WellFormed t) (v : WellFormed u) (owner : u.esi ≡ t.esi) (a : List ℕ)
    (fewer : (x : Entry) → Memᴰ x u.entries → Memᴰ x t.entries)
    (stays : (x : Entry) → Memᴰ x t.entries → (x.address ≡ a → ⊥) → Memᴰ x u.entries)
    (agreed : (in_use_with s t.entries).algorithm ≡ 0 → ⊥) (q : Query) (tag : ℕ)
    (ready others : List (List ℕ)) (short : length ready ≤ 64 → length others ≤ 64)
    (alike : (x : Entry) → Memᴰ x u.entries → on_list others x.address ≡ on_list ready x.address) where
  abbrev agreement : InUse
  agreement = in_use_with s t.entries

  abbrev method : Method
  method = method_of s q t.esi t.entries tag

  abbrev answer : Answer
  answer = answer_by method (candidates agreement.ac_df ready t.entries) (candidate_set agreement.ac_df ready t.entries) tag

  abbrev after : InUse → List ℕ → Answer
  after x i = answer_by (method_for s q x.algorithm tag i) (candidates x.ac_df others u.entries) (candidate_set x.ac_df others u.entries) tag

  still : {x : Entry} → Memᴰ x (candidates agreement.ac_df others u.entries) → Memᴰ x (candidates agreement.ac_df ready t.entries)
  still {x} m =
      let c = candidate-of agreement.ac_df others u.entries m in
      candidate-in agreement.ac_df ready t.entries (fewer x c.0) (sym (eligible-alike agreement.ac_df ready others x (alike x c.0)) ∙ c.1)

  -- the two answers by the method, where the one that is named stays
  module _ (h : answer.number ≡ 0) (f : Forwarder method (candidates agreement.ac_df ready t.entries) tag answer) (m : Memᴰ f.entry u.entries) where
    same-named : SameForwarder answer (after agreement t.esi)
    same-named =
        let cs = candidates agreement.ac_df others u.entries in
        let set = candidate_set agreement.ac_df others u.entries in
        let x = f.entry in
        let c = candidate-of agreement.ac_df ready t.entries f.candidate in
        let k : Memᴰ x cs = candidate-in agreement.ac_df others u.entries m (eligible-alike agreement.ac_df ready others x (alike x m) ∙ c.1) in
        let z = named_some method cs set tag x k in
        let g = forwarder-by u v agreement.ac_df others method tag z in
        let some = method-some s r q agreement.algorithm tag t.esi agreed in
        let e : x ≡ g.entry = g.only some x k (λ y n. f.top some y (still n)) in
        record {
          number = z;
          family = g.family ∙ ap (λ (y : Entry). family_of y.address) (sym e) ∙ sym f.family;
          address = g.address ∙ ap (λ (y : Entry). address_words y.address) (sym e) ∙ sym f.address;
          algorithm = told-by method cs set tag z ∙ sym (told-by method (candidates agreement.ac_df ready t.entries) (candidate_set agreement.ac_df ready t.entries) tag h);
        }

  abbrev before : Answer
  before = elect_with s q t.esi t.entries tag ready

  pub same-elected : before.number ≡ 0 → (Names before a → ⊥) → SameForwarder before (elect_with s q u.esi u.entries tag others)
  same-elected h n =
      let p = checks-passed s q t.esi t.entries tag ready h in
      let first : before ≡ answer = passes s q t.esi t.entries tag ready p.0 p.1 p.2 in
      let z : answer.number ≡ 0 = ap (λ (x : Answer). x.number) (sym first) ∙ h in
      let f : Forwarder method (candidates agreement.ac_df ready t.entries) tag answer = forwarder-by t w agreement.ac_df ready method tag z in
      let c = candidate-of agreement.ac_df ready t.entries f.candidate in
      let other : f.entry.address ≡ a → ⊥ =
      λ e. n (h, ap (λ (x : Answer). x.family) first ∙ f.family ∙ ap family_of e, ap (λ (x : Answer). x.address) first ∙ f.address ∙ ap address_words e) in
      let m = stays f.entry c.0 other in
      let second : elect_with s q u.esi u.entries tag others ≡ after agreement t.esi =
      passes s q u.esi u.entries tag others p.0 (short p.1) p.2
      ∙ ap (λ (x : InUse). after x u.esi) (in-use-fewer s t.entries u.entries agreed fewer f.entry m)
      ∙ ap (after agreement) owner in
      subst (λ (x : Answer). SameForwarder x (elect_with s q u.esi u.entries tag others)) (sym first)
      (subst (λ (x : Answer). SameForwarder answer x) (sym second) (same-named z f m))
