-- Laws of the election: the checks in their order, and what an answer says, for every query. Assumes nothing.
use Prim.Native.Nat.{ℕ, ◌/◌, ◌≤◌, ◌<◌}
use native.Mathlib.Omega.{arith}
use mathlib.Core.Path.{◌≡◌, refl, ap, ◌∙◌, sym, subst}
use mathlib.Core.Bool.{Bool, true, false, cond}
use mathlib.Core.List.{List, []}
use mathlib.Core.Logic.{⊎_elim}
use lib.ListN.{length, get_or}
use lib.Dec.{ltb}
use lib.Count.{ones}
use borrow.Author.Tests.{lt-ltb, le-ltb, ltb-true}
use Rattle.lists.proofs.Bools.{cond-by}
use Rattle.lists.proofs.Numbers.{either}
use Rattle.layout.specs.Table.{Entry, no_entry, Table, WellFormed}
use Rattle.places.specs.Places.{places}
use Rattle.tags.specs.Tags.{reserved_tag}
use Rattle.hrw.specs.Weight.{digest_of, flow_digest_of}
use Rattle.ranges.proofs.Laws.{algorithm-none, algorithm-named}
use Rattle.settings.specs.Settings.{Settings, SettingsRight, nothing_set}
use Rattle.agreement.specs.Agreement.{in_use, in_use_with}
use Rattle.agreement.specs.declared.InUse.{InUse}
use Rattle.agreement.proofs.Laws.{in-use-none, in-use-four}
use Rattle.ready.specs.Ready.{candidates, candidate_set, ready_in}
use Rattle.ready.proofs.Laws.{length-ready}
use Rattle.answers.specs.Answers.{Answer, refused_answer, named_answer, Method, by_tag, answer_by, Forwarder}
use Rattle.answers.specs.Steps.{digest_under, ElectedAt}
use Rattle.answers.proofs.Laws.{elected-by, elected-at, ones_none, none-by, numbers-by, Answers, answers-12, answers-named, forwarder-by}
use Rattle.election.specs.Election.{elect_of}
use Rattle.election.specs.Queries.{Query, plain, right_lengths, flow_octets, number_for, agreed_on, plain_algorithm, method_for, method_of, candidates_of, elect_with, NoneNamed}
use Rattle.election.specs.Steps.{Elected}

-- THE CHECKS of a query q, where s is set
module _ (s : Settings) (q : Query) (i : List ℕ) (l : List Entry) (tag : ℕ) (ready : List (List ℕ)) where
  abbrev cs : List Entry
  cs = candidates_of s l ready

  abbrev set : ℕ
  set = candidate_set (in_use_with s l).ac_df ready l

  abbrev answer : Answer
  answer = answer_by (method_of s q i l tag) cs set tag

  abbrev checked : Bool → Bool → Bool → Answer
  checked a b c = cond a (refused_answer 10) (cond b (refused_answer 11) (cond c answer (refused_answer 18)))

  -- none is named exactly if no candidate is eligible
  pub none_named : NoneNamed s q l tag ready (elect_with s q i l tag ready)
  unfolding elect_with
  none_named = go (reserved_tag tag) refl (ltb 64 (length ready)) refl (right_lengths q) refl
    where
      go : (a : Bool) → reserved_tag tag ≡ a → (b : Bool) → ltb 64 (length ready) ≡ b → (c : Bool) → right_lengths q ≡ c
          → ((checked a b c).number ≡ 12 → cs ≡ [])
          × (reserved_tag tag ≡ false → length ready ≤ 64 → right_lengths q ≡ true → cs ≡ [] → checked a b c ≡ refused_answer 12)
      go true e b f c g = (λ h. absurd (omega (arith, h)), λ x k r n. let w : ◌≡◌ {A = ℕ} 0 1 = cc in absurd (omega arith))
      go false e true f c g = (λ h. absurd (omega (arith, h)), λ x k r n. absurd (omega (arith, ltb-true 64 (length ready) f, k)))
      go false e false f false g = (λ h. absurd (omega (arith, h)), λ x k r n. let w : ◌≡◌ {A = ℕ} 0 1 = cc in absurd (omega arith))
      go false e false f true g = let n = none-by (method_of s q i l tag) cs set tag in (n.0, λ x k r. n.1)

  -- where they are passed, the answer is that of the candidates
  pub passes : reserved_tag tag ≡ false → length ready ≤ 64 → right_lengths q ≡ true → elect_with s q i l tag ready ≡ answer
  unfolding elect_with
  passes h k r = rw (h, le-ltb 64 (length ready) k, r)

  passed : (elect_with s q i l tag ready).number ≡ 0 → elect_with s q i l tag ready ≡ answer
  unfolding elect_with
  passed = go (reserved_tag tag) (ltb 64 (length ready)) (right_lengths q)
    where
      go : (a b c : Bool) → (checked a b c).number ≡ 0 → checked a b c ≡ answer
      go true b c h = absurd (omega (arith, h))
      go false true c h = absurd (omega (arith, h))
      go false false false h = absurd (omega (arith, h))
      go false false true h = refl

  -- 11 is answered for a list over 64 only
  pub never-long : length ready ≤ 64 → (elect_with s q i l tag ready).number ≡ 11 → ⊥
  unfolding elect_with
  never-long k = rw (le-ltb 64 (length ready) k) (go (reserved_tag tag) (right_lengths q))
    where
      go : (a c : Bool) → (checked a false c).number ≡ 11 → ⊥
      go true c h = omega (arith, h)
      go false false h = omega (arith, h)
      go false true h = numbers-by (method_of s q i l tag) cs set tag (λ (n : ℕ). n ≡ 11 → ⊥) (λ z. omega (arith, z)) (λ z. omega (arith, z)) h

  -- the answer, and N by the ones of the candidate set
  abbrev pub Elects : Answer → Type 0
  Elects r = (r ≡ elect_with s q i l tag ready) × (r.n ≡ ones r.candidates)

  pub elects-10 : reserved_tag tag ≡ true → Elects (refused_answer 10)
  unfolding elect_with
  elects-10 h = (rw h, ones_none)

  pub elects-11 : reserved_tag tag ≡ false → 64 < length ready → Elects (refused_answer 11)
  unfolding elect_with
  elects-11 h k = (rw (h, lt-ltb _ _ k), ones_none)

  pub elects-18 : reserved_tag tag ≡ false → length ready ≤ 64 → right_lengths q ≡ false → Elects (refused_answer 18)
  unfolding elect_with
  elects-18 h k r = (rw (h, le-ltb 64 (length ready) k, r), ones_none)

-- THE METHOD of a query whose number n is agreed on, and of another
method-flow : (s : Settings) (q : Query) (a tag : ℕ) (i : List ℕ) (n : ℕ) (o : List ℕ) → number_for s q ≡ n → flow_octets q ≡ o → agreed_on a n ≡ true
    → method_for s q a tag i ≡ record { algorithm = 1; digest = flow_digest_of o tag i; told = a }
unfolding method_for
method-flow s q a tag i n o p y b = rw (p, b, y)

method-tag : (s : Settings) (q : Query) (a tag : ℕ) (i : List ℕ) (n : ℕ) → number_for s q ≡ n → agreed_on a n ≡ false → method_for s q a tag i ≡ by_tag (plain_algorithm s tag a) tag i
unfolding method_for
method-tag s q a tag i n p b = rw (p, b)

-- THE PROMISES of the election upon a table, from its answer
module _ (s : Settings) (q : Query) (t : Table) (w : WellFormed t) (tag : ℕ) (ready : List (List ℕ)) where
  abbrev whole : Answer
  whole = elect_with s q t.esi t.entries tag ready

  abbrev Names : Answer → Type 0
  Names r = r.number ≡ 0 → Forwarder (method_of s q t.esi t.entries tag) (candidates_of s t.entries ready) tag r

  pub chosen : Names whole
  chosen h =
      let e = passed s q t.esi t.entries tag ready h in
      subst (λ (r : Answer). Forwarder (method_of s q t.esi t.entries tag) (candidates_of s t.entries ready) tag r) (sym e)
      (forwarder-by t w (in_use_with s t.entries).ac_df ready (method_of s q t.esi t.entries tag) tag (ap (λ (r : Answer). r.number) (sym e) ∙ h))

  pub promised : {r : Answer} → Elects s q t.esi t.entries tag ready r → Elected s q t.esi t.entries tag ready r
  promised (p, n) = (
    p,
    n,
    subst (λ (r : Answer). NoneNamed s q t.entries tag ready r) (sym p) (none_named s q t.esi t.entries tag ready),
    subst Names (sym p) chosen,
  )

  -- where u was found to be in use, and the checks are passed
  module _ (u : InUse) (e : u ≡ in_use_with s t.entries) (h : reserved_tag tag ≡ false) (k : length ready ≤ 64) (g : right_lengths q ≡ true) where
    elects-by : {r : Answer} (m : Method) → method_for s q u.algorithm tag t.esi ≡ m → Answers t w u.ac_df ready m tag r → Elected s q t.esi t.entries tag ready r
    elects-by {r} m f a =
        let b : Answers t w (in_use_with s t.entries).ac_df ready (method_of s q t.esi t.entries tag) tag r =
        subst (λ (v : InUse). Answers t w v.ac_df ready (method_for s q v.algorithm tag t.esi) tag r) e
        (subst (λ (x : Method). Answers t w u.ac_df ready x tag r) (sym f) a) in
        promised (b.0 ∙ sym (passes s q t.esi t.entries tag ready h k g), b.1)

    -- and the candidate set was found to be c
    module _ (c : ℕ) (f : c ≡ candidate_set u.ac_df ready t.entries) where
      pub elects-12 : c ≡ 0 → Elected s q t.esi t.entries tag ready (refused_answer 12)
      elects-12 z =
          let m = method_for s q u.algorithm tag t.esi in
          elects-by m refl (answers-12 t w u.ac_df ready m tag c f z)

      module _ {r : Answer} (at : ℕ) (z : c ≡ 0 → ⊥) where
        elects-flow : (n : ℕ) (o : List ℕ) → number_for s q ≡ n → flow_octets q ≡ o → agreed_on u.algorithm n ≡ true
            → ElectedAt t.entries 1 (flow_digest_of o tag t.esi) c tag at
            → (r ≡ named_answer (get_or t.entries at no_entry).address u.algorithm (length (places c)) c) × (r.n ≡ ones r.candidates)
            → Elected s q t.esi t.entries tag ready r
        elects-flow n o p y b x v =
            let m : Method = record { algorithm = 1; digest = flow_digest_of o tag t.esi; told = u.algorithm } in
            elects-by m (method-flow s q u.algorithm tag t.esi n o p y b) (answers-named t w u.ac_df ready m tag c f at z x v)

        pub elects-tag : (n a : ℕ) → number_for s q ≡ n → agreed_on u.algorithm n ≡ false → a ≡ plain_algorithm s tag u.algorithm
            → ElectedAt t.entries a (digest_of tag t.esi) c tag at
            → (r ≡ named_answer (get_or t.entries at no_entry).address a (length (places c)) c) × (r.n ≡ ones r.candidates)
            → Elected s q t.esi t.entries tag ready r
        elects-tag n a p b y x v =
            elects-by (by_tag a tag t.esi) (method-tag s q u.algorithm tag t.esi n p b ∙ ap (λ (z : ℕ). by_tag z tag t.esi) (sym y))
            (answers-named t w u.ac_df ready (by_tag a tag t.esi) tag c f at z x v)

        -- by either, as `method` tells
        pub elects-means : (n : ℕ) (o : List ℕ) (a d told : ℕ) → number_for s q ≡ n → flow_octets q ≡ o
            → (agreed_on u.algorithm n ≡ true → (a ≡ 1) × (d ≡ flow_digest_of o tag t.esi) × (told ≡ u.algorithm))
            → (agreed_on u.algorithm n ≡ false → (a ≡ plain_algorithm s tag u.algorithm) × (d ≡ digest_under a [] tag t.esi) × (told ≡ a))
            → ElectedAt t.entries a d c tag at
            → (r ≡ named_answer (get_or t.entries at no_entry).address told (length (places c)) c) × (r.n ≡ ones r.candidates)
            → Elected s q t.esi t.entries tag ready r
        elects-means n o a d told p y by-flow by-tag x v = go (agreed_on u.algorithm n) refl
          where
            go : (b : Bool) → agreed_on u.algorithm n ≡ b → Elected s q t.esi t.entries tag ready r
            go true e =
                let m = by-flow e in
                elects-flow n o p y e (rw m.0 at (elected-by t.entries a c tag d _ at m.1 x)) (rw m.2 at v)
            go false e =
                let m = by-tag e in
                elects-tag n a p e m.0 (elected-at t.esi t.entries a c tag d at m.1 x) (rw m.2 at v)

-- THE ALGORITHM OF A PLAIN QUERY is not 0 where the one in use is not
pub plain-some : (s : Settings) → SettingsRight s → (tag a : ℕ) → (a ≡ 0 → ⊥) → plain_algorithm s tag a ≡ 0 → ⊥
unfolding plain_algorithm
plain-some s r tag a n =
    cond-by (λ (x : ℕ). x ≡ 0 → ⊥) (ltb a 2) (λ _. n) (λ _.
    cond-by (λ (x : ℕ). x ≡ 0 → ⊥) (ltb 3 a) (λ _ z. omega (arith, z)) (λ _ z.
    ⊎_elim (λ e. n (sym e ∙ z)) (λ o. ⊎_elim (λ e. omega (arith, e, z)) (λ e. omega (arith, e, z)) o) (algorithm-named s.ranges tag a r.ranges)))

-- DOCUMENT 01'S ELECTION is that of a plain query where none is set
pub plain-method : (s : Settings) (a tag : ℕ) (i : List ℕ) → method_for s plain a tag i ≡ by_tag (plain_algorithm s tag a) tag i
unfolding number_for agreed_on
plain-method s a tag i = method-tag s plain a tag i 0 refl refl

plain-four : (tag a : ℕ) → a < 4 → plain_algorithm nothing_set tag a ≡ a
unfolding plain_algorithm
plain-four tag a h =
    either a 2
    (λ l. rw (lt-ltb a 2 l))
    (λ g. rw (le-ltb a 2 g, le-ltb 3 a (omega arith)) (algorithm-none tag a))

pub elect-none : (i : List ℕ) (l : List Entry) (tag : ℕ) (ready : List (List ℕ)) → elect_with nothing_set plain i l tag ready ≡ elect_of i l tag ready
unfolding elect_with elect_of right_lengths
elect-none i l tag ready =
    ap (λ (u : InUse). cond (reserved_tag tag) (refused_answer 10) (cond (ltb 64 (length ready)) (refused_answer 11) (answer_by (method_for nothing_set plain u.algorithm tag i) (candidates u.ac_df ready l) (candidate_set u.ac_df ready l) tag))) (in-use-none l)
    ∙ ap (λ (m : Method). cond (reserved_tag tag) (refused_answer 10) (cond (ltb 64 (length ready)) (refused_answer 11) (answer_by m (candidates (in_use l).ac_df ready l) (candidate_set (in_use l).ac_df ready l) tag)))
    (plain-method nothing_set (in_use l).algorithm tag i ∙ ap (λ (a : ℕ). by_tag a tag i) (plain-four tag (in_use l).algorithm (in-use-four l)))

-- A LIST OVER 64, said of its words
pub elect_long : (s : Settings) (q : Query) (i : List ℕ) (l : List Entry) (tag : ℕ) (w : List ℕ) → reserved_tag tag ≡ false → 64 < length w / 5
    → elect_with s q i l tag (ready_in w) ≡ refused_answer 11
elect_long s q i l tag w h k = sym (elects-11 s q i l tag (ready_in w) h (rw (length-ready w) k)).0

pub ruleset too_long = (elect_long, length-ready)
