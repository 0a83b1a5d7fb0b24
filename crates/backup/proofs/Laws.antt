-- Laws of the second in line: to take a place out of a set is to remove an entry, the case of the answer that each return is, and who is named. Assumes nothing.
use Prim.Native.Nat.{ℕ, zero, suc, ◌+◌, ◌-◌, ◌*◌, ◌/◌, ◌%◌, ◌^◌, ◌≤◌, ◌<◌}
use native.Mathlib.Nat.{le_of_suc-le-suc, not-suc-le-zero, two-pow-succ}
use native.Mathlib.Omega.{arith}
use mathlib.Core.Path.{◌≡◌, refl, ap, ◌∙◌, sym, subst}
use mathlib.Core.Bool.{Bool, true, false, cond}
use mathlib.Core.Logic.{inl, inr}
use Rattle.std.proofs.Common.{Err}
use mathlib.Core.List.{List, [], ◌∷◌, Memᴰ}
use lib.ListN.{length, get_or, set, length-map, length-set}
use lib.Dec.{ltb, eqb}
use lib.Arith.{lt-one}
use borrow.Author.Tests.{lt-ltb, le-ltb, ltb-false, eq-eqb, ne_eqb, eqb-true, eqb-false}
use Rattle.lists.proofs.Bools.{cond-by, true-false}
use Rattle.keyed.specs.Keyed.{Rising, Distinct, has, remove}
use Rattle.keyed.proofs.Keyed.{rising-at, rising-mem}
use Rattle.keyed.proofs.Order.{remove-here, remove-there, removed-of, removed-in, length-remove, has-mem, rising-distinct}
use Rattle.keyed.proofs.Journal.{has-removed, distinct_remove}
use Rattle.address.specs.Address.{family_of, address_words}
use Rattle.layout.specs.Table.{Entry, entry_key, no_entry, Table, WellFormed}
use Rattle.places.specs.Places.{places, set_of, picked, without_place}
use Rattle.places.proofs.Laws.{places-none}
use Rattle.places.proofs.Flags.{set_of-lt, picked-places, without_place-set}
use Rattle.choice.proofs.Criteria.{unique-distinct}
use Rattle.tags.specs.Tags.{reserved_tag}
use Rattle.settings.specs.Settings.{Settings, SettingsRight}
use Rattle.agreement.specs.Agreement.{in_use_with}
use Rattle.agreement.specs.declared.InUse.{InUse}
use Rattle.ready.specs.Ready.{candidates, candidate_set}
use Rattle.winner.specs.Winner.{elected, entries_at}
use Rattle.answers.specs.Answers.{Method, by_tag}
use Rattle.answers.specs.Steps.{ElectedAt}
use Rattle.answers.proofs.Laws.{elected-in, elected-top, by-places, rising}
use Rattle.election.specs.Queries.{plain, plain_algorithm, method_for, method_of, candidates_of}
use Rattle.election.proofs.Laws.{plain-method, plain-some}
use Rattle.backup.specs.Backup.{Backup, refused_backup, named_backup, without_forwarder, backup_by, backup_with, SecondInLine}
use Rattle.backup.specs.Steps.{SecondAt, Usable}
use Rattle.refusals.specs.Numbers.{refusal_number}
use Rattle.refusals.specs.declared.Refusal.{Refusal}

module _ {A : Type 0} where
  -- a member of a list is its first, or one of the others
  first-or : {P : Type 0} {x y : A} {l : List A} → (x ≡ y → P) → (Memᴰ x l → P) → Memᴰ x (y ∷ l) → P
  first-or f g (mathlib.Core.List.Memᴰ.head e) = f e
  first-or f g (mathlib.Core.List.Memᴰ.tail m) = g m

  picked-mem : (bs : List Bool) (l : List A) {x : A} → Memᴰ x (picked bs l) → Memᴰ x l
  unfolding picked
  picked-mem [] l m = absurd (mathlib.Core.List.Memᴰ.not-nil m)
  picked-mem (b ∷ bs) [] m = absurd (mathlib.Core.List.Memᴰ.not-nil m)
  picked-mem (true ∷ bs) (y ∷ l) m = first-or (λ e. mathlib.Core.List.Memᴰ.head e) (λ n. mathlib.Core.List.Memᴰ.tail (picked-mem bs l n)) m
  picked-mem (false ∷ bs) (y ∷ l) m = mathlib.Core.List.Memᴰ.tail (picked-mem bs l m)

  module _ (key : A → ℕ) where
    -- WHO IS LEFT when the one of a key is removed
    module _ (k : ℕ) where
      pub left_other : (l : List A) {x : A} → Distinct key l → Memᴰ x (remove key k l) → key x ≡ k → ⊥
      left_other l d m e = true-false (has-mem key m) (ap (λ (j : ℕ). has key j (remove key k l)) e ∙ has-removed key k l d)

    -- A PLACE WHOSE FLAG IS CLEARED, where keys rise: its flag was set if its element was picked, and just this element is picked no more
    flag-there : (bs : List Bool) (l : List A) (n i : ℕ) (d : A) → Rising key n l → i < length l → Memᴰ (get_or l i d) (picked bs l) → get_or bs i false ≡ true
    unfolding picked Rising
    flag-there [] l n i d r h m = absurd (mathlib.Core.List.Memᴰ.not-nil m)
    flag-there (b ∷ bs) [] n i d r h m = absurd (not-suc-le-zero h)
    flag-there (true ∷ bs) (x ∷ l) n zero d r h m = refl
    flag-there (false ∷ bs) (x ∷ l) n zero d r h m = absurd (omega (arith, rising-mem key l (suc (key x)) r.1 (picked-mem bs l m)))
    flag-there (true ∷ bs) (x ∷ l) n (suc i) d r h m =
        first-or
        (λ e. absurd (omega (arith, ap key e, rising-at key l (suc (key x)) i d r.1 (le_of_suc-le-suc h))))
        (flag-there bs l (suc (key x)) i d r.1 (le_of_suc-le-suc h)) m
    flag-there (false ∷ bs) (x ∷ l) n (suc i) d r h m = flag-there bs l (suc (key x)) i d r.1 (le_of_suc-le-suc h) m

    picked-without : (bs : List Bool) (l : List A) (n i : ℕ) (d : A) → Rising key n l → i < length l → get_or bs i false ≡ true
        → picked (set bs i false) l ≡ remove key (key (get_or l i d)) (picked bs l)
    unfolding picked Rising
    picked-without [] l n i d r h f = absurd (true-false f refl)
    picked-without (b ∷ bs) [] n i d r h f = absurd (not-suc-le-zero h)
    picked-without (true ∷ bs) (x ∷ l) n zero d r h f = sym (remove-here key (key x) x (picked bs l) refl)
    picked-without (false ∷ bs) (x ∷ l) n zero d r h f = absurd (true-false f refl)
    picked-without (true ∷ bs) (x ∷ l) n (suc i) d r h f =
        let above = rising-at key l (suc (key x)) i d r.1 (le_of_suc-le-suc h) in
        ap (x ∷◌) (picked-without bs l (suc (key x)) i d r.1 (le_of_suc-le-suc h) f)
        ∙ sym (remove-there key (key (get_or l i d)) x (picked bs l) (λ e. omega (arith, e, above)))
    picked-without (false ∷ bs) (x ∷ l) n (suc i) d r h f = picked-without bs l (suc (key x)) i d r.1 (le_of_suc-le-suc h) f

-- A SET OF PLACES below n is that of n flags
flags_of : (n s : ℕ) → s < 2 ^ n → (bs : List Bool) × ((length bs ≡ n) × (s ≡ set_of bs))
unfolding set_of
flags_of zero s h = ([], (refl, lt-one h))
flags_of (suc n) s h =
    let (bs, (l, e)) = flags_of n (s / 2) (omega (arith, two-pow-succ n, h)) in
    (eqb (s % 2) 1 ∷ bs, (ap suc l, low (eqb (s % 2) 1) refl (set_of bs) e))
  where
    low : (b : Bool) → eqb (s % 2) 1 ≡ b → (k : ℕ) → s / 2 ≡ k → s ≡ cond b 1 0 + 2 * k
    low true t k e = omega (arith, eqb-true (s % 2) 1 t, e)
    low false t k e = let n = eqb-false (s % 2) 1 t in omega (arith, n, e)

length_at : (es : List Entry) (s : ℕ) → length (entries_at es (places s)) ≡ length (places s)
length_at es s = length-map (places s) (λ (i : ℕ). get_or es i no_entry)

pub two-some : (s : ℕ) → 1 < length (places s) → s ≡ 0 → ⊥
two-some s h z = omega (arith, h, ap (λ (x : ℕ). length (places x)) z, ap length places-none)

-- THE OTHERS, where f is the place that is elected of two or more
module _ (es : List Entry) (short : length es ≤ 64) (rise : Rising entry_key 1 es) (m : Method) (s tag : ℕ) (two : 1 < length (places s)) (under : s < 2 ^ length es)
    (f : ℕ) (g : ElectedAt es m.algorithm m.digest s tag f) (r : ℕ) (e : r ≡ without_place s f) where
  abbrev all : List Entry
  all = entries_at es (places s)

  elected-there : Memᴰ (elected m.algorithm tag m.digest all) all
  elected-there = elected-in m.algorithm tag m.digest all (λ z. omega (arith, z, length_at es s, two))

  others : (r < 2 ^ length es) × (entries_at es (places r) ≡ without_forwarder m all tag)
  others =
      let (bs, (n, q)) = flags_of (length es) s under in
      let cs : List Bool = set bs f false in
      let p : all ≡ picked bs es = ap (λ (x : ℕ). entries_at es (places x)) q ∙ picked-places bs es no_entry (sym n) (omega (arith, n, short)) in
      let there : Memᴰ (get_or es f no_entry) (picked bs es) =
      subst (λ (l : List Entry). Memᴰ (get_or es f no_entry) l) p (subst (λ (x : Entry). Memᴰ x all) (sym g.1) elected-there) in
      let flag = flag-there entry_key bs es 1 f no_entry rise g.0 there in
      let is : r ≡ set_of cs = e ∙ ap (λ (x : ℕ). without_place x f) q ∙ without_place-set bs f (omega (arith, g.0, short)) flag in
      let long : length cs ≡ length es = length-set bs f false ∙ n in (
        subst (λ (x : ℕ). x < 2 ^ length es) (sym is) (subst (λ (k : ℕ). set_of cs < 2 ^ k) long (set_of-lt cs)),
        ap (λ (x : ℕ). entries_at es (places x)) is
            ∙ picked-places cs es no_entry (sym long) (omega (arith, long, short))
            ∙ picked-without entry_key bs es 1 f no_entry rise g.0 flag
            ∙ ap (remove entry_key (entry_key (get_or es f no_entry))) (sym p)
            ∙ ap (λ (x : Entry). remove entry_key (entry_key x) all) g.1,
      )

  pub rest_under : r < 2 ^ length es
  rest_under = others.0

  -- they are one fewer, and some
  pub rest-count : (n : ℕ) → n ≡ length (places s) → n - 1 ≡ length (places r)
  rest-count n q =
      let fewer = length-remove entry_key (entry_key (elected m.algorithm tag m.digest all)) all (has-mem entry_key elected-there) in
      omega (arith, q, ap length others.1, fewer, length_at es s, length_at es r, two)

  pub rest_some : r ≡ 0 → ⊥
  rest_some z = omega (arith, rest-count _ refl, ap (λ (x : ℕ). length (places x)) z, ap length places-none, two)

  pub second_at : (at : ℕ) → ElectedAt es m.algorithm m.digest r tag at → SecondAt es m s tag at
  second_at at h = (h.0, h.1 ∙ ap (elected m.algorithm tag m.digest) others.1)

-- THE ANSWER for a set
pub named-backup : (x : List ℕ) (f : ℕ) (w : List ℕ) → f ≡ family_of x → w ≡ address_words x → record { number = 0; family = f; address = w } ≡ named_backup x
named-backup x f w p q = rw (p, q)

module _ (es : List Entry) (m : Method) (s tag : ℕ) where
  pub by-12 : length (places s) < 2 → refused_backup 12 ≡ backup_by m (entries_at es (places s)) tag
  unfolding backup_by
  by-12 h = sym (rw (length_at es s, lt-ltb (length (places s)) 2 h))

  pub by-second : (at : ℕ) → 2 ≤ length (places s) → SecondAt es m s tag at → named_backup (get_or es at no_entry).address ≡ backup_by m (entries_at es (places s)) tag
  unfolding backup_by
  by-second at h g = ap (λ (x : Entry). named_backup x.address) g.1 ∙ sym (rw (length_at es s, le-ltb (length (places s)) 2 h))

-- the answer for fewer than two, and for two and more
pub ruleset named_or_not = (by-12, by-second)

by-not-11 : (m : Method) (cs : List Entry) (tag : ℕ) → (backup_by m cs tag).number ≡ 11 → ⊥
unfolding backup_by
by-not-11 m cs tag = cond-by (λ (r : Backup). r.number ≡ 11 → ⊥) (ltb (length cs) 2) (λ _ h. omega (arith, h)) (λ _ h. omega (arith, h))

-- WHO IS NAMED, where no address stands twice
module _ (m : Method) (cs : List Entry) (tag : ℕ) (d : Distinct entry_key cs) (z : m.algorithm ≡ 0 → ⊥) where
  abbrev rest : List Entry
  rest = without_forwarder m cs tag

  abbrev key : ℕ
  key = entry_key (elected m.algorithm tag m.digest cs)

  abbrev backed : Entry
  backed = elected m.algorithm tag m.digest rest

  pub rest-there : 2 ≤ length cs → length rest ≡ 0 → ⊥
  rest-there h n =
      let fewer = length-remove entry_key key cs (has-mem entry_key (elected-in m.algorithm tag m.digest cs (λ q. omega (arith, q, h)))) in
      omega (arith, fewer, n, h)

  second-named : 2 ≤ length cs → SecondInLine m cs tag (named_backup backed.address)
  second-named h =
      let there : Memᴰ backed rest = elected-in m.algorithm tag m.digest rest (rest-there h) in
      record {
        entry = backed;
        family = refl;
        address = refl;
        candidate = removed-of entry_key key cs there;
        other = left_other entry_key key cs d there;
        top = λ x n k. elected-top m.algorithm tag m.digest rest (unique-distinct entry_key rest (distinct_remove entry_key key cs d)) z x (removed-in entry_key key k n);
      }

  pub second-by : (backup_by m cs tag).number ≡ 0 → SecondInLine m cs tag (backup_by m cs tag)
  unfolding backup_by
  second-by = go (ltb (length cs) 2) refl
    where
      go : (b : Bool) → ltb (length cs) 2 ≡ b → (cond b (refused_backup 12) (named_backup backed.address)).number ≡ 0 → SecondInLine m cs tag (cond b (refused_backup 12) (named_backup backed.address))
      go true e h = absurd (omega (arith, h))
      go false e h = second-named (ltb-false (length cs) 2 e)

-- THE WHOLE ANSWER
module _ (s : Settings) (v : SettingsRight s) (t : Table) (w : WellFormed t) (tag : ℕ) (ready : List (List ℕ)) where
  abbrev whole : Backup
  whole = backup_with s t.esi t.entries tag ready

  abbrev method : Method
  method = method_of s plain t.esi t.entries tag

  abbrev among : List Entry
  among = candidates_of s t.entries ready

  -- the answer, by the checks that come before it
  abbrev checked : Bool → Bool → Bool → Bool → Backup
  checked a b c d =
      cond a (refused_backup 10) (cond b (refused_backup 11) (cond c (refused_backup 12) (cond d (refused_backup 15) (backup_by method among tag))))

  abbrev Second : Backup → Type 0
  Second r = r.number ≡ 0 → SecondInLine method among tag r

  method-some : ((in_use_with s t.entries).algorithm ≡ 0 → ⊥) → method.algorithm ≡ 0 → ⊥
  method-some n z =
      let a = (in_use_with s t.entries).algorithm in
      plain-some s v tag a n (sym (ap (λ (x : Method). x.algorithm) (plain-method s a tag t.esi)) ∙ z)

  second-whole : Second whole
  unfolding backup_with
  second-whole = go (reserved_tag tag) (ltb 64 (length ready)) (eqb (length t.entries) 0) (eqb (in_use_with s t.entries).algorithm 0) refl
    where
      go : (a b c d : Bool) → eqb (in_use_with s t.entries).algorithm 0 ≡ d → Second (checked a b c d)
      go true b c d e h = absurd (omega (arith, h))
      go false true c d e h = absurd (omega (arith, h))
      go false false true d e h = absurd (omega (arith, h))
      go false false false true e h = absurd (omega (arith, h))
      go false false false false e h =
          second-by method among tag (rising-distinct entry_key among 0 (rising t w (in_use_with s t.entries).ac_df ready)) (method-some (eqb-false (in_use_with s t.entries).algorithm 0 e)) h

  abbrev pub Backs : Backup → Type 0
  Backs r = (r ≡ whole) × Second r

  backs : {r : Backup} → r ≡ whole → Backs r
  backs p = (p, subst Second (sym p) second-whole)

  -- 11 is answered for a list over 64 only
  pub never-long : length ready ≤ 64 → whole.number ≡ 11 → ⊥
  unfolding backup_with
  never-long k = rw (le-ltb 64 (length ready) k) (go (reserved_tag tag) (eqb (length t.entries) 0) (eqb (in_use_with s t.entries).algorithm 0))
    where
      go : (a c d : Bool) → (checked a false c d).number ≡ 11 → ⊥
      go true c d h = omega (arith, h)
      go false true d h = omega (arith, h)
      go false false true h = omega (arith, h)
      go false false false h = by-not-11 method among tag h

  pub backs-10 : reserved_tag tag ≡ true → Backs (refused_backup 10)
  unfolding backup_with
  backs-10 h = backs (sym (rw h))

  module _ (h : reserved_tag tag ≡ false) where
    pub backs-11 : 64 < length ready → Backs (refused_backup 11)
    unfolding backup_with
    backs-11 k = backs (sym (rw (h, lt-ltb 64 (length ready) k)))

    module _ (k : length ready ≤ 64) where
      pub backs-12 : length t.entries ≡ 0 → Backs (refused_backup 12)
      unfolding backup_with
      backs-12 n = backs (sym (rw (h, le-ltb 64 (length ready) k, eq-eqb (length t.entries) 0 n)))

      -- where u was found to be in use
      module _ (n : length t.entries ≡ 0 → ⊥) (u : InUse) (e : u ≡ in_use_with s t.entries) where
        pub backs-15 : u.algorithm ≡ 0 → Backs (refused_backup 15)
        unfolding backup_with
        backs-15 z =
            let a : (in_use_with s t.entries).algorithm ≡ 0 = ap (λ (x : InUse). x.algorithm) (sym e) ∙ z in
            backs (sym (rw (h, le-ltb 64 (length ready) k, ne_eqb (length t.entries) 0 n, eq-eqb (in_use_with s t.entries).algorithm 0 a)))

        -- and the candidate set was found to be c
        pub backs-by : {r : Backup} (c : ℕ) → (u.algorithm ≡ 0 → ⊥) → c ≡ candidate_set u.ac_df ready t.entries
            → r ≡ backup_by (by_tag (plain_algorithm s tag u.algorithm) tag t.esi) (entries_at t.entries (places c)) tag → Backs r
        unfolding backup_with
        backs-by c z f p =
            let a : (in_use_with s t.entries).algorithm ≡ 0 → ⊥ = λ y. z (ap (λ (x : InUse). x.algorithm) e ∙ y) in
            let q : entries_at t.entries (places c) ≡ candidates u.ac_df ready t.entries =
            ap (λ (x : ℕ). entries_at t.entries (places x)) f ∙ sym (by-places t w u.ac_df ready) in
            let o : backup_by (by_tag (plain_algorithm s tag u.algorithm) tag t.esi) (entries_at t.entries (places c)) tag ≡ backup_by method among tag =
            ap (λ (l : List Entry). backup_by (by_tag (plain_algorithm s tag u.algorithm) tag t.esi) l tag) q
            ∙ ap (λ (x : Method). backup_by x (candidates u.ac_df ready t.entries) tag) (sym (plain-method s u.algorithm tag t.esi))
            ∙ ap (λ (x : InUse). backup_by (method_for s plain x.algorithm tag t.esi) (candidates x.ac_df ready t.entries) tag) e in
            backs (p ∙ o ∙ sym (rw (h, le-ltb 64 (length ready) k, ne_eqb (length t.entries) 0 n, ne_eqb (in_use_with s t.entries).algorithm 0 a)))

      -- what `usable` refuses
      pub backs-refused : (r : Refusal) → Usable s t.entries (Err r) → Backs (refused_backup (refusal_number r))
      backs-refused r (inl u) = subst (λ (n : ℕ). Backs (refused_backup n)) (sym u.1) (backs-12 u.0)
      backs-refused r (inr u) = subst (λ (n : ℕ). Backs (refused_backup n)) (sym u.2) (backs-15 u.0 (in_use_with s t.entries) refl u.1)
