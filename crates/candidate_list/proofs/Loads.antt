-- What a list of records loads, record by record, and what the walk answers of it. Assumes nothing.
use Prim.Native.Nat.{ℕ, ◌+◌, ◌≤◌, ◌<◌}
use native.Mathlib.Numerals.{add-one}
use native.Mathlib.Omega.{arith}
use mathlib.Core.Path.{◌≡◌, refl, ap, ◌∙◌, sym, subst}
use mathlib.Core.Bool.{Bool, true, false, not, ◌&&◌, ◌||◌, or-true}
use mathlib.Core.List.{List, [], ◌∷◌, ◌++◌, map, Permᴰ}
use lib.ListN.{length, get_or, take, drop, take-append-drop, length-map}
use lib.Seq.{take-suc, take-length, length-take-le}
use lib.Dec.{ltb}
use Rattle.std.specs.Prelude.{Ok}
use borrow.Author.Tests.{lt-ltb, le-ltb}
use Rattle.lists.specs.Lists.{all}
use Rattle.lists.proofs.Bools.{or_right}
use Rattle.lists.proofs.Lists.{perm-length}
use Rattle.keyed.specs.Keyed.{has, insert}
use Rattle.keyed.proofs.Order.{perm-insert, has-perm, distinct-perm}
use Rattle.layout.specs.Table.{Entry, entry_key}
use Rattle.backup.specs.Backup.{Backup, refused_backup}
use Rattle.candidate_list.specs.declared.Candidate.{Candidate}
use Rattle.candidate_list.specs.Candidates.{candidate_entry, has_address, twice, records_wrong, list_wrong, backup_under}
use Rattle.candidate_list.specs.Steps.{Loadable, entries_of, unfit, TakenIn, NothingLoaded}
use Rattle.candidate_list.proofs.Orders.{records-perm, list-distinct, under-perm, Named, named}

-- b is what the records cs load, none of which is refused
pub record Loads (b : List ℕ) (cs : List Candidate) : Type 0 where
  pub valid : Loadable b
  pub right : records_wrong cs ≡ false
  pub entries : Permᴰ (entries_of b) (map candidate_entry cs)

pub loads-none : (b : List ℕ) → NothingLoaded b → Loads b []
unfolding records_wrong all twice
loads-none b n = record { valid = n.0; right = refl; entries = subst (λ (l : List Entry). Permᴰ l []) (sym n.1) mathlib.Core.List.Permᴰ.nil }

loads-perm : (b : List ℕ) {cs ds : List Candidate} → Permᴰ cs ds → Loads b cs → Loads b ds
loads-perm b h w =
    record {
      valid = w.valid;
      right = sym (records-perm h) ∙ w.right;
      entries = mathlib.Core.List.Permᴰ.trans w.entries (mathlib.Core.List.Permᴰ.map candidate_entry h);
    }

-- ONE RECORD MORE
wrong-more : (a b h t : Bool) → (not (a && b) || (h || t)) ≡ ((not b || t) || (not a || h))
wrong-more true true true true = refl
wrong-more true true true false = refl
wrong-more true true false true = refl
wrong-more true true false false = refl
wrong-more true false h t = refl
wrong-more false true h true = refl
wrong-more false true h false = refl
wrong-more false false h t = refl

records-more : (c : Candidate) (cs : List Candidate) → records_wrong (c ∷ cs) ≡ (records_wrong cs || unfit (map candidate_entry cs) c)
unfolding records_wrong all twice
records-more c cs = wrong-more (has_address c) (all has_address cs) (has entry_key (entry_key (candidate_entry c)) (map candidate_entry cs)) (twice entry_key (map candidate_entry cs))

-- a list with more records behind those that are wrong
wrong-kept : (cs ds : List Candidate) → records_wrong cs ≡ true → records_wrong (cs ++ ds) ≡ true
wrong-kept cs [] e = records-perm (mathlib.Core.List.Permᴰ.append-nil cs) ∙ e
wrong-kept cs (d ∷ ds) e =
    records-perm (mathlib.Core.List.Permᴰ.middle d cs ds) ∙ records-more d (cs ++ ds) ∙ ap (λ (b : Bool). b || unfit (map candidate_entry (cs ++ ds)) d) (wrong-kept cs ds e)

module _ (b : List ℕ) (c : Candidate) (cs : List Candidate) (w : Loads b cs) where
  unfit-same : records_wrong (c ∷ cs) ≡ unfit (entries_of b) c
  unfit-same =
      records-more c cs
      ∙ ap (λ (t : Bool). t || unfit (map candidate_entry cs) c) w.right
      ∙ ap (λ (t : Bool). not (has_address c) || t) (sym (has-perm entry_key (entry_key (candidate_entry c)) w.entries))

  module _ (x : List ℕ) (v : Loadable x) (n : unfit (entries_of b) c ≡ false) (q : entries_of x ≡ insert entry_key (candidate_entry c) (entries_of b)) where
    new : has entry_key (entry_key (candidate_entry c)) (entries_of b) ≡ false
    new = or_right (not (has_address c)) _ n

    loads-more : Loads x (c ∷ cs)
    loads-more =
        record {
          valid = v;
          right = unfit-same ∙ n;
          entries =
              subst (λ (l : List Entry). Permᴰ l (map candidate_entry (c ∷ cs))) (sym q)
              (mathlib.Core.List.Permᴰ.trans (perm-insert entry_key (candidate_entry c) (entries_of b) new) (mathlib.Core.List.Permᴰ.cons refl w.entries));
        }

-- A TURN OF THE WALK, and its end
module _ (ys : List Candidate) where
  -- what the callee requires
  pub room_for : (i : ℕ) (b : List ℕ) → length ys ≤ 64 → i < length ys → Loads b (take i ys) → Loadable b × (length (entries_of b) < 64)
  room_for i b n h w = (w.valid, omega (arith, perm-length w.entries, length-map (take i ys) candidate_entry, length-take-le i ys (omega arith), n, h))

  module _ (i : ℕ) (d : Candidate) (b : List ℕ) (h : i < length ys) (w : Loads b (take i ys)) where
    last : Permᴰ (get_or ys i d ∷ take i ys) (take (i + 1) ys)
    last =
        let c = get_or ys i d in
        rw (add-one, take-suc ys i d h)
        (mathlib.Core.List.Permᴰ.symm (mathlib.Core.List.Permᴰ.trans (mathlib.Core.List.Permᴰ.middle c (take i ys) []) (mathlib.Core.List.Permᴰ.cons refl (mathlib.Core.List.Permᴰ.append-nil (take i ys)))))

    pub turned : (x : List ℕ) → Loadable x × TakenIn {A = Unit} (entries_of b) (get_or ys i d) (Ok tt) (entries_of x) → Loads x (take (i + 1) ys)
    turned x p = loads-perm x last (loads-more b (get_or ys i d) (take i ys) w x p.0 p.1.0 p.1.1)

    -- a record that is refused
    stopped : unfit (entries_of b) (get_or ys i d) ≡ true → records_wrong ys ≡ true
    stopped e =
        ap records_wrong (sym (take-append-drop (i + 1) ys))
        ∙ wrong-kept (take (i + 1) ys) (drop (i + 1) ys) (sym (records-perm last) ∙ unfit-same b (get_or ys i d) (take i ys) w ∙ e)

    pub refused : (a : ℕ) (r : Backup) → unfit (entries_of b) (get_or ys i d) ≡ true → r ≡ refused_backup 22 → Named a ys r
    unfolding list_wrong backup_under
    refused a r e q = named a ys r (q ∙ sym (rw (stopped e, or-true (ltb 64 (length ys)))))

  pub ended : (i : ℕ) (b : List ℕ) → i ≡ length ys → Loads b (take i ys) → Loads b ys
  ended i b h w = subst (Loads b) (ap (λ (k : ℕ). take k ys) h ∙ take-length ys) w

  -- the two other answers
  pub few : (a : ℕ) (b : List ℕ) (r : Backup) → length ys ≤ 64 → Loads b ys → r ≡ backup_under false a (entries_of b) → Named a ys r
  unfolding list_wrong
  few a b r n w e =
      let q : list_wrong ys ≡ false = rw (le-ltb 64 (length ys) n) w.right in
      named a ys r
      (e
      ∙ under-perm a false (entries_of b) (map candidate_entry ys) (λ f. (distinct-perm entry_key (mathlib.Core.List.Permᴰ.symm w.entries) (list-distinct ys q), w.entries))
      ∙ ap (λ (t : Bool). backup_under t a (map candidate_entry ys)) (sym q))

  pub many : (a : ℕ) (r : Backup) → 64 < length ys → r ≡ refused_backup 22 → Named a ys r
  unfolding list_wrong backup_under
  many a r n e = named a ys r (e ∙ sym (rw (lt-ltb 64 (length ys) n)))

-- what each step of the walk loads
pub ruleset loading = (loads-none, room_for, turned)
