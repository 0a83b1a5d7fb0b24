-- The order of a list does not matter: the backup among candidates of which no two have one address is that of any order of them, and a list is refused in any order or in none. Assumes nothing.
use Prim.Native.Nat.{ℕ, ◌%◌, ◌≤◌}
use native.Mathlib.Omega.{arith}
use mathlib.Core.Path.{◌≡◌, refl, ap, ap₂, ◌∙◌, sym}
use mathlib.Core.Bool.{Bool, true, false, cond, not, ◌&&◌, ◌||◌}
use mathlib.Core.List.Permᴰ
use mathlib.Core.List.{List, [], ◌∷◌, map, Memᴰ, Permᴰ}
use lib.ListN.{length, get_or}
use lib.Dec.{ltb, eqb}
use borrow.Author.Tests.{lt-ltb, le-ltb}
use Rattle.lists.specs.Lists.{all}
use Rattle.lists.proofs.Bools.{by-test, true-false, not-false-true, or_left, or_right}
use Rattle.lists.proofs.Numbers.{either}
use Rattle.lists.proofs.Lists.{perm-length}
use Rattle.keyed.specs.Keyed.{Distinct, has, remove}
use Rattle.keyed.proofs.Order.{removed-of, removed-in, distinct-perm}
use Rattle.keyed.proofs.Journal.{distinct_remove}
use Rattle.community.specs.Community.{weighs_preference}
use Rattle.layout.specs.Table.{Entry, entry_key, no_entry}
use Rattle.choice.specs.Choice.{best_in}
use Rattle.choice.proofs.Laws.{Unique, unique-sub}
use Rattle.choice.proofs.Criteria.{unique-distinct}
use Rattle.winner.specs.Winner.{elected}
use Rattle.winner.proofs.Orders.{better-any}
use Rattle.answers.specs.Answers.{Method}
use Rattle.answers.proofs.Laws.{elected-in, elected-top, elected-only}
use Rattle.backup.specs.Backup.{Backup, refused_backup, named_backup, without_forwarder, backup_by, SecondInLine}
use Rattle.backup.proofs.Laws.{left_other, rest-there, second-by}
use Rattle.candidate_list.specs.declared.Candidate.{Candidate}
use Rattle.candidate_list.specs.Candidates.{candidate_entry, has_address, twice, records_wrong, list_wrong, by_algorithm, backup_under, backup_in_list}

and-swap : (a b c : Bool) → (a && (b && c)) ≡ (b && (a && c))
and-swap true b c = refl
and-swap false true c = refl
and-swap false false c = refl

module _ {A : Type 0} where
  perm-mem : {l m : List A} {x : A} → Permᴰ l m → Memᴰ x l → Memᴰ x m
  perm-mem Permᴰ.nil n = n
  perm-mem (Permᴰ.cons e h) (Memᴰ.head p) = Memᴰ.head (p ∙ e)
  perm-mem (Permᴰ.cons e h) (Memᴰ.tail n) = Memᴰ.tail (perm-mem h n)
  perm-mem (Permᴰ.swap e f) (Memᴰ.head p) = Memᴰ.tail (Memᴰ.head (p ∙ e))
  perm-mem (Permᴰ.swap e f) (Memᴰ.tail (Memᴰ.head p)) = Memᴰ.head (p ∙ f)
  perm-mem (Permᴰ.swap e f) (Memᴰ.tail (Memᴰ.tail n)) = Memᴰ.tail (Memᴰ.tail n)
  perm-mem (Permᴰ.trans h k) n = perm-mem k (perm-mem h n)

  -- a test of every element
  all-perm : (test : A → Bool) {l m : List A} → Permᴰ l m → all test l ≡ all test m
  unfolding all
  all-perm test Permᴰ.nil = refl
  all-perm test (Permᴰ.cons q h) = let ih = all-perm test h in cc
  all-perm test (Permᴰ.swap {a = x} {b = y} {l = l} q r) = cc (and-swap (test x) (test y) (all test l))
  all-perm test (Permᴰ.trans h k) = all-perm test h ∙ all-perm test k

  -- a key that stands twice
  module _ (key : A → ℕ) where
    pub twice-distinct : (l : List A) → twice key l ≡ false → Distinct key l
    unfolding twice
    twice-distinct [] e = tt
    twice-distinct (x ∷ l) e = (or_left (has key (key x) l) (twice key l) e, twice-distinct l (or_right (has key (key x) l) (twice key l) e))

    distinct-twice : (l : List A) → Distinct key l → twice key l ≡ false
    unfolding twice
    distinct-twice [] d = refl
    distinct-twice (x ∷ l) d = rw d.0 (distinct-twice l d.1)

    twice-kept : {l m : List A} → Permᴰ l m → twice key l ≡ false → twice key m ≡ false
    twice-kept {l} {m} h f = distinct-twice m (distinct-perm key h (twice-distinct l f))

    twice-perm : {l m : List A} → Permᴰ l m → twice key l ≡ twice key m
    twice-perm {l} {m} h =
        by-test (twice key l)
        (λ t. t ∙ sym (not-false-true (λ f. true-false t (twice-kept (Permᴰ.symm h) f))))
        (λ f. f ∙ sym (twice-kept h f))

-- WHETHER A LIST IS REFUSED
pub records-perm : {cs ds : List Candidate} → Permᴰ cs ds → records_wrong cs ≡ records_wrong ds
unfolding records_wrong
records-perm h = ap₂ (λ (a b : Bool). not a || b) (all-perm has_address h) (twice-perm entry_key (Permᴰ.map candidate_entry h))

list-perm : {cs ds : List Candidate} → Permᴰ cs ds → list_wrong cs ≡ list_wrong ds
unfolding list_wrong
list-perm h = ap₂ (λ (n : ℕ) (b : Bool). ltb 64 n || b) (perm-length h) (records-perm h)

pub list-distinct : (cs : List Candidate) → list_wrong cs ≡ false → Distinct entry_key (map candidate_entry cs)
unfolding list_wrong records_wrong
list-distinct cs e = twice-distinct entry_key (map candidate_entry cs) (or_right (not (all has_address cs)) _ (or_right (ltb 64 (length cs)) _ e))

-- THE ELECTED ONE depends on who the candidates are
module _ (a tag d : ℕ) (z : a ≡ 0 → ⊥) where
  elected-same : (l m : List Entry) → Distinct entry_key l → (length l ≡ 0 → ⊥) → ((x : Entry) → Memᴰ x l → Memᴰ x m) → ((x : Entry) → Memᴰ x m → Memᴰ x l)
      → elected a tag d l ≡ elected a tag d m
  elected-same l m u n f g =
      let q : Unique entry_key l = unique-distinct entry_key l u in
      elected-only a tag d m (unique-sub entry_key g q) z (elected a tag d l) (f (elected a tag d l) (elected-in a tag d l n)) (λ y k. elected-top a tag d l q z y (g y k))

-- so THE BACKUP does
module _ (m : Method) (tag : ℕ) (z : m.algorithm ≡ 0 → ⊥) (l k : List Entry) (u : Distinct entry_key l) (h : Permᴰ l k) where
  abbrev key : List Entry → ℕ
  key cs = entry_key (elected m.algorithm tag m.digest cs)

  same_key : 2 ≤ length l → key l ≡ key k
  same_key n = ap entry_key (elected-same m.algorithm tag m.digest z l k u (λ e. omega (arith, e, n)) (λ x. perm-mem h) (λ x. perm-mem (Permᴰ.symm h)))

  others_same : (j : ℕ) (cs ds : List Entry) → Distinct entry_key cs → Permᴰ cs ds → (x : Entry) → Memᴰ x (remove entry_key j cs) → Memᴰ x (remove entry_key j ds)
  others_same j cs ds v p x n = removed-in entry_key j (left_other entry_key j cs v n) (perm-mem p (removed-of entry_key j cs n))

  same_second : 2 ≤ length l → elected m.algorithm tag m.digest (without_forwarder m l tag) ≡ elected m.algorithm tag m.digest (without_forwarder m k tag)
  same_second n =
      elected-same m.algorithm tag m.digest z (remove entry_key (key l) l) (remove entry_key (key l) k) (distinct_remove entry_key (key l) l u) (rest-there m l tag u z n)
      (others_same (key l) l k u h) (others_same (key l) k l (distinct-perm entry_key h u) (Permᴰ.symm h))
      ∙ ap (λ (j : ℕ). elected m.algorithm tag m.digest (remove entry_key j k)) (same_key n)

  backup-perm : backup_by m l tag ≡ backup_by m k tag
  unfolding backup_by
  backup-perm =
      rw (← perm-length h)
      (either (length l) 2
      (λ n. rw (lt-ltb (length l) 2 n))
      (λ n. rw (le-ltb (length l) 2 n) (ap (λ (x : Entry). named_backup x.address) (same_second n))))

-- under other algorithms than 1 no digest counts
pub backup-digest : (a d f tag : ℕ) (l : List Entry) → eqb a 1 ≡ false
    → backup_by (record { algorithm = a; digest = d; told = a }) l tag ≡ backup_by (record { algorithm = a; digest = f; told = a }) l tag
unfolding backup_by elected
backup-digest a d f tag l n =
    ap (λ (B : Entry → Entry → Bool).
    let chosen : List Entry → Entry = λ cs. cond (eqb a 0) (get_or cs (tag % length cs) no_entry) (best_in B no_entry cs) in
    cond (ltb (length l) 2) (refused_backup 12) (named_backup (chosen (remove entry_key (entry_key (chosen l)) l)).address)) (better-any a d f n)

-- THE WHOLE ANSWER
weighs-some : (a : ℕ) → not (weighs_preference a) ≡ false → a ≡ 0 → ⊥
weighs-some a e z = true-false (rw z) e

module _ (a : ℕ) where
  pub under-perm : (w : Bool) (l m : List Entry) → (w ≡ false → Distinct entry_key l × Permᴰ l m) → backup_under w a l ≡ backup_under w a m
  unfolding backup_under
  under-perm true l m f = refl
  under-perm false l m f =
      by-test (not (weighs_preference a))
      (λ e. rw e)
      (λ e. rw e (backup-perm (by_algorithm a) 0 (weighs-some a e) l m (f refl).0 (f refl).1))

  list-answer : (cs ds : List Candidate) → Permᴰ cs ds → backup_in_list cs a ≡ backup_in_list ds a
  list-answer cs ds h =
      under-perm (list_wrong cs) (map candidate_entry cs) (map candidate_entry ds) (λ e. (list-distinct cs e, Permᴰ.map candidate_entry h))
      ∙ ap (λ (w : Bool). backup_under w a (map candidate_entry ds)) (list-perm h)

  second-under : (w : Bool) (l : List Entry) → (w ≡ false → Distinct entry_key l) → (backup_under w a l).number ≡ 0 → SecondInLine (by_algorithm a) l 0 (backup_under w a l)
  unfolding backup_under
  second-under true l f = λ h. absurd (omega (arith, h))
  second-under false l f = go (not (weighs_preference a)) refl
    where
      go : (b : Bool) → not (weighs_preference a) ≡ b → (cond b (refused_backup 15) (backup_by (by_algorithm a) l 0)).number ≡ 0
          → SecondInLine (by_algorithm a) l 0 (cond b (refused_backup 15) (backup_by (by_algorithm a) l 0))
      go true e h = absurd (omega (arith, h))
      go false e h = second-by (by_algorithm a) l 0 (f refl) (weighs-some a e) h

  -- what the walk promises
  abbrev pub Named : List Candidate → Backup → Type 0
  Named cs r =
      (r ≡ backup_in_list cs a)
      × ((r.number ≡ 0 → SecondInLine (by_algorithm a) (map candidate_entry cs) 0 r)
      × ((other : List Candidate) → Permᴰ other cs → r ≡ backup_in_list other a))

  pub named : (cs : List Candidate) (r : Backup) → r ≡ backup_in_list cs a → Named cs r
  named cs r e = (
    e,
    (
      rw e (second-under (list_wrong cs) (map candidate_entry cs) (list-distinct cs)),
      λ other h. e ∙ sym (list-answer other cs h),
    ),
  )
