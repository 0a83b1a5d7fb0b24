-- The set of places whose address is on a ready list, address by address, and the candidate set. Assumes nothing.
use Prim.Native.Nat.{ℕ, suc, ◌+◌, ◌-◌, ◌*◌, ◌/◌, ◌≤◌, ◌<◌}
use native.Mathlib.Nat.{le_of_suc-le-suc, not-suc-le-zero}
use native.Mathlib.Numerals.{add-one}
use native.Mathlib.Omega.{arith}
use mathlib.Core.Path.{◌≡◌, refl, ap, ap₂, ◌∙◌, sym}
use mathlib.Core.Bool.{Bool, true, false, ◌||◌, or_assoc, or-false, or-true}
use mathlib.Core.List.{List, [], ◌∷◌, ◌++◌, map}
use mathlib.Core.Logic.{inl, inr, ⊎_elim}
use lib.ListN.{length, get_or, set, take, drop, replicate, length-map, length-drop}
use lib.Seq.{length-take-le, take-suc, take_all}
use lib.Dec.{eqb}
use borrow.Author.Tests.{eq-eqb, ne_eqb, eqb-true, eqb-false, lt-ltb, le-ltb}
use Rattle.lists.proofs.Bools.{by-test, or_left, or_right}
use Rattle.lists.proofs.Numbers.{either}
use Rattle.address.specs.Address.{address_key, listed_in, NamesAddress}
use Rattle.keyed.specs.Keyed.{Rising, has, rank}
use Rattle.keyed.proofs.Keyed.{Present, present-of, has-below}
use Rattle.rows.specs.Rows.{rows_in, found_in}
use Rattle.rows.proofs.Rows.{rows-length, rows_at}
use Rattle.lists.proofs.Lists.{get_d-map-in}
use Rattle.std.specs.Prelude.{Result, Ok, Err}
use Rattle.rows.proofs.Places.{found_at, found-missing, at_lt}
use Rattle.layout.specs.Table.{Entry, entry_key, no_entry}
use Rattle.layout.specs.Words.{table_in, Valid}
use Rattle.entries.proofs.Lookups.{stranger}
use Rattle.places.specs.Places.{set_of, with_place}
use Rattle.places.proofs.Flags.{with_place-set}
use Rattle.ready.specs.Ready.{ready_in, on_list, eligible, candidate_set}

-- one key more on a list of flags
module _ {A : Type 0} (key : A → ℕ) (f : A → Bool) (k : ℕ) where
  abbrev marked : A → Bool
  marked x = f x || eqb k (key x)

  mark-absent : (l : List A) → has key k l ≡ false → map marked l ≡ map f l
  unfolding has
  mark-absent [] h = refl
  mark-absent (x ∷ l) h =
      let n : k ≡ key x → ⊥ = λ e. eqb-false (key x) k (or_left (eqb (key x) k) (has key k l) h) (sym e) in
      ap₂ (λ (b : Bool) (m : List Bool). b ∷ m) (rw (ne_eqb k (key x) n) (or-false (f x))) (mark-absent l (or_right (eqb (key x) k) (has key k l) h))

  mark-present : (l : List A) (n : ℕ) (d : A) → Rising key n l → Present key k l d → map marked l ≡ set (map f l) (rank key k l) true
  unfolding rank Rising
  mark-present [] n d r = λ p. absurd (not-suc-le-zero p.0)
  mark-present (x ∷ l) n d r =
      either (key x) k
      (λ p. rw (lt-ltb (key x) k p, ne_eqb k (key x) (λ e. omega arith), or-false (f x)) (λ q. ap (f x ∷◌) (mark-present l (suc (key x)) d r.1 (le_of_suc-le-suc q.0, q.1))))
      (λ p. rw (le-ltb (key x) k p) (λ q.
      rw (eq-eqb k (key x) (sym q.1), or-true (f x)) (ap (true ∷◌) (mark-absent l (has-below key k l (suc (key x)) r.1 (omega (arith, q.1)))))))

-- THE ADDRESSES that a ready list names
pub length-ready : (w : List ℕ) → length (ready_in w) ≡ length w / 5
unfolding ready_in
length-ready w = length-map (rows_in 5 (length w / 5) w) listed_in ∙ rows-length 5 (length w / 5) w

-- the row at place i, as the part of the list that starts at word a
module _ (w : List ℕ) (i a : ℕ) (h : i < length w / 5) (s : a ≡ i * 5) where
  abbrev pub row : List ℕ
  row = take (a + 5 - a) (drop a w)

  five : a + 5 - a ≡ 5
  five = omega arith

  pub length-row : length row ≡ 5
  length-row = rw five (length-take-le 5 (drop a w) (simp length-drop (omega arith)))

  pub ready_at : get_or (ready_in w) i [] ≡ listed_in row
  unfolding ready_in
  ready_at =
      get_d-map-in listed_in (rows_in 5 (length w / 5) w) i [] [] (omega (arith, rows-length 5 (length w / 5) w))
      ∙ ap listed_in (rows_at 5 (length w / 5) w i h ∙ ap (λ (n : ℕ). take 5 (drop n w)) (sym s) ∙ ap (λ (n : ℕ). take n (drop a w)) (sym five))

-- THE READY SET of entries
abbrev pub flags : List (List ℕ) → List Entry → List Bool
flags rs l = map (λ (e : Entry). on_list rs e.address) l

on-snoc : (rs : List (List ℕ)) (b a : List ℕ) → on_list (rs ++ b ∷ []) a ≡ (on_list rs a || eqb (address_key b) (address_key a))
unfolding on_list
on-snoc [] b a = or-false (eqb (address_key b) (address_key a))
on-snoc (r ∷ rs) b a =
    ap (λ (x : Bool). eqb (address_key r) (address_key a) || x) (on-snoc rs b a)
    ∙ sym (or_assoc (eqb (address_key r) (address_key a)) (on_list rs a) (eqb (address_key b) (address_key a)))

flags-snoc : (rs : List (List ℕ)) (b : List ℕ) (l : List Entry) → flags (rs ++ b ∷ []) l ≡ map (marked entry_key (λ (e : Entry). on_list rs e.address) (address_key b)) l
flags-snoc rs b [] = refl
flags-snoc rs b (e ∷ l) = ap₂ (λ (x : Bool) (m : List Bool). x ∷ m) (on-snoc rs b e.address) (flags-snoc rs b l)

pub ready-none : (l : List Entry) → 0 ≡ set_of (flags [] l)
unfolding set_of on_list
ready-none [] = refl
ready-none (e ∷ l) = rw (← ready-none l)

module _ (es : List Entry) (short : length es ≤ 64) (rising : Rising entry_key 1 es) (ready : List (List ℕ)) (i : ℕ) (h : i < length ready) (s : ℕ) (q : s ≡ set_of (flags (take i ready) es)) where
  abbrev k : ℕ
  k = address_key (get_or ready i [])

  abbrev before : Entry → Bool
  before e = on_list (take i ready) e.address

  next : flags (take (i + 1) ready) es ≡ map (marked entry_key before k) es
  next = rw (add-one, take-suc ready i [] h) (flags-snoc (take i ready) (get_or ready i []) es)

  pub ready-found : (j : ℕ) → found_in entry_key k es ≡ Ok j → with_place s j ≡ set_of (flags (take (i + 1) ready) es)
  ready-found j f =
      let p = found_at entry_key k es j f in
      let l : length (flags (take i ready) es) ≡ length es = length-map es before in
      rw (q, next, mark-present entry_key before k es 1 no_entry rising (present-of entry_key k es 1 no_entry rising p.0), p.1)
      (with_place-set (flags (take i ready) es) j (omega (arith, at_lt entry_key k es 1 no_entry rising j f, l)) (omega (arith, l)))

  pub ready-stranger : (j : ℕ) → found_in entry_key k es ≡ Err j → s ≡ set_of (flags (take (i + 1) ready) es)
  ready-stranger j f = q ∙ ap set_of (sym (next ∙ mark-absent entry_key before k es (found-missing entry_key k es j f).0))

-- THE CANDIDATE SET
pub set-ready : (ready : List (List ℕ)) (l : List Entry) (ac : Bool) → ac ≡ true → set_of (flags ready l) ≡ candidate_set ac ready l
unfolding candidate_set eligible
set-ready ready l ac b = rw b

pub set_all : (ready : List (List ℕ)) (l : List Entry) (ac : Bool) (n : ℕ) → ac ≡ false → n ≡ length l → set_of (replicate n true) ≡ candidate_set ac ready l
unfolding candidate_set eligible
set_all ready l ac n b e =
    rw (e, b) (ap set_of (all l))
  where
    all : (m : List Entry) → replicate (length m) true ≡ map (λ (x : Entry). true) m
    all [] = refl
    all (x ∷ m) = ap (true ∷◌) (all m)

-- the candidates as a set, with AC-DF and without
pub candidates_listed : (ac : Bool) (ready : List (List ℕ)) (l : List Entry) → ac ≡ true → candidate_set ac ready l ≡ set_of (flags ready l)
candidates_listed ac ready l b = sym (set-ready ready l ac b)

pub candidates_all : (ac : Bool) (ready : List (List ℕ)) (l : List Entry) → ac ≡ false → candidate_set ac ready l ≡ set_of (replicate (length l) true)
candidates_all ac ready l b = sym (set_all ready l ac (length l) b refl)

pub ruleset candidates_by_bit = (candidates_listed, candidates_all)

-- WHAT A LOOKUP TELLS of a row of the list, whose family is 4 or 6, or neither
by-family : {P : Type 0} (r : List ℕ) → (NamesAddress r → P) → ((NamesAddress r → ⊥) → P) → P
by-family r n s =
    by-test (eqb (get_or r 0 0) 4)
    (λ t. n (inl (eqb-true _ 4 t)))
    (λ f. by-test (eqb (get_or r 0 0) 6) (λ t. n (inr (eqb-true _ 6 t))) (λ g. s (⊎_elim (eqb-false _ 4 f) (eqb-false _ 6 g))))

pub told_at : (r : List ℕ) {f k : Result ℕ ℕ} {i : ℕ} → (NamesAddress r → f ≡ k) → ((NamesAddress r → ⊥) → (j : ℕ) → f ≡ Ok j → ⊥) → f ≡ Ok i → k ≡ Ok i
told_at r {i = i} n s e = by-family r (λ m. sym (n m) ∙ e) (λ d. absurd (s d i e))

pub told-missing : {P : Type 0} (r b : List ℕ) → Valid b → {f : Result ℕ ℕ} {i : ℕ} → (NamesAddress r → f ≡ found_in entry_key (address_key (listed_in r)) (table_in b).entries) → f ≡ Err i
    → ((j : ℕ) → found_in entry_key (address_key (listed_in r)) (table_in b).entries ≡ Err j → P) → P
told-missing r b v {i = i} n e p = by-family r (λ m. p i (sym (n m) ∙ e)) (λ d. p 0 (sym (stranger b r v (λ f. d (inl f)) (λ f. d (inr f)))))

-- ONE TURN over a list: the row at place i, which starts at word a, is looked up among the entries of a table, with the outcome f
module _ (b w : List ℕ) (v : Valid b) (i a : ℕ) (h : i < length w / 5) (p : a ≡ i * 5) {f : Result ℕ ℕ}
    (n : NamesAddress (row w i a h p) → f ≡ found_in entry_key (address_key (listed_in (row w i a h p))) (table_in b).entries) where
  abbrev found : List Entry
  found = (table_in b).entries

  in_list : i < length (ready_in w)
  in_list = omega (arith, length-ready w, h)

  named : found_in entry_key (address_key (get_or (ready_in w) i [])) found ≡ found_in entry_key (address_key (listed_in (row w i a h p))) found
  named = ap (λ (r : List ℕ). found_in entry_key (address_key r) found) (ready_at w i a h p)

  pub turn-missing : {j set : ℕ} → set ≡ set_of (flags (take i (ready_in w)) found) → f ≡ Err j → set ≡ set_of (flags (take (i + 1) (ready_in w)) found)
  turn-missing {set = set} q e =
      told-missing (row w i a h p) b v n e (λ k z. ready-stranger found v.sound.short v.sound.rising (ready_in w) i in_list set q k (named ∙ z))

  module _ (s : (NamesAddress (row w i a h p) → ⊥) → (j : ℕ) → f ≡ Ok j → ⊥) where
    pub turn_lt : {j : ℕ} → f ≡ Ok j → j < 64
    turn_lt e = omega (arith, v.sound.short, at_lt entry_key _ found 1 no_entry v.sound.rising _ (told_at (row w i a h p) n s e))

    pub turn-found : {j set : ℕ} → set ≡ set_of (flags (take i (ready_in w)) found) → f ≡ Ok j → with_place set j ≡ set_of (flags (take (i + 1) (ready_in w)) found)
    turn-found {j} {set} q e = ready-found found v.sound.short v.sound.rising (ready_in w) i in_list set q j (named ∙ told_at (row w i a h p) n s e)

-- and after the last turn the whole list
pub turn-end : (b w : List ℕ) (i set : ℕ) → length w / 5 ≤ i → set ≡ set_of (flags (take i (ready_in w)) (table_in b).entries) → set ≡ set_of (flags (ready_in w) (table_in b).entries)
turn-end b w i set h q =
    let e : take i (ready_in w) ≡ ready_in w = take_all i (ready_in w) (omega (arith, length-ready w)) in
    rw e at q
