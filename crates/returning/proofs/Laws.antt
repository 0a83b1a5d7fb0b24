-- Laws of `specs/Returning.antt`: the case of its definition that each return is, and that the set of the other places holds the other routes. Assumes nothing.
use Prim.Native.Nat.{ℕ, zero, suc, ◌/◌, ◌%◌, ◌^◌, ◌≤◌, ◌<◌}
use native.Mathlib.Nat.{not-suc-le-zero}
use native.Mathlib.Omega.{arith}
use mathlib.Core.Path.{◌≡◌, refl, ap, ◌∙◌, sym, subst}
use mathlib.Core.Bool.{Bool, true, false, cond, not, ◌&&◌, ◌||◌, or-true, and-true, and-false, and_assoc}
use mathlib.Core.List.{List, [], ◌∷◌, ◌++◌}
use lib.ListN.{length, get_or, set, replicate, length-replicate, get_or-replicate, length-set, length-map}
use lib.Bits.{bit_or, bit_xor}
use lib.Dec.{eqb}
use borrow.Author.Tests.{eq-eqb, ne_eqb}
use Rattle.lists.specs.Lists.{all}
use Rattle.lists.proofs.Numbers.{differ-step}
use Rattle.lists.proofs.Bools.{true-false, by-test, no-choice, bit-halves, one_of_two}
use Rattle.address.specs.Address.{address_key, is_zero}
use Rattle.keyed.specs.Keyed.{Rising, without_at}
use Rattle.keyed.proofs.Order.{remove_absent}
use Rattle.rows.specs.Rows.{found_in}
use Rattle.std.specs.Prelude.{Ok, Err}
use Rattle.rows.proofs.Places.{found-missing, at_lt, remove-at}
use Rattle.layout.specs.Table.{Entry, entry_key, no_entry}
use Rattle.layout.specs.Words.{standing_of}
use Rattle.places.specs.Places.{places, set_of, picked, without_place}
use Rattle.places.proofs.Laws.{places-none, places-walk}
use Rattle.places.proofs.Flags.{set_of-lt, picked-places, picked_all, without_place-set}
use Rattle.settings.specs.Settings.{Settings, any_range}
use Rattle.winner.specs.Winner.{entries_at}
use Rattle.returning.specs.Returning.{Sent, others, all_under, reaches, sent, reference, fits, beside_reference, keeps_own, advertised, returning_of, beside_both, advertised_both, returning_with}

-- THE OTHER ROUTES
picked-without_at : {A : Type 0} (l : List A) (i : ℕ) → i < length l → picked (set (replicate (length l) true) i false) l ≡ without_at l i
unfolding picked without_at
picked-without_at [] i h = absurd (not-suc-le-zero h)
picked-without_at (x ∷ l) zero h = picked_all l
picked-without_at (x ∷ l) (suc i) h = ap (x ∷◌) (picked-without_at l i (omega arith))

module _ (es : List Entry) (short : length es ≤ 64) (rising : Rising entry_key 1 es) (a : List ℕ) (n all : ℕ) (z : n ≡ length es) (q : all ≡ set_of (replicate n true)) where
  abbrev Others : ℕ → Type 0
  Others s = (s < 2 ^ length es) × (entries_at es (places s) ≡ others a es)

  is_all : all ≡ set_of (replicate (length es) true)
  is_all = q ∙ ap (λ (k : ℕ). set_of (replicate k true)) z

  others-of : (bs : List Bool) (s : ℕ) → length bs ≡ length es → s ≡ set_of bs → picked bs es ≡ others a es → Others s
  others-of bs s l e p =
      (rw e (subst (λ (k : ℕ). set_of bs < 2 ^ k) l (set_of-lt bs)), rw e (picked-places bs es no_entry (sym l) (omega arith)) ∙ p)

  pub others-missing : (i : ℕ) → found_in entry_key (address_key a) es ≡ Err i → Others all
  others-missing i f =
      others-of (replicate (length es) true) all (length-replicate (length es) true) is_all (picked_all es ∙ sym (remove_absent entry_key (address_key a) es (found-missing entry_key (address_key a) es i f).0))

  pub others-at : (i s : ℕ) → found_in entry_key (address_key a) es ≡ Ok i → s ≡ without_place all i → Others s
  others-at i s f e =
      let l = at_lt entry_key (address_key a) es 1 no_entry rising i f in
      let bs = replicate (length es) true in
      others-of (set bs i false) s (length-set bs i false ∙ length-replicate (length es) true)
      (e ∙ ap (λ (x : ℕ). without_place x i) is_all ∙ without_place-set bs i (omega arith) (get_or-replicate (length es) i true false l))
      (picked-without_at es i l ∙ sym (remove-at entry_key (address_key a) es 1 no_entry rising i f))

-- A WALK over the routes at places: nothing differs so far, as b tells, and those left carry the algorithm
module _ (es : List Entry) (g : ℕ) where
  abbrev pub under : List ℕ → Bool
  under ps = all_under g (entries_at es ps)

  pub under-end : (b : Bool) (ps : List ℕ) → ps ≡ [] → (b && under ps) ≡ b
  unfolding all_under all
  under-end b ps z = ap (λ (l : List ℕ). b && under l) z ∙ and-true b

  -- one place of them, whose route's algorithm is x
  pub under-on : (d x p : ℕ) (ps qs : List ℕ) → ps ≡ p ∷ qs → x ≡ (get_or es p no_entry).algorithm → (eqb (bit_or d (bit_xor x g)) 0 && under qs) ≡ (eqb d 0 && under ps)
  unfolding all_under all
  under-on d x p ps qs e k =
      ap (λ (b : Bool). b && under qs) (differ-step d x g) ∙ and_assoc (eqb d 0) (eqb x g) (under qs)
      ∙ ap (λ (y : ℕ). eqb d 0 && (eqb y g && under qs)) k ∙ ap (λ (l : List ℕ). eqb d 0 && under l) (sym e)

  -- a run of them
  under-append : (ps qs : List ℕ) → under (ps ++ qs) ≡ (under ps && under qs)
  unfolding all_under all
  under-append [] qs = refl
  under-append (p ∷ ps) qs = let a = eqb (get_or es p no_entry).algorithm g in ap (λ (b : Bool). a && b) (under-append ps qs) ∙ sym (and_assoc a (under ps) (under qs))

  pub under-run : (b : Bool) {c : Bool} (ps run qs : List ℕ) → ps ≡ run ++ qs → c ≡ (b && under run) → (c && under qs) ≡ (b && under ps)
  under-run b ps run qs e k =
      ap (λ (x : Bool). x && under qs) k ∙ and_assoc b (under run) (under qs) ∙ ap (λ (x : Bool). b && x) (sym (under-append run qs) ∙ ap under (sym e))

-- a set is empty exactly if no route stands at its places
pub none-at : (es : List Entry) (s : ℕ) → s ≡ 0 → length (entries_at es (places s)) ≡ 0
none-at es s z = ap (λ (l : List ℕ). length (entries_at es l)) (ap places z ∙ places-none)

pub some_at : (es : List Entry) (s : ℕ) → s < 2 ^ 64 → (s ≡ 0 → ⊥) → length (entries_at es (places s)) ≡ 0 → ⊥
some_at es s h n e =
    let l = length-map (places s) (λ (i : ℕ). get_or es i no_entry) in
    let w = ap length (places-walk s h n) in
    omega (arith, e, l, w)

-- both, for `beside`, which the check proves
pub ruleset whether_any_stands = (none-at, some_at)

-- WHAT IS SENT beside the other routes
standing-halves : (e : Entry) → (standing_of e / 2 ≡ e.preference) × (eqb (standing_of e % 2) 1 ≡ e.dp)
unfolding standing_of
standing-halves e = bit-halves e.preference e.dp

-- one reference, where the own DP is set
module _ (g p : ℕ) (e : Entry) (s : ℕ) (k : s ≡ standing_of e) where
  low : eqb (s % 2) 1 ≡ e.dp
  low = rw k (standing-halves e).1

  high : s / 2 ≡ e.preference
  high = rw k (standing-halves e).0

  pub reference-clear : (s % 2 ≡ 1 → ⊥) → sent 0 p true ≡ beside_reference g p true e
  unfolding beside_reference fits
  reference-clear n = sym (rw (sym low ∙ ne_eqb (s % 2) 1 n))

  pub not-reached : reaches g p (s / 2) ≡ false → sent 0 p true ≡ beside_reference g p true e
  unfolding beside_reference fits
  not-reached r = sym (rw (sym (ap (reaches g p) high) ∙ r, and-false e.dp))

  pub reached : s % 2 ≡ 1 → reaches g p (s / 2) ≡ true → sent 0 (s / 2) false ≡ beside_reference g p true e
  unfolding beside_reference fits
  reached c r = sym (rw (sym low ∙ eq-eqb (s % 2) 1 c, sym (ap (reaches g p) high) ∙ r, ← high))

-- both, by the DP that the first is sent with
module _ (p : ℕ) (os : List Entry) (r : Sent) (q : r ≡ beside_reference 2 p true (reference 2 os)) where
  dp-told : (b : Bool) → fits 2 p (reference 2 os) ≡ b → r.dp ≡ not b
  unfolding beside_reference
  dp-told true e = ap (λ (x : Sent). x.dp) q ∙ rw e
  dp-told false e = ap (λ (x : Sent). x.dp) q ∙ rw e

  pub highest-fits : r.dp ≡ false → r ≡ beside_both p true os
  unfolding beside_both beside_reference
  highest-fits d =
      by-test (fits 2 p (reference 2 os))
      (λ e. q ∙ rw e)
      (λ e. absurd (true-false (dp-told false e) d))

  pub lowest-left : r.dp ≡ true → beside_reference 3 p true (reference 3 os) ≡ beside_both p true os
  unfolding beside_both
  lowest-left d =
      by-test (fits 2 p (reference 2 os))
      (λ e. absurd (true-false d (dp-told true e)))
      (λ e. sym (rw e))

-- both, for `beside_both`, which the check proves
pub ruleset either_fits = (highest-fits, lowest-left)

-- beside the other routes, whether ranges are set or not
module _ (os : List Entry) (b : Bool) (g p : ℕ) where
  abbrev pub Beside : Bool → Sent
  Beside d = cond b (advertised_both g p d os) (advertised g p d os)

  own-kept : (d : Bool) → keeps_own g d os ≡ true → sent 0 p d ≡ Beside d
  unfolding advertised advertised_both
  own-kept d h = rw h (no-choice true b (sent 0 p d))

  pub own-clear : (d : Bool) → d ≡ false → sent 0 p d ≡ Beside d
  unfolding keeps_own
  own-clear d e = own-kept d (rw e)

  module _ (d : Bool) (own : d ≡ true) where
    pub none-stands : length os ≡ 0 → sent 0 p d ≡ Beside d
    unfolding keeps_own
    none-stands z = own-kept d (rw (own, eq-eqb (length os) 0 z))

    pub other-algorithm : all_under g os ≡ false → sent 0 p d ≡ Beside d
    unfolding keeps_own
    other-algorithm h = own-kept d (rw (own, h, or-true (eqb (length os) 0)))

    module _ (z : length os ≡ 0 → ⊥) (u : all_under g os ≡ true) where
      looks : keeps_own g d os ≡ false
      unfolding keeps_own
      looks = rw (own, ne_eqb (length os) 0 z, u)

      pub beside-both : b ≡ true → beside_both p true os ≡ Beside d
      unfolding advertised_both
      beside-both e = sym (rw (e, looks, own))

      pub beside-one : b ≡ false → beside_reference g p true (reference g os) ≡ Beside d
      unfolding advertised
      beside-one e = sym (rw (e, looks, own))

-- THE WHOLE ANSWER
module _ (s : Settings) (l : List Entry) (a : List ℕ) (g p : ℕ) (d : Bool) where
  pub wrong-algorithm : (g ≡ 2 → ⊥) → (g ≡ 3 → ⊥) → sent 15 0 false ≡ returning_with s l a g p d
  unfolding returning_with
  wrong-algorithm m n = rw (ne_eqb g 2 m, ne_eqb g 3 n)

  module _ (h : 2 ≤ g) (k : g ≤ 3) where
    usable : (eqb g 2 || eqb g 3) ≡ true
    usable = one_of_two 2 g h k

    pub zero-address : is_zero a ≡ true → sent 6 0 false ≡ returning_with s l a g p d
    unfolding returning_with
    zero-address z = rw (usable, z)

    pub sent-beside : is_zero a ≡ false → Beside (others a l) (any_range s) g p d ≡ returning_with s l a g p d
    unfolding returning_with
    sent-beside z = rw (usable, z)

  -- with no range set it is document 01's
  pub returning-none : any_range s ≡ false → returning_with s l a g p d ≡ returning_of l a g p d
  unfolding returning_with returning_of
  returning-none e = rw e
