-- The algorithm in use, from the kinds of the entries. Assumes nothing.
use Prim.Native.Nat.{ℕ, ◌+◌, ◌*◌, ◌/◌, ◌%◌, ◌≤◌, ◌<◌}
use native.Mathlib.Numerals.{add-one}
use native.Mathlib.Omega.{arith}
use mathlib.Core.Path.{◌≡◌, refl, ap, ap₂, ◌∙◌, sym}
use mathlib.Core.Bool.{Bool, true, false, cond, ◌&&◌, beq, and-false, and-true, and_assoc, or-false}
use mathlib.Core.List.{List, [], ◌∷◌}
use lib.ListN.{length, get_or, drop, drop_of_length-le}
use lib.Seq.{drop-cons}
use lib.Bits.{bit_or, bit_xor, or_shr, xor_shr}
use lib.Dec.{ltb, eqb}
use borrow.Author.Tests.{lt-ltb, le-ltb, eq-eqb, ne_eqb}
use Rattle.lists.specs.Lists.{all, bit}
use Rattle.lists.proofs.Bools.{cond-by, bit-halves}
use Rattle.lists.proofs.Numbers.{either, whether, differ-step}
use Rattle.lists.proofs.Lists.{empty}
use Rattle.layout.specs.Table.{Entry, no_entry}
use Rattle.layout.specs.Words.{kind_of}
use Rattle.settings.specs.Settings.{Settings, nothing_set, is_set, SettingsRight}
use Rattle.settings.proofs.Laws.{is-set-none, is-set-bounds}
use Rattle.agreement.specs.Agreement.{all_carry, fallback, in_use, usable, in_use_with}
use Rattle.agreement.specs.Steps.{all_of_kind}
use Rattle.agreement.specs.declared.InUse.{InUse}

-- A WALK over entries: all before place i were of the kind, and those from there on are, exactly if all are
module _ (k : ℕ) (es : List Entry) where
  kind-step : (i : ℕ) → i < length es → all_of_kind k (drop i es) ≡ (eqb (kind_of (get_or es i no_entry)) k && all_of_kind k (drop (i + 1) es))
  unfolding all_of_kind all
  kind-step i h = rw (add-one, drop-cons es i no_entry h)

  pub kind-next : (i : ℕ) → i < length es → (b : Bool) → (b && all_of_kind k (drop i es)) ≡ all_of_kind k es
      → ((b && eqb (kind_of (get_or es i no_entry)) k) && all_of_kind k (drop (i + 1) es)) ≡ all_of_kind k es
  kind-next i h b q = and_assoc b (eqb (kind_of (get_or es i no_entry)) k) (all_of_kind k (drop (i + 1) es)) ∙ sym (ap (b &&◌) (kind-step i h)) ∙ q

  pub kind-end : (i : ℕ) (b : Bool) → length es ≤ i → (b && all_of_kind k (drop i es)) ≡ all_of_kind k es → b ≡ all_of_kind k es
  unfolding all_of_kind all
  kind-end i b h q = sym (ap (λ (l : List Entry). b && all_of_kind k l) (drop_of_length-le es {i = i} h) ∙ and-true b) ∙ q

-- A KIND is an algorithm and an AC-DF bit
-- nothing differs so far, and not here: so it is with the kinds of words of attributes, which are their high bits
pub kinds-differ : (d w v : ℕ) → eqb (bit_or d (bit_xor w v) / 131072) 0 ≡ (eqb (d / 131072) 0 && eqb (w / 131072) (v / 131072))
kinds-differ d w v =
    let o : bit_or d (bit_xor w v) / 131072 ≡ bit_or (d / 131072) (bit_xor w v / 131072) = or_shr d (bit_xor w v) 17 in
    let x : bit_xor w v / 131072 ≡ bit_xor (w / 131072) (v / 131072) = xor_shr w v 17 in
    rw (o, x) (differ-step (d / 131072) (w / 131072) (v / 131072))

kind-same-bit : (x a n : ℕ) → eqb (x * 2 + n) (a * 2 + n) ≡ (eqb x a && true)
kind-same-bit x a n =
    whether x a
    (λ e. rw (eq-eqb x a e, eq-eqb (x * 2 + n) (a * 2 + n) (omega arith)))
    (λ d. rw (ne_eqb x a d, ne_eqb (x * 2 + n) (a * 2 + n) (λ f. d (omega arith))))

kind-eqb : (x a : ℕ) (p q : Bool) → eqb (x * 2 + bit p) (a * 2 + bit q) ≡ (eqb x a && beq p q)
kind-eqb x a true true = kind-same-bit x a 1
kind-eqb x a true false = ne_eqb (x * 2 + 1) (a * 2 + 0) (λ f. omega arith) ∙ sym (and-false (eqb x a))
kind-eqb x a false true = ne_eqb (x * 2 + 0) (a * 2 + 1) (λ f. omega arith) ∙ sym (and-false (eqb x a))
kind-eqb x a false false = kind-same-bit x a 0

kind-carry : (e : Entry) (l : List Entry) → all_of_kind (kind_of e) l ≡ all_carry e.algorithm e.ac_df l
unfolding all_of_kind all_carry all kind_of
kind-carry e [] = refl
kind-carry e (x ∷ l) = ap₂ ◌&&◌ (kind-eqb x.algorithm e.algorithm x.ac_df e.ac_df) (kind-carry e l)

-- WHAT ALL MAY AGREE ON: 0 to 3, or a number that is set
module _ (s : Settings) (a : ℕ) where
  pub usable-low : a < 4 → true ≡ usable s a
  unfolding usable
  usable-low h = rw (lt-ltb a 4 h)

  pub usable-high : 4 ≤ a → is_set s a ≡ usable s a
  unfolding usable
  usable-high h = rw (le-ltb a 4 h)

  pub usable-bound : SettingsRight s → usable s a ≡ true → a < 31
  usable-bound r u = either a 4 (λ l. omega arith) (λ h. (is-set-bounds s r a (usable-high h ∙ u)).1)

usable-none : (a : ℕ) → usable nothing_set a ≡ ltb a 4
unfolding usable
usable-none a = rw (is-set-none a) (or-false (ltb a 4))

-- THE ALGORITHM IN USE
carries_own : (a : ℕ) (ac : Bool) → (eqb a a && beq ac ac) ≡ true
carries_own a true = rw (eq-eqb a a refl)
carries_own a false = rw (eq-eqb a a refl)

abbrev used_by : Entry → InUse
used_by e = record { algorithm = e.algorithm; ac_df = e.ac_df }

kind-halves : (e : Entry) → (kind_of e / 2 ≡ e.algorithm) × (eqb (kind_of e % 2) 1 ≡ e.ac_df)
unfolding kind_of
kind-halves e = bit-halves e.algorithm e.ac_df

module _ (s : Settings) where
  in-use-first : (e : Entry) (l : List Entry) → in_use_with s (e ∷ l) ≡ cond (usable s (kind_of e / 2) && all_of_kind (kind_of e) (e ∷ l)) (used_by e) fallback
  unfolding in_use_with all_carry all
  in-use-first e l = rw (kind-carry e (e ∷ l), carries_own e.algorithm e.ac_df, (kind-halves e).0)

  module _ (es : List Entry) where
    pub in-use-empty : length es ≡ 0 → fallback ≡ in_use_with s es
    unfolding in_use_with
    in-use-empty z = rw (empty es z)

    module _ (some : 0 < length es) (k : ℕ) (q : k ≡ kind_of (get_or es 0 no_entry)) where
      abbrev first : Entry
      first = get_or es 0 no_entry

      by_first : in_use_with s es ≡ cond (usable s (k / 2) && all_of_kind k es) (used_by first) fallback
      by_first = rw q (go es some)
        where
          go : (l : List Entry) → 0 < length l → in_use_with s l ≡ cond (usable s (kind_of (get_or l 0 no_entry) / 2) && all_of_kind (kind_of (get_or l 0 no_entry)) l) (used_by (get_or l 0 no_entry)) fallback
          go [] h = absurd (omega arith)
          go (e ∷ l) h = in-use-first e l

      pub in-use-unusable : usable s (k / 2) ≡ false → fallback ≡ in_use_with s es
      in-use-unusable n = sym (by_first ∙ rw n)

      pub in-use-differs : all_of_kind k es ≡ false → fallback ≡ in_use_with s es
      in-use-differs d = sym (by_first ∙ rw (d, and-false (usable s (k / 2))))

      pub in-use-agreed : usable s (k / 2) ≡ true → all_of_kind k es ≡ true → record { algorithm = k / 2; ac_df = eqb (k % 2) 1 } ≡ in_use_with s es
      in-use-agreed u d =
          let e = kind-halves first in
          sym (by_first ∙ rw (u, d) (rw (q, e.0, e.1)))

-- with nothing set it is document 01's, whose algorithms are 0 to 3
pub in-use-none : (l : List Entry) → in_use_with nothing_set l ≡ in_use l
unfolding in_use_with in_use
in-use-none [] = refl
in-use-none (e ∷ l) = rw (usable-none e.algorithm)

pub in-use-four : (l : List Entry) → (in_use l).algorithm < 4
unfolding in_use
in-use-four [] = omega arith
in-use-four (e ∷ l) =
    either e.algorithm 4
    (λ h. cond-by (λ (u : InUse). u.algorithm < 4) (ltb e.algorithm 4 && all_carry e.algorithm e.ac_df l) (λ _. h) (λ _. omega arith))
    (λ g. rw (le-ltb e.algorithm 4 g) (omega arith))
