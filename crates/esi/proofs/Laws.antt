-- Laws on reserved identifiers and on the text of an identifier, for the proofs of this crate and of those above.
-- Assumes nothing.
use Prim.Native.Nat.{ℕ, ◌+◌, ◌*◌, ◌<◌, ◌≤◌}
use native.Mathlib.Omega.{arith}
use mathlib.Core.Path.{◌≡◌, refl, sym, ap, ◌∙◌}
use mathlib.Core.Bool.{Bool, true, false, cond, not, ◌||◌, and-eq-true_iff, and-false}
use mathlib.Core.List.{List, ◌++◌}
use lib.ListN.{length, get_or, set, take, drop, replicate}
use lib.Seq.{take_all, take_at}
use lib.Dec.{eqb}
use borrow.Author.Tests.{not-false, eq-eqb, ne_eqb, eqb-true, lt-ltb, le-ltb}
use Rattle.lists.proofs.Bools.{or_left}
use Rattle.lists.proofs.Checks.{refused-at, refused_none}
use Rattle.octets.specs.Octets.{all_are}
use Rattle.octets.proofs.Laws.{Octets, octets-replicate, front-next, front-all}
use Rattle.esi.specs.Reserved.{reserved}
use Rattle.esi.specs.Text.{TextRead, value_of_digit, first_wrong, right_in, FirstFault, well_formed, esi_in, accepted, refused, read_text, character_at, text_of, lower_case, write_text_number, text_written}
use Rattle.esi.proofs.Places.{Right, high_value, low_value, length-text, get_d-text, esi-octets, text-esi, text-right, esi-text, first-fault, right-each, each_right}

-- ---- reserved identifiers

module _ (s : List ℕ) where
  pub reserved-length : (length s ≡ 10 → ⊥) → reserved s ≡ true
  unfolding reserved
  reserved-length n = rw (ne_eqb (length s) 10 n)

  pub reserved-ten : length s ≡ 10 → reserved s ≡ (all_are 0 s || all_are 255 s)
  unfolding reserved
  reserved-ten e = rw (eq-eqb (length s) 10 e)

  pub reserved-all-zero : length s ≡ 10 → all_are 0 s ≡ true → reserved s ≡ true
  reserved-all-zero e h = reserved-ten e ∙ rw h

  pub reserved-not-zero : length s ≡ 10 → all_are 0 s ≡ false → reserved s ≡ all_are 255 s
  reserved-not-zero e h = reserved-ten e ∙ rw h

  pub length-not-reserved : reserved s ≡ false → length s ≡ 10
  unfolding reserved
  length-not-reserved h = eqb-true (length s) 10 (not-false _ (or_left _ (all_are 0 s || all_are 255 s) h))

-- what the code of the test goes by
pub ruleset reserving = (reserved-length, reserved-all-zero, reserved-not-zero)

-- ---- the three answers of reading

module _ (t : List ℕ) where
  pub read-malformed : well_formed t ≡ false → read_text t ≡ refused 13 (first_wrong t)
  unfolding read_text
  read-malformed h = rw h

  pub read-reserved : well_formed t ≡ true → reserved (esi_in t) ≡ true → read_text t ≡ refused 4 0
  unfolding read_text
  read-reserved h k = rw (h, k)

  pub read-accepted : well_formed t ≡ true → reserved (esi_in t) ≡ false → read_text t ≡ accepted (esi_in t)
  unfolding read_text
  read-accepted h k = rw (h, k)

  -- where the code finds a text well formed, and where not
  pub malformed-length : (length t ≡ 29 → ⊥) → well_formed t ≡ false
  unfolding well_formed
  malformed-length n = rw (ne_eqb (length t) 29 n)

  pub malformed-at : (first_wrong t ≡ 29 → ⊥) → well_formed t ≡ false
  unfolding well_formed
  malformed-at n = rw (ne_eqb (first_wrong t) 29 n) (and-false (eqb (length t) 29))

  pub well-formed : length t ≡ 29 → first_wrong t ≡ 29 → well_formed t ≡ true
  unfolding well_formed
  well-formed n e = rw (eq-eqb (length t) 29 n, eq-eqb (first_wrong t) 29 e)

  pub well-formed-length : well_formed t ≡ true → length t ≡ 29
  unfolding well_formed
  well-formed-length h = eqb-true (length t) 29 ((and-eq-true_iff (eqb (length t) 29) (eqb (first_wrong t) 29)).0 h).0

  pub well-formed-right : well_formed t ≡ true → Right t
  unfolding well_formed first_wrong
  well-formed-right h i k =
      let n = well-formed-length h in
      let e = eqb-true (first_wrong t) 29 ((and-eq-true_iff (eqb (length t) 29) (eqb (first_wrong t) 29)).0 h).1 in
      right-each t ((rw (take_all 29 t (omega arith)) at e) ∙ sym n) i (omega arith)

  -- the two digits of an octet
  module _ (w : well_formed t ≡ true) (k : ℕ) (l : k < 10) where
    pub high_digit : value_of_digit (get_or t (3 * k) 0) < 16
    high_digit = high_value t (well-formed-right w) k l

    pub low_digit : value_of_digit (get_or t (3 * k + 1) 0) < 16
    low_digit = low_value t (well-formed-right w) k l

-- what the code of an octet goes by
pub ruleset octet_digits = (well-formed-length, high_digit, low_digit)

-- what holds of each of the three answers holds of the answer
pub read-cases : (t : List ℕ) (P : TextRead → Type 0) → (well_formed t ≡ false → P (refused 13 (first_wrong t))) → (well_formed t ≡ true → reserved (esi_in t) ≡ true → P (refused 4 0))
    → (well_formed t ≡ true → reserved (esi_in t) ≡ false → P (accepted (esi_in t))) → P (read_text t)
unfolding read_text
read-cases t P = go (well_formed t) (reserved (esi_in t))
  where
    go : (w r : Bool) → (w ≡ false → P (refused 13 (first_wrong t))) → (w ≡ true → r ≡ true → P (refused 4 0)) → (w ≡ true → r ≡ false → P (accepted (esi_in t)))
        → P (cond (not w) (refused 13 (first_wrong t)) (cond r (refused 4 0) (accepted (esi_in t))))
    go false r a b c = a refl
    go true true a b c = b refl refl
    go true false a b c = c refl refl

-- ---- what is read

module _ (t : List ℕ) where
  pub read-octets : Octets (read_text t).esi
  read-octets = read-cases t (λ a. Octets a.esi) (λ w. zeros) (λ w r. zeros) (λ w r. esi-octets t (well-formed-right t w))
    where
      zeros : Octets (replicate 10 0)
      zeros = octets-replicate 10 0 (omega arith)

  -- where 13 is answered, its offset is the first fault
  pub read-fault : (read_text t).number ≡ 13 → FirstFault t (read_text t).offset
  read-fault =
      read-cases t (λ a. a.number ≡ 13 → FirstFault t a.offset) (λ w e. first-fault t) (λ w r e. absurd (omega arith)) (λ w r e. absurd (omega arith))

  -- the text of what was read is the text that was read, in lower case
  pub text-of-read : Octets t → (read_text t).number ≡ 0 → text_of (read_text t).esi ≡ lower_case t
  text-of-read o =
      read-cases t (λ a. a.number ≡ 0 → text_of a.esi ≡ lower_case t) (λ w e. absurd (omega arith)) (λ w r e. absurd (omega arith))
      (λ w r e. text-esi t (well-formed-length t w) o (well-formed-right t w))

-- what the code of reading goes by: the two halves of a fault, and the text of what was read
pub fault_before : (t : List ℕ) (i : ℕ) → i < first_wrong t → right_in t i ≡ true
fault_before t i h = (first-fault t).0 i h

pub fault_at : (t : List ℕ) → right_in t (first_wrong t) ≡ false
fault_at t = (first-fault t).1

pub text_of_found : (t : List ℕ) → length t ≡ 29 → first_wrong t ≡ 29 → Octets t → text_of (esi_in t) ≡ lower_case t
text_of_found t n e o = text-esi t n o (well-formed-right t (well-formed t n e))

pub ruleset reading = (fault_before, fault_at, text_of_found)

-- ---- reading what was written

module _ (s : List ℕ) (o : Octets s) where
  text-well-formed : well_formed (text_of s) ≡ true
  unfolding first_wrong
  text-well-formed =
      let n = length-text s in
      well-formed (text_of s) n
      (rw (take_all 29 (text_of s) (omega arith)) (each_right (text_of s) (λ i h. rw (get_d-text s i (omega arith)) (text-right s o i)) ∙ n))

  pub read-of-text : reserved s ≡ false → read_text (text_of s) ≡ accepted s
  read-of-text h =
      let e = esi-text s o (length-not-reserved s h) in
      read-accepted (text_of s) text-well-formed (rw e h) ∙ ap accepted e

-- ---- the answers of writing

module _ (d s : List ℕ) where
  pub number-reserved : reserved s ≡ true → 4 ≡ write_text_number (length d) s
  unfolding write_text_number
  number-reserved h = refused-at 0 _ tt h

  pub number_short : reserved s ≡ false → length d < 29 → 14 ≡ write_text_number (length d) s
  unfolding write_text_number
  number_short h k = refused-at 1 _ (h, tt) (lt-ltb _ _ k)

  pub number-written : reserved s ≡ false → 29 ≤ length d → 0 ≡ write_text_number (length d) s
  unfolding write_text_number
  number-written h k = refused_none _ (h, (le-ltb _ _ k, tt))

  pub written-refused : (write_text_number (length d) s ≡ 0 → ⊥) → text_written d s ≡ d
  unfolding text_written
  written-refused n = rw (ne_eqb (write_text_number (length d) s) 0 n)

  pub written-text : 0 ≡ write_text_number (length d) s → text_written d s ≡ text_of s ++ drop 29 d
  unfolding text_written
  written-text e = rw (← e)

  pub take-written : 0 ≡ write_text_number (length d) s → take 29 (text_written d s) ≡ text_of s
  take-written e = rw (written-text e) (take_at (text_of s) (drop 29 d) 29 (length-text s))

-- the same answers, and the buffer with each, by what the code finds
module _ (d s : List ℕ) where
  module _ (h : reserved s ≡ true) where
    pub number_reserved : write_text_number (length d) s ≡ 4
    number_reserved = sym (number-reserved d s h)

    pub buffer_reserved : text_written d s ≡ d
    buffer_reserved = written-refused d s (omega (arith, number_reserved))

  module _ (h : reserved s ≡ false) where
    pub number_under : length d < 29 → write_text_number (length d) s ≡ 14
    number_under k = sym (number_short d s h k)

    pub buffer_under : length d < 29 → text_written d s ≡ d
    buffer_under k = written-refused d s (omega (arith, number_under k))

    pub number_stands : 29 ≤ length d → write_text_number (length d) s ≡ 0
    number_stands k = sym (number-written d s h k)

    pub buffer_stands : 29 ≤ length d → text_written d s ≡ text_of s ++ drop 29 d
    buffer_stands k = written-text d s (number-written d s h k)

    pub text_reads : Octets s → read_text (take 29 (text_of s ++ drop 29 d)) ≡ accepted s
    text_reads o = rw (take_at (text_of s) (drop 29 d) 29 (length-text s)) (read-of-text s o h)

  -- the buffer while the text is written, up to offset i and at the end
  pub text_further : (i : ℕ) → i < 29 → i < length d
      → set (take i (text_of s) ++ drop i d) i (character_at s i) ≡ take (i + 1) (text_of s) ++ drop (i + 1) d
  text_further i n k = rw (← get_d-text s i n) (front-next d (text_of s) i k (rw (length-text s) n))

  pub text_all : (i : ℕ) → i ≡ 29 → take i (text_of s) ++ drop i d ≡ text_of s ++ drop 29 d
  text_all i e = rw e (front-all d (text_of s) 29 (length-text s))

-- what the code of writing goes by
pub ruleset writing = (number_reserved, buffer_reserved, number_under, buffer_under, number_stands, buffer_stands, text_all, length-not-reserved)
