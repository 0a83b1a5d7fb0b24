-- Laws of `specs/Ranges.antt`: the ranges that a run of numbers names and those that lie in words, which of them may be set, what setting them answers and keeps, and the
-- algorithm for a tag. Assumes nothing.
use Prim.Native.Nat.{ℕ, zero, suc, ◌+◌, ◌-◌, ◌*◌, ◌/◌, ◌%◌, ◌≤◌, ◌<◌}
use native.Mathlib.Nat.{suc-mul, zero-mul, add-zero}
use native.Mathlib.Numerals.{add-one}
use native.Mathlib.Omega.{arith}
use mathlib.Core.Path.{◌≡◌, refl, ap, ◌∙◌, sym, subst}
use mathlib.Core.Bool.{Bool, true, false, not, ◌&&◌, ◌||◌, and-false}
use mathlib.Core.List.{List, [], ◌∷◌, ◌++◌, append-nil}
use mathlib.Core.Logic.{◌⊎◌, inl, inr, ⊎_elim}
use lib.ListN.{length, get_or, set, take, drop, replicate, length-drop, take-append-drop, drop_of_length-le}
use lib.Seq.{paste, paste-suc, length-take-le, take_all, drop-cons, get_or-take, get_or-drop}
use lib.Dec.{leb, eqb}
use borrow.Author.Tests.{leb-true, eqb-true, not-true, le-leb, lt-leb, eq-eqb, ne_eqb}
use Rattle.refusals.specs.Refusals.{ranges_wrong}
use Rattle.lists.specs.Lists.{all, Every}
use Rattle.lists.proofs.Bools.{by-test, cond-by}
use Rattle.lists.proofs.Lists.{empty}
use Rattle.rows.specs.Rows.{rows_in, flat, column}
use Rattle.rows.proofs.Rows.{rows-length, rows_at}
use Rattle.rows.proofs.Columns.{Wide, length-flat, rows-flat, length-column, rows-column}
use Rattle.tags.specs.Tags.{reserved_tag}
use Rattle.ranges.specs.Ranges.{first_tag, last_tag, named_by, holds_tag, range_right, overlap, disjoint, ranges_of, may_be_ranges, ranges_set, algorithm_in, RangesRight, ranges_words, ranges_in, ValidRanges, RangesTold}

-- TWO TESTS
pub both : (p q : Bool) → (p && q) ≡ true → (p ≡ true) × (q ≡ true)
both true q h = (refl, h)
both false q h = (h, cc)

either-of : (p q : Bool) → (p || q) ≡ true → (p ≡ true) ⊎ (q ≡ true)
either-of true q h = inl refl
either-of false q h = inr h

-- ROWS OF WORDS: the words of the row at a place, and rows that are the whole run
module _ (n : ℕ) (w : List ℕ) (i : ℕ) (h : i < n) where
  word_of : (j : ℕ) → j < 3 → get_or (get_or (rows_in 3 n w) i []) j 0 ≡ get_or w (i * 3 + j) 0
  word_of j l = ap (λ (r : List ℕ). get_or r j 0) (rows_at 3 n w i h) ∙ get_or-take 3 (drop (i * 3) w) j 0 l ∙ get_or-drop (i * 3) w j 0

  first_word : first_tag (get_or (rows_in 3 n w) i []) ≡ get_or w (i * 3) 0
  first_word = word_of 0 (omega arith) ∙ ap (λ (p : ℕ). get_or w p 0) (add-zero (i * 3))

  last_word : last_tag (get_or (rows_in 3 n w) i []) ≡ get_or w (i * 3 + 1) 0
  last_word = word_of 1 (omega arith)

  named-word : named_by (get_or (rows_in 3 n w) i []) ≡ get_or w (i * 3 + 2) 0
  named-word = word_of 2 (omega arith)

module _ (k : ℕ) where
  wide_rows : (n : ℕ) (w : List ℕ) → n * k ≤ length w → Wide k (rows_in k n w)
  unfolding rows_in Every
  wide_rows zero w h = tt
  wide_rows (suc n) w h =
      (length-take-le k w (omega (arith, suc-mul n k, h)), wide_rows n (drop k w) (omega (arith, suc-mul n k, h, length-drop k w)))

  flat_rows : (n : ℕ) (w : List ℕ) → length w ≡ n * k → flat (rows_in k n w) ≡ w
  unfolding rows_in flat
  flat_rows zero w h = sym (empty w (h ∙ zero-mul k))
  flat_rows (suc n) w h =
      ap (λ (x : List ℕ). take k w ++ x) (flat_rows n (drop k w) (omega (arith, suc-mul n k, h, length-drop k w))) ∙ take-append-drop k w

-- zeros behind a run change no number of it, and none behind it
pub get_d-zeros : (w : List ℕ) (m i : ℕ) → get_or (w ++ replicate m 0) i 0 ≡ get_or w i 0
get_d-zeros [] zero i = refl
get_d-zeros [] (suc m) zero = refl
get_d-zeros [] (suc m) (suc i) = get_d-zeros [] m i
get_d-zeros (x ∷ w) m zero = refl
get_d-zeros (x ∷ w) m (suc i) = get_d-zeros w m i

-- A RANGE of a run by its three words, tested in the order of the call that tests it
module _ (w : List ℕ) (i : ℕ) (h : i < length w / 3) where
  abbrev range_at : List ℕ
  range_at = get_or (ranges_of w) i []

  abbrev first : ℕ
  first = get_or w (i * 3) 0

  abbrev last : ℕ
  last = get_or w (i * 3 + 1) 0

  abbrev named : ℕ
  named = get_or w (i * 3 + 2) 0

  right-words : range_right range_at ≡ (not (reserved_tag first) && (not (reserved_tag last) && (leb first last && (eqb named 2 || eqb named 3))))
  unfolding range_right
  right-words = let n = length w / 3 in rw (first_word n w i h, last_word n w i h, named-word n w i h)

  pub first-reserved : reserved_tag first ≡ true → false ≡ range_right range_at
  first-reserved a = sym (right-words ∙ rw a)

  module _ (a : reserved_tag first ≡ false) where
    pub last-reserved : reserved_tag last ≡ true → false ≡ range_right range_at
    last-reserved b = sym (right-words ∙ rw (a, b))

    module _ (b : reserved_tag last ≡ false) where
      pub backwards : last < first → false ≡ range_right range_at
      backwards c = sym (right-words ∙ rw (a, b, lt-leb first last c))

      module _ (c : first ≤ last) where
        pub names-two : named ≡ 2 → true ≡ range_right range_at
        names-two d = sym (right-words ∙ rw (a, b, le-leb first last c, eq-eqb named 2 d))

        pub names-other : (named ≡ 2 → ⊥) → eqb named 3 ≡ range_right range_at
        names-other d = sym (right-words ∙ rw (a, b, le-leb first last c, ne_eqb named 2 d))

  -- and another range of it
  module _ (j : ℕ) (k : j < length w / 3) where
    overlap-words : overlap range_at (get_or (ranges_of w) j []) ≡ (leb first (get_or w (j * 3 + 1) 0) && leb (get_or w (j * 3) 0) last)
    unfolding overlap
    overlap-words = let n = length w / 3 in rw (first_word n w i h, last_word n w i h, first_word n w j k, last_word n w j k)

    pub ends-before : get_or w (j * 3 + 1) 0 < first → false ≡ overlap range_at (get_or (ranges_of w) j [])
    ends-before n = sym (overlap-words ∙ rw (lt-leb first (get_or w (j * 3 + 1) 0) n))

    pub ends-behind : first ≤ get_or w (j * 3 + 1) 0 → leb (get_or w (j * 3) 0) last ≡ overlap range_at (get_or (ranges_of w) j [])
    ends-behind n = sym (overlap-words ∙ rw (le-leb first (get_or w (j * 3 + 1) 0) n))

-- the tests of one range, in their order
pub ruleset range_tests = (first-reserved, last-reserved, backwards, names-two, names-other)

-- A WALK over a list: the test of all from a place on
module _ {A : Type 0} (test : A → Bool) (l : List A) (d : A) where
  all-step : (i : ℕ) → i < length l → all test (drop i l) ≡ (test (get_or l i d) && all test (drop (i + 1) l))
  unfolding all
  all-step i h = rw (add-one, drop-cons l i d h)

  module _ (i : ℕ) (b : Bool) (q : all test (drop i l) ≡ b) where
    pub all_found : i < length l → test (get_or l i d) ≡ false → false ≡ b
    all_found h n = sym (all-step i h ∙ rw n) ∙ q

    pub all-next : i < length l → test (get_or l i d) ≡ true → all test (drop (i + 1) l) ≡ b
    all-next h n = sym (all-step i h ∙ rw n) ∙ q

    pub all_end : length l ≤ i → true ≡ b
    unfolding all
    all_end h = sym (ap (all test) (drop_of_length-le l {i = i} h)) ∙ q

-- all ranges from a place on are right, and no two of them overlap
module _ (l : List (List ℕ)) where
  abbrev pub right_from : ℕ → Bool
  right_from i = all range_right (drop i l) && disjoint (drop i l)

  abbrev pub apart_from : ℕ → Bool
  apart_from i = all (λ q. not (overlap (get_or l i []) q)) (drop (i + 1) l)

  from_step : (i : ℕ) → i < length l
      → right_from i ≡ ((range_right (get_or l i []) && all range_right (drop (i + 1) l)) && (apart_from i && disjoint (drop (i + 1) l)))
  unfolding all disjoint
  from_step i h = rw (add-one, drop-cons l i [] h)

  module _ (i : ℕ) (b : Bool) (q : right_from i ≡ b) where
    module _ (h : i < length l) where
      pub from_wrong : range_right (get_or l i []) ≡ false → false ≡ b
      from_wrong n = sym (from_step i h ∙ rw n) ∙ q

      pub from-overlapped : apart_from i ≡ false → false ≡ b
      from-overlapped n = sym (from_step i h ∙ rw n (and-false (range_right (get_or l i []) && all range_right (drop (i + 1) l)))) ∙ q

      pub from_next : range_right (get_or l i []) ≡ true → apart_from i ≡ true → right_from (i + 1) ≡ b
      from_next m n = sym (from_step i h ∙ rw (m, n)) ∙ q

    pub from_end : length l ≤ i → true ≡ b
    unfolding all disjoint
    from_end h = sym (ap (λ (m : List (List ℕ)). all range_right m && disjoint m) (drop_of_length-le l {i = i} h)) ∙ q

-- RANGES THAT MAY BE SET, tested in the order of the call that tests them
module _ (w : List ℕ) where
  pub not-whole : (length w % 3 ≡ 0 → ⊥) → false ≡ may_be_ranges w
  unfolding may_be_ranges
  not-whole n = rw (ne_eqb (length w % 3) 0 n)

  module _ (e : length w % 3 ≡ 0) where
    pub too_many : 16 < length w / 3 → false ≡ may_be_ranges w
    unfolding may_be_ranges
    too_many m = rw (eq-eqb (length w % 3) 0 e, lt-leb (length w / 3) 16 m)

    pub few-enough : length w / 3 ≤ 16 → (all range_right (ranges_of w) && disjoint (ranges_of w)) ≡ may_be_ranges w
    unfolding may_be_ranges
    few-enough f = rw (eq-eqb (length w % 3) 0 e, le-leb (length w / 3) 16 f)

  module _ (h : may_be_ranges w ≡ true) where
    may-parts : (length w ≡ length w / 3 * 3) × (length w / 3 ≤ 16) × (all range_right (ranges_of w) ≡ true) × (disjoint (ranges_of w) ≡ true)
    unfolding may_be_ranges
    may-parts =
        let a = both (eqb (length w % 3) 0) (leb (length w / 3) 16 && (all range_right (ranges_of w) && disjoint (ranges_of w))) h in
        let b = both (leb (length w / 3) 16) (all range_right (ranges_of w) && disjoint (ranges_of w)) a.1 in
        let c = both (all range_right (ranges_of w)) (disjoint (ranges_of w)) b.1 in
        let whole = eqb-true (length w % 3) 0 a.0 in
        (omega (arith, whole), leb-true (length w / 3) 16 b.0, c.0, c.1)

    pub may-few : length w / 3 ≤ 16
    may-few = may-parts.1

    may-right : RangesRight (ranges_of w)
    may-right =
        let p = may-parts in record {
          few = omega (arith, rows-length 3 (length w / 3) w, p.1);
          wide = wide_rows 3 (length w / 3) w (omega (arith, p.0));
          right = p.2;
          apart = p.3;
        }

    -- the run is the words of its ranges, and zeros follow it in the places
    pub place-words : (i : ℕ) → get_or (column 3 16 (ranges_of w)) i 0 ≡ get_or w i 0
    unfolding column
    place-words i = rw (flat_rows 3 (length w / 3) w may-parts.0) (get_d-zeros w ((16 - length (ranges_of w)) * 3) i)

    pub length-places : length (column 3 16 (ranges_of w)) ≡ 48
    length-places = length-column 3 16 (ranges_of w) may-right.wide may-right.few

-- ranges that are right may be set again from their own words
module _ (l : List (List ℕ)) (r : RangesRight l) where
  length-own : length (flat l) ≡ length l * 3
  length-own = length-flat 3 l r.wide

  ranges-own : ranges_of (flat l) ≡ l
  ranges-own =
      let n : length (flat l) / 3 ≡ length l = omega (arith, length-own) in
      rw n (ap (rows_in 3 (length l)) (sym (append-nil (flat l))) ∙ rows-flat 3 l [] r.wide)

  may-own : may_be_ranges (flat l) ≡ true
  may-own =
      let n = length-own in
      sym (few-enough (flat l) (omega arith) (omega (arith, r.few))) ∙ rw (ranges-own, r.right) r.apart

-- WORDS
module _ (l : List (List ℕ)) (b : List ℕ) where
  pub ranges-words-in : RangesRight l → b ≡ ranges_words l → ranges_in b ≡ l
  unfolding ranges_words ranges_in
  ranges-words-in r e = rw e (ap (rows_in 3 (length l)) (sym (append-nil (column 3 16 l))) ∙ rows-column 3 16 l [] r.wide)

  -- the words of ranges that the calls can have made
  pub words-valid : RangesRight l → b ≡ ranges_words l → ValidRanges b
  words-valid r e =
      let i = ranges-words-in r e in record {
        sound = subst RangesRight (sym i) r;
        whole = e ∙ ap ranges_words (sym i);
      }

pub none-ranges : RangesRight []
unfolding all disjoint Every
none-ranges = record { few = omega arith; wide = tt; right = refl; apart = refl }

module _ (b : List ℕ) (v : ValidRanges b) where
  pub length-ranges : length b ≡ 49
  unfolding ranges_words
  length-ranges = ap length v.whole ∙ ap suc (length-column 3 16 (ranges_in b) v.sound.wide v.sound.few)

  pub count_word : get_or b 0 0 ≡ length (ranges_in b)
  unfolding ranges_words
  count_word = ap (λ (w : List ℕ). get_or w 0 0) v.whole

pub zeros-none : (ranges_in (replicate 49 0) ≡ []) × ValidRanges (replicate 49 0)
unfolding ranges_words ranges_in column flat rows_in
zeros-none = (refl, words-valid [] (replicate 49 0) none-ranges refl)

-- all words written anew: the number of ranges, and the words of their places
pub laid : (d : List ℕ) (n : ℕ) (s : List ℕ) (i : ℕ) → length d ≡ 49 → length s ≡ 48 → i ≡ 48 → paste (set d 0 n) 1 s i ≡ n ∷ s
laid [] n s i m l e = absurd (omega arith)
laid (x ∷ d) n s i m l e =
    rw (e, take_all 48 s (omega arith), drop_of_length-le (n ∷ d) {i = 49} (omega arith)) (ap (λ (t : List ℕ). n ∷ t) (append-nil s))

pub laid_next : (d s e : List ℕ) (i x : ℕ) → length d ≡ 49 → length s ≡ 48 → i < 48 → e ≡ paste d 1 s i → x ≡ get_or s i 0 → set e (i + 1) x ≡ paste d 1 s (i + 1)
laid_next d s e i x m l h q p =
    let f : i + 1 ≡ 1 + i = omega arith in
    let g : suc i ≡ i + 1 = omega arith in
    rw (p, q) (ap (λ (j : ℕ). set (paste d 1 s i) j (get_or s i 0)) f ∙ paste-suc d 1 s i 0 (omega arith) (omega arith) ∙ ap (paste d 1 s) g)

pub words-laid : (w : List ℕ) → length w / 3 ∷ column 3 16 (ranges_of w) ≡ ranges_words (ranges_of w)
unfolding ranges_words
words-laid w = ap (λ (n : ℕ). n ∷ column 3 16 (ranges_of w)) (sym (rows-length 3 (length w / 3) w))

-- WHAT SETTING THEM ANSWERS AND KEEPS
module _ (l : List (List ℕ)) (w : List ℕ) where
  pub ranges-kept : RangesRight l → RangesRight (ranges_set l w).ranges
  unfolding ranges_set
  ranges-kept r = cond-by RangesRight (may_be_ranges w) (λ e. may-right w e) (λ _. r)

  pub ranges-refused : ((ranges_set l w).number ≡ 0 → ⊥) → (ranges_set l w).ranges ≡ l
  unfolding ranges_set
  ranges-refused n = by-test (may_be_ranges w) (λ e. absurd (n (rw e))) (λ e. rw e)

pub ranges-again : (l m : List (List ℕ)) → RangesRight l → ((ranges_set m (flat l)).number ≡ 0) × ((ranges_set m (flat l)).ranges ≡ l)
unfolding ranges_set
ranges-again l m r = let e = may-own l r in (rw e, rw e (ranges-own l r))

-- the returns of the call that sets them: refused, the words stay; accepted, they are those of the new ranges
module _ (b : List ℕ) (v : ValidRanges b) (w : List ℕ) where
  pub told-refused : may_be_ranges w ≡ false → RangesTold (ranges_set (ranges_in b) w) ranges_wrong b × ValidRanges b
  unfolding ranges_set
  told-refused e = ((rw e, rw e), v)

  pub told-set : may_be_ranges w ≡ true → (d : List ℕ) → d ≡ ranges_words (ranges_of w) → RangesTold (ranges_set (ranges_in b) w) 0 d × ValidRanges d
  unfolding ranges_set
  told-set e d q = ((rw e, rw e (ranges-words-in (ranges_of w) d (may-right w e) q)), words-valid (ranges_of w) d (may-right w e) q)

-- A RANGE THAT IS RIGHT: its last tag is not reserved, it does not run backwards, and it names 2 or 3
pub right-parts : (r : List ℕ) → range_right r ≡ true → (reserved_tag (last_tag r) ≡ false) × (first_tag r ≤ last_tag r) × ((named_by r ≡ 2) ⊎ (named_by r ≡ 3))
unfolding range_right
right-parts r h =
    let names = eqb (named_by r) 2 || eqb (named_by r) 3 in
    let forward = leb (first_tag r) (last_tag r) && names in
    let last = not (reserved_tag (last_tag r)) && forward in
    let a = both (not (reserved_tag (first_tag r))) last h in
    let b = both (not (reserved_tag (last_tag r))) forward a.1 in
    let c = both (leb (first_tag r) (last_tag r)) names b.1 in (
      not-true (reserved_tag (last_tag r)) b.0,
      leb-true (first_tag r) (last_tag r) c.0,
      ⊎_elim (λ p. inl (eqb-true (named_by r) 2 p)) (λ q. inr (eqb-true (named_by r) 3 q)) (either-of (eqb (named_by r) 2) (eqb (named_by r) 3) c.1),
    )

-- THE ALGORITHM FOR A TAG
pub algorithm-none : (tag a : ℕ) → algorithm_in [] tag a ≡ a
unfolding algorithm_in
algorithm-none tag a = refl

named-or : (l : List (List ℕ)) (tag a : ℕ) → all range_right l ≡ true → (algorithm_in l tag a ≡ a) ⊎ ((algorithm_in l tag a ≡ 2) ⊎ (algorithm_in l tag a ≡ 3))
unfolding algorithm_in all
named-or [] tag a h = inl refl
named-or (r ∷ l) tag a h =
    let t = both (range_right r) (all range_right l) h in
    cond-by (λ (x : ℕ). (x ≡ a) ⊎ ((x ≡ 2) ⊎ (x ≡ 3))) (holds_tag r tag) (λ _. inr (right-parts r t.0).2) (λ _. named-or l tag a t.1)

pub algorithm-named : (l : List (List ℕ)) (tag a : ℕ) → RangesRight l → (algorithm_in l tag a ≡ a) ⊎ ((algorithm_in l tag a ≡ 2) ⊎ (algorithm_in l tag a ≡ 3))
algorithm-named l tag a r = named-or l tag a r.right
