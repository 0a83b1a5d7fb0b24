-- Laws of `specs/TagRanges.antt`: the two parts of the words, and what setting ranges answers and leaves of them. Assumes nothing.
use Prim.Native.Nat.{ℕ, ◌+◌, ◌-◌, ◌*◌, ◌≤◌}
use native.Mathlib.Nat.{zero-mul, zero-add}
use native.Mathlib.Omega.{arith}
use mathlib.Core.Path.{◌≡◌, refl, ap, ap₂, ◌∙◌, sym, subst}
use mathlib.Core.List.{List, [], ◌∷◌, ◌++◌, append-nil}
use lib.ListN.{length, take, drop, replicate, length-append, length-drop, drop_of_length-le}
use lib.Seq.{take_all, take-append_seam, drop-append_seam}
use Rattle.rows.specs.Rows.{inserted}
use Rattle.lists.proofs.Bools.{by-test}
use Rattle.ranges.specs.Ranges.{may_be_ranges, ranges_set, RangesRight, ranges_words, ranges_in, ValidRanges, RangesTold}
use Rattle.ranges.proofs.Laws as ranges
use Rattle.range_index.specs.Index.{index_words}
use Rattle.range_index.proofs.Laws.{length-index, index-none}
use Rattle.tag_ranges.specs.TagRanges.{tag_ranges_words, tag_ranges_in, ValidTagRanges, TagRangesTold}

-- A PART of words, from a place on to the end, as it is lent, and written anew
module _ (k : ℕ) (b : List ℕ) where
  pub part-from : take (length b - k) (drop k b) ≡ drop k b
  part-from = take_all (length b - k) (drop k b) (omega (arith, length-drop k b))

  pub none-behind : (y : List ℕ) → y ++ drop (length b - k) (drop k b) ≡ y
  none-behind y = ap (λ (l : List ℕ). y ++ l) (drop_of_length-le (drop k b) {i = length b - k} (omega (arith, length-drop k b))) ∙ append-nil y

-- WORDS
length-kept : (l : List (List ℕ)) → RangesRight l → length (ranges_words l) ≡ 49
length-kept l r = ranges.length-ranges (ranges_words l) (ranges.words-valid l (ranges_words l) r refl)

module _ (l : List (List ℕ)) (r : RangesRight l) where
  front : take 49 (tag_ranges_words l) ≡ ranges_words l
  unfolding tag_ranges_words
  front = subst (λ (n : ℕ). take n (ranges_words l ++ index_words l) ≡ ranges_words l) (length-kept l r) (take-append_seam (ranges_words l) (index_words l))

  back : drop 49 (tag_ranges_words l) ≡ index_words l
  unfolding tag_ranges_words
  back = subst (λ (n : ℕ). drop n (ranges_words l ++ index_words l) ≡ index_words l) (length-kept l r) (drop-append_seam (ranges_words l) (index_words l))

  length-words : length (tag_ranges_words l) ≡ 100
  unfolding tag_ranges_words
  length-words = length-append (ranges_words l) (index_words l) ∙ ap₂ (λ (m n : ℕ). m + n) (length-kept l r) (length-index l r.few r.wide)

  pub words-in : (b : List ℕ) → b ≡ tag_ranges_words l → tag_ranges_in b ≡ l
  unfolding tag_ranges_in
  words-in b e = ap (λ (w : List ℕ). ranges_in (take 49 w)) e ∙ ap ranges_in front ∙ ranges.ranges-words-in l (ranges_words l) r refl

  -- the words of ranges that the calls can have made
  pub words-valid : (b : List ℕ) → b ≡ tag_ranges_words l → ValidTagRanges b
  words-valid b e =
      let i = words-in b e in record {
        sound = subst RangesRight (sym i) r;
        whole = e ∙ ap tag_ranges_words (sym i);
      }

pub zeros-none : (tag_ranges_in (replicate 100 0) ≡ []) × ValidTagRanges (replicate 100 0)
unfolding tag_ranges_words
zeros-none =
    let e : replicate 100 0 ≡ tag_ranges_words [] = ap₂ (λ (x y : List ℕ). x ++ y) ((ranges.zeros-none).1.whole ∙ ap ranges_words (ranges.zeros-none).0) index-none in
    (words-in [] ranges.none-ranges (replicate 100 0) e, words-valid [] ranges.none-ranges (replicate 100 0) e)

-- their parts
module _ (b : List ℕ) (v : ValidTagRanges b) where
  pub length-tag-ranges : length b ≡ 100
  length-tag-ranges = ap length v.whole ∙ length-words (tag_ranges_in b) v.sound

  kept-words : take 49 b ≡ ranges_words (tag_ranges_in b)
  kept-words = ap (take 49) v.whole ∙ front (tag_ranges_in b) v.sound

  pub valid-kept : ValidRanges (take 49 b)
  valid-kept = ranges.words-valid (tag_ranges_in b) (take 49 b) v.sound kept-words

  index-words : drop 49 b ≡ index_words (ranges_in (take 49 b))
  unfolding tag_ranges_in
  index-words = ap (drop 49) v.whole ∙ back (tag_ranges_in b) v.sound

  pub index-part : take (length b - 49) (drop 49 b) ≡ index_words (ranges_in (take 49 b))
  index-part = part-from 49 b ∙ index-words

-- WHAT SETTING THEM ANSWERS AND LEAVES. What a run answers, and what it leaves where it is accepted, does not go by the ranges before it
module _ (l m : List (List ℕ)) (w : List ℕ) where
  same_number : (ranges_set l w).number ≡ (ranges_set m w).number
  unfolding ranges_set
  same_number = refl

  same-ranges : (ranges_set l w).number ≡ 0 → (ranges_set l w).ranges ≡ (ranges_set m w).ranges
  unfolding ranges_set
  same-ranges z = by-test (may_be_ranges w) (λ e. rw e) (λ e. absurd (omega (arith, sym (rw e at z))))

-- words put before others, in place of as many
none-taken : (l : List ℕ) → take 0 l ≡ []
none-taken [] = refl
none-taken (x ∷ l) = refl

laid : (y b : List ℕ) → inserted 0 0 y b ≡ y ++ drop (length y) b
unfolding inserted
laid y b = rw (zero-mul (length y), zero-add (length y)) (ap (λ (x : List ℕ). (y ++ x) ++ drop (length y) b) (none-taken (drop 0 b)) ∙ ap (λ (x : List ℕ). x ++ drop (length y) b) (append-nil y))

-- refused, the words stay; accepted, they are those of the new ranges, which were set upon words with the ranges m
module _ (b : List ℕ) (v : ValidTagRanges b) (m : List (List ℕ)) (w : List ℕ) (n : ℕ) (y : List ℕ) (o : RangesTold (ranges_set m w) n y) where
  pub told-refused : (n ≡ 0 → ⊥) → TagRangesTold (ranges_set (tag_ranges_in b) w) n b × ValidTagRanges b
  told-refused z =
      let same = o.0 ∙ same_number m (tag_ranges_in b) w in
      ((same, sym (ranges.ranges-refused (tag_ranges_in b) w (λ e. z (same ∙ e)))), v)

  pub asks-room : ValidRanges y → (0 ≤ 0) × (0 * length y + length y ≤ length b)
  asks-room u = (omega arith, omega (arith, zero-mul (length y), ranges.length-ranges y u, length-tag-ranges b v))

  module _ (u : ValidRanges y) (z : n ≡ 0) (g : List ℕ) (h : g ≡ inserted 0 0 y b) where
    parts : g ≡ y ++ drop 49 b
    parts = h ∙ laid y b ∙ ap (λ (k : ℕ). y ++ drop k b) (ranges.length-ranges y u)

    pub length-laid : length g ≡ 100
    length-laid = ap length parts ∙ length-append y (drop 49 b) ∙ omega (arith, ranges.length-ranges y u, length-drop 49 b, length-tag-ranges b v)

    first_part : take 49 g ≡ y
    first_part = ap (take 49) parts ∙ subst (λ (k : ℕ). take k (y ++ drop 49 b) ≡ y) (ranges.length-ranges y u) (take-append_seam y (drop 49 b))

    pub told-set : (d : List ℕ) → d ≡ index_words (ranges_in y)
        → TagRangesTold (ranges_set (tag_ranges_in b) w) 0 (take 49 g ++ (d ++ drop (length g - 49) (drop 49 g))) × ValidTagRanges (take 49 g ++ (d ++ drop (length g - 49) (drop 49 g)))
    unfolding tag_ranges_words
    told-set d q =
        let e : take 49 g ++ (d ++ drop (length g - 49) (drop 49 g)) ≡ tag_ranges_words (ranges_in y) = rw (none-behind 49 g d, first_part) (ap₂ (λ (x t : List ℕ). x ++ t) u.whole q) in
        let same = sym o.0 ∙ z in
        ((sym (same_number (tag_ranges_in b) m w ∙ same), words-in (ranges_in y) u.sound _ e ∙ o.1 ∙ same-ranges m (tag_ranges_in b) w same), words-valid (ranges_in y) u.sound _ e)
