-- Ranges of Ethernet Tags that name another algorithm (document 02, M-109; RFC 9785, section 4.2), in 49 words that a caller lends: how many there are, and then 16 places for rows
-- of three words, the first tag, the last tag, and 2 (Highest-Preference) or 3 (Lowest-Preference). They stand as they were handed in, and unused places are zero.
--   first_tag r, last_tag r, named_by r == the parts of the range r
--   holds_tag r tag      == whether the tag is in the range r
--   range_right r        == whether r may be a range: its tags are not reserved and do not run backwards, and it names 2 or 3
--   overlap r q         == whether some tag is in both ranges
--   disjoint l          == whether no two ranges of l overlap
--   ranges_of w          == the ranges that the numbers w name, three to a range
--   may_be_ranges w       == whether the numbers w may be set as ranges: at most 16 whole ones, each right, no two of which overlap
--   RangesChange        == what setting them answers, a number, and the ranges as they then are
--   ranges_set l w       == the answer to setting w, where the ranges l were set
--   algorithm_in l tag a == the algorithm for a tag where a is in use: the one that its range names, if it is in one
--   RangesRight l       == what every call keeps of the ranges
--   ranges_words l       == THE words of the ranges l
--   ranges_in b          == the ranges that lie in the words b
--   ValidRanges b       == b is the words of ranges that the calls can have made
--   RangesTold c n b    == the number n and the ranges in the words b are what the call's answer c says
use Rattle.std.specs.Prelude.{ℕ, ◌/◌, ◌%◌, ◌≤◌, ◌≡◌, Bool, true, cond, not, ◌&&◌, ◌||◌, List, [], ◌∷◌, length, get_or, leb, eqb}
use Rattle.lists.specs.Lists.{all, Every}
use Rattle.rows.specs.Rows.{rows_in, column}
use Rattle.tags.specs.Tags.{reserved_tag}
use Rattle.refusals.specs.Refusals.{ranges_wrong}

abbrev pub first_tag : List ℕ → ℕ
first_tag r = get_or r 0 0

abbrev pub last_tag : List ℕ → ℕ
last_tag r = get_or r 1 0

abbrev pub named_by : List ℕ → ℕ
named_by r = get_or r 2 0

unfoldable pub holds_tag : List ℕ → ℕ → Bool
holds_tag r tag = leb (first_tag r) tag && leb tag (last_tag r)

unfoldable pub range_right : List ℕ → Bool
range_right r =
    not (reserved_tag (first_tag r))
    && (not (reserved_tag (last_tag r))
    && (leb (first_tag r) (last_tag r)
    && (eqb (named_by r) 2 || eqb (named_by r) 3)))

unfoldable pub overlap : List ℕ → List ℕ → Bool
overlap r q = leb (first_tag r) (last_tag q) && leb (first_tag q) (last_tag r)

unfoldable pub disjoint : List (List ℕ) → Bool
disjoint [] = true
disjoint (r ∷ l) = all (λ q. not (overlap r q)) l && disjoint l

abbrev pub ranges_of : List ℕ → List (List ℕ)
ranges_of w = rows_in 3 (length w / 3) w

unfoldable pub may_be_ranges : List ℕ → Bool
may_be_ranges w = eqb (length w % 3) 0 && (leb (length w / 3) 16 && (all range_right (ranges_of w) && disjoint (ranges_of w)))

-- CALLS: a set replaces all, and an empty one clears them; others are refused with 20, and the old ones kept
pub record RangesChange : Type 0 where
  pub number : ℕ
  pub ranges : List (List ℕ)

unfoldable pub ranges_set : List (List ℕ) → List ℕ → RangesChange
ranges_set l w = record { number = cond (may_be_ranges w) 0 ranges_wrong; ranges = cond (may_be_ranges w) (ranges_of w) l }

unfoldable pub algorithm_in : List (List ℕ) → ℕ → ℕ → ℕ
algorithm_in [] tag a = a
algorithm_in (r ∷ l) tag a = cond (holds_tag r tag) (named_by r) (algorithm_in l tag a)

-- WORDS
pub record RangesRight (l : List (List ℕ)) : Type 0 where
  pub few : length l ≤ 16
  pub wide : Every (λ r. length r ≡ 3) l
  pub right : all range_right l ≡ true
  pub apart : disjoint l ≡ true

unfoldable pub ranges_words : List (List ℕ) → List ℕ
ranges_words l = length l ∷ column 3 16 l

unfoldable pub ranges_in : List ℕ → List (List ℕ)
ranges_in [] = []
ranges_in (n ∷ b) = rows_in 3 n b

pub record ValidRanges (b : List ℕ) : Type 0 where
  pub sound : RangesRight (ranges_in b)
  pub whole : b ≡ ranges_words (ranges_in b)

abbrev pub RangesTold : RangesChange → ℕ → List ℕ → Type 0
RangesTold c n b = (n ≡ c.number) × (ranges_in b ≡ c.ranges)
