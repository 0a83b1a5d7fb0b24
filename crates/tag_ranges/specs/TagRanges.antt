-- Ranges of tags as they are kept (document 02, M-109), in 100 words that a caller lends: the words of the ranges as they were handed in (`ranges`), and then those of their index
-- (`range_index`), which follow from them.
--   tag_ranges_words l        == THE words of the ranges l
--   tag_ranges_in b           == the ranges that lie in the words b
--   ValidTagRanges b        == b is the words of ranges that the calls can have made
--   TagRangesTold c n b     == the number n and the ranges in the words b are what the call's answer c says
use Rattle.std.specs.Prelude.{ℕ, ◌≡◌, List, ◌++◌, take}
use Rattle.ranges.specs.Ranges.{RangesChange, RangesRight, ranges_words, ranges_in}
use Rattle.range_index.specs.Index.{index_words}

unfoldable pub tag_ranges_words : List (List ℕ) → List ℕ
tag_ranges_words l = ranges_words l ++ index_words l

unfoldable pub tag_ranges_in : List ℕ → List (List ℕ)
tag_ranges_in b = ranges_in (take 49 b)

pub record ValidTagRanges (b : List ℕ) : Type 0 where
  pub sound : RangesRight (tag_ranges_in b)
  pub whole : b ≡ tag_ranges_words (tag_ranges_in b)

abbrev pub TagRangesTold : RangesChange → ℕ → List ℕ → Type 0
TagRangesTold c n b = (n ≡ c.number) × (tag_ranges_in b ≡ c.ranges)
