-- What the operator sets upon a segment, beside its routes: the algorithm numbers of the two election kinds by flow, that for (S,G) and that for (*,G) (document 02, M-106), and
-- the ranges of tags that name another algorithm (document 02, M-109). They lie in 102 words that a caller lends: the two numbers, and then those of the ranges.
--   Settings            == the two numbers, both 0 where none are set, and the ranges
--   nothing_set             == none are set, as at first
--   may_be_set a b        == whether a, for (S,G), and b, for (*,G), may be set: two different numbers from 4 to 30
--   is_set s a           == whether a is one of the two numbers set
--   SettingsChange      == what setting them answers, a number, and the settings as they then are
--   numbers_set s a b    == the answer to setting the numbers a and b, where s was set
--   ranges_given s w     == the answer to setting the ranges that the numbers w name, where s was set
--   any_range s          == whether any range is set
--   settings_words s     == THE words of the settings s
--   settings_in b        == the settings that lie in the words b
--   NumbersRight a b    == a and b are both 0, or may be set
--   SettingsRight s     == what every call keeps of the settings
--   ValidSettings b     == b is the words of settings that the calls can have made
--   SettingsTold c n b  == the number n and the settings in the words b are what the call's answer c says
use Rattle.std.specs.Prelude.{ℕ, ◌≡◌, Bool, true, cond, not, ◌&&◌, ◌||◌, List, [], ◌∷◌, ◌⊎◌, length, get_or, drop, ltb, eqb}
use Rattle.refusals.specs.Refusals.{algorithm_not_usable}
use Rattle.ranges.specs.Ranges.{ranges_set, RangesRight}
use Rattle.tag_ranges.specs.TagRanges.{tag_ranges_words, tag_ranges_in}

pub record Settings : Type 0 where
  pub by_source_group : ℕ
  pub by_any_source : ℕ
  pub ranges : List (List ℕ)

abbrev pub nothing_set : Settings
nothing_set = record { by_source_group = 0; by_any_source = 0; ranges = [] }

abbrev pub from_four_to_thirty : ℕ → Bool
from_four_to_thirty a = ltb 3 a && ltb a 31

unfoldable pub may_be_set : ℕ → ℕ → Bool
may_be_set a b = from_four_to_thirty a && (from_four_to_thirty b && not (eqb a b))

unfoldable pub is_set : Settings → ℕ → Bool
is_set s a = not (eqb a 0) && (eqb a s.by_source_group || eqb a s.by_any_source)

unfoldable pub any_range : Settings → Bool
any_range s = not (eqb (length s.ranges) 0)

-- CALLS: other numbers are refused with 15, other ranges with 20, and the old ones kept
pub record SettingsChange : Type 0 where
  pub number : ℕ
  pub settings : Settings

unfoldable pub numbers_set : Settings → ℕ → ℕ → SettingsChange
numbers_set s a b = record {
  number = cond (may_be_set a b) 0 algorithm_not_usable;
  settings = cond (may_be_set a b) (record { by_source_group = a; by_any_source = b; ranges = s.ranges }) s;
}

unfoldable pub ranges_given : Settings → List ℕ → SettingsChange
ranges_given s w = record {
  number = (ranges_set s.ranges w).number;
  settings = record { by_source_group = s.by_source_group; by_any_source = s.by_any_source; ranges = (ranges_set s.ranges w).ranges };
}

-- WORDS
unfoldable pub settings_words : Settings → List ℕ
settings_words s = s.by_source_group ∷ s.by_any_source ∷ tag_ranges_words s.ranges

unfoldable pub settings_in : List ℕ → Settings
settings_in b = record { by_source_group = get_or b 0 0; by_any_source = get_or b 1 0; ranges = tag_ranges_in (drop 2 b) }

abbrev pub NumbersRight : ℕ → ℕ → Type 0
NumbersRight a b = ((a ≡ 0) × (b ≡ 0)) ⊎ (may_be_set a b ≡ true)

pub record SettingsRight (s : Settings) : Type 0 where
  pub numbers : NumbersRight s.by_source_group s.by_any_source
  pub ranges : RangesRight s.ranges

pub record ValidSettings (b : List ℕ) : Type 0 where
  pub sound : SettingsRight (settings_in b)
  pub whole : b ≡ settings_words (settings_in b)

abbrev pub SettingsTold : SettingsChange → ℕ → List ℕ → Type 0
SettingsTold c n b = (n ≡ c.number) × (settings_in b ≡ c.settings)
