-- The state of a segment: its route table (document 01, "The table") and what the operator has set upon it (document 02, M-106 and M-109), in 490 words that a caller lends:
-- the table's 388, and then those of the settings.
--   Segment          == a route table and settings
--   fresh_segment i   == what the fresh call leaves for the identifier i: an empty table, and none set
--   segment_words s   == THE words of the state s
--   segment_in b      == the state that lies in the words b
--   ValidSegment b   == b is the words of a state that the calls can have made
--   SegmentTold c g n p b == the number n, the offset p and the state in the words b are what the answer c of a call of the table says, where g is set
--   SetTold c t n b       == the number n and the state in the words b are what the answer c of a setting says, where the table is t
use Rattle.std.specs.Prelude.{ℕ, ◌≡◌, List, ◌++◌, take, drop}
use Rattle.layout.specs.Table.{Table}
use Rattle.layout.specs.Words.{words_of, table_in, Valid}
use Rattle.table.specs.Table.{Change, fresh_table}
use Rattle.settings.specs.Settings.{Settings, SettingsChange, nothing_set, settings_words, settings_in, ValidSettings}

pub record Segment : Type 0 where
  pub table : Table
  pub settings : Settings

abbrev pub fresh_segment : List ℕ → Segment
fresh_segment i = record { table = (fresh_table i).table; settings = nothing_set }

abbrev pub segment_words : Segment → List ℕ
segment_words s = words_of s.table ++ settings_words s.settings

unfoldable pub segment_in : List ℕ → Segment
segment_in b = record { table = table_in (take 388 b); settings = settings_in (drop 388 b) }

pub record ValidSegment (b : List ℕ) : Type 0 where
  pub table : Valid (take 388 b)
  pub settings : ValidSettings (drop 388 b)

-- what a call answers and leaves. Where the words are valid, this decides every one of them
abbrev pub SegmentTold : Change → Settings → ℕ → ℕ → List ℕ → Type 0
SegmentTold c g n p b = (n ≡ c.number) × (p ≡ c.offset) × (segment_in b ≡ record { table = c.table; settings = g })

abbrev pub SetTold : SettingsChange → Table → ℕ → List ℕ → Type 0
SetTold c t n b = (n ≡ c.number) × (segment_in b ≡ record { table = t; settings = c.settings })
