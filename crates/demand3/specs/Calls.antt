-- The calls of a list of calls, with their arguments besides the state (document 01, "A whole night of calls"; document 02, M-106 and M-109).
--   announce r c          == the announcement of the route octets r with the communities c
--   withdraw a            == the withdrawal of the address a
--   set_numbers a b        == the setting of the algorithm numbers a for (S,G) and b for (*,G)
--   set_ranges w           == the setting of the ranges of tags that the numbers w name, three to a range
--   elect q tag ready     == the election for the query q and the tag, with the addresses of the ready list
--   returning a alg p d   == the call for a returning router of the address a and the algorithm alg, with its administrative preference p and DP bit d
--   change_reply, elect_reply, returning_reply == a reply: the number of an announcement, a withdrawal or a setting, the whole answer of the others
--   reply_to s c           == what the call c answers, on the state s
--   number_in r            == the number of the reply r: 0, or a refusal
--   table_left t c         == the table after the call c, where it was t; only announcements and withdrawals hand one back
--   settings_left g c      == the settings after the call c, where they were g; only a setting hands any back
--   leaves s c            == the state after the call c on the state s
--   Changes s c n u       == the number n and the state u are what the call c, which may change it, answers and leaves on the state s
use Rattle.std.specs.Prelude.{ℕ, ◌≡◌, Bool, List}
use Rattle.layout.specs.Table.{Table}
use Rattle.table.specs.Table.{announced, withdrawn}
use Rattle.settings.specs.Settings.{Settings, numbers_set, ranges_given}
use Rattle.segment_state.specs.State.{Segment}
use Rattle.answers.specs.Answers.{Answer}
use Rattle.election.specs.Queries.{Query, elect_with}
use Rattle.returning.specs.Returning.{Sent, returning_with}

pub data Call : Type 0 where
  announce : List ℕ → List ℕ → Call
  withdraw : List ℕ → Call
  set_numbers : ℕ → ℕ → Call
  set_ranges : List ℕ → Call
  elect : Query → ℕ → List (List ℕ) → Call
  returning : List ℕ → ℕ → ℕ → Bool → Call

pub data Reply : Type 0 where
  change_reply : ℕ → Reply
  elect_reply : Answer → Reply
  returning_reply : Sent → Reply

unfoldable pub number_in : Reply → ℕ
number_in (change_reply n) = n
number_in (elect_reply a) = a.number
number_in (returning_reply s) = s.number

unfoldable pub reply_to : Segment → Call → Reply
reply_to s (announce r c) = change_reply (announced s.table r c).number
reply_to s (withdraw a) = change_reply (withdrawn s.table a).number
reply_to s (set_numbers a b) = change_reply (numbers_set s.settings a b).number
reply_to s (set_ranges w) = change_reply (ranges_given s.settings w).number
reply_to s (elect q tag ready) = elect_reply (elect_with s.settings q s.table.esi s.table.entries tag ready)
reply_to s (returning a alg p d) = returning_reply (returning_with s.settings s.table.entries a alg p d)

unfoldable pub table_left : Table → Call → Table
table_left t (announce r c) = (announced t r c).table
table_left t (withdraw a) = (withdrawn t a).table
table_left t (set_numbers a b) = t
table_left t (set_ranges w) = t
table_left t (elect q tag ready) = t
table_left t (returning a alg p d) = t

unfoldable pub settings_left : Settings → Call → Settings
settings_left g (announce r c) = g
settings_left g (withdraw a) = g
settings_left g (set_numbers a b) = (numbers_set g a b).settings
settings_left g (set_ranges w) = (ranges_given g w).settings
settings_left g (elect q tag ready) = g
settings_left g (returning a alg p d) = g

abbrev pub leaves : Segment → Call → Segment
leaves s c = record { table = table_left s.table c; settings = settings_left s.settings c }

-- ties the code's answers to the list's calls
abbrev pub Changes : Segment → Call → ℕ → Segment → Type 0
Changes s c n u = (reply_to s c ≡ change_reply n) × (leaves s c ≡ u)
