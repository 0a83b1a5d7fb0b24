-- The journal of a segment: what a list of calls leaves held, and what it leaves set, kept from the identifier and the calls' arguments alone, without a table (document 01,
-- "A whole night of calls": the book; an announcement that is held is its address's page; document 02, M-106 and M-109).
--   Announcement           == route octets and communities
--   originator_key p        == the key of the address that p announces: what is held is held for addresses
--   again p                == the call that announces p
--   entry_from p            == the entry read from p
--   entries_from js         == the entries read from what is held, in rising address order
--   call_number i c p n     == the number that the call c is answered, where i is the journal's identifier, p tells which keys are held and n are held:
--                             0, or that of the first check of "The table" that refuses. No such check refuses another call
--   call_effect c           == what the call c does where it is accepted
--   number_for i js c       == the number that the call c is answered where js is held
--   Journal, journal_of js g == the announcements js held, and the settings g
--   step i j c             == the journal after the call c, where it was j
--   journal_reply i j c     == what the call c is answered, from the identifier and the journal
--   none_held               == the journal at first
--   held i cs              == what the calls cs leave held, where the identifier i was handed in
--   settings_set cs         == what they leave set
--   numbers_again g, ranges_again g == the call that sets the numbers of g again, and that which sets its ranges: none where none are set
--   set_again g             == the calls that set g again
--   left i cs              == the calls that bring back what is left: the settings, and what is held
--   set_by g c              == what is set after the call c where it is accepted, and g was set before
--   last_settings g cs ns        == what was last set by the calls cs, answered the numbers ns, where g was set before
--   OnePerAddress js       == no two announcements of js have the same originator's key
use Rattle.std.specs.Prelude.{ℕ, Bool, cond, List, [], ◌∷◌, ◌++◌, map, length, eqb}
use Rattle.address.specs.Address.{address_key}
use Rattle.route.specs.Route.{route_address}
use Rattle.community.specs.Community.{election_in}
use Rattle.keyed.specs.Keyed.{Distinct, arranged}
use Rattle.keyed.specs.Journal.{Effect, hold, release, neither, after, journal_number, journal_step}
use Rattle.layout.specs.Table.{Entry, entry_of, owner_of}
use Rattle.table.specs.Table.{announce_number, withdraw_number}
use Rattle.rows.specs.Rows.{flat}
use Rattle.ranges.specs.Ranges.{ranges_of}
use Rattle.settings.specs.Settings.{Settings, nothing_set, numbers_set, ranges_given}
use Rattle.election.specs.Queries.{elect_with}
use Rattle.returning.specs.Returning.{returning_with}
use Rattle.demand3.specs.Calls.{Call, announce, withdraw, set_numbers, set_ranges, elect, returning, Reply, change_reply, elect_reply, returning_reply, settings_left}

pub record Announcement : Type 0 where
  pub route : List ℕ
  pub communities : List ℕ

abbrev pub originator_key : Announcement → ℕ
originator_key p = address_key (route_address p.route)

abbrev pub again : Announcement → Call
again p = announce p.route p.communities

abbrev pub entry_from : Announcement → Entry
entry_from p = entry_of (route_address p.route) (election_in p.communities)

abbrev pub entries_from : List Announcement → List Entry
entries_from js = map entry_from (arranged originator_key js)

-- CHECKS AND EFFECTS. An address is present exactly if an announcement is held for it; 64 are present exactly if 64 are held
unfoldable pub call_number : List ℕ → Call → (ℕ → Bool) → ℕ → ℕ
call_number i (announce r c) present n = announce_number i r c (present (address_key (route_address r))) n
call_number i (withdraw a) present n = withdraw_number a (present (address_key a))
call_number i (set_numbers a b) present n = 0
call_number i (set_ranges w) present n = 0
call_number i (elect q tag ready) present n = 0
call_number i (returning a alg p d) present n = 0

unfoldable pub call_effect : Call → Effect Announcement
call_effect (announce r c) = hold (record { route = r; communities = c })
call_effect (withdraw a) = release (address_key a)
call_effect (set_numbers a b) = neither
call_effect (set_ranges w) = neither
call_effect (elect q tag ready) = neither
call_effect (returning a alg p d) = neither

-- where a check refuses, nothing held changes; otherwise an announcement is held in place of an older one of its address, and a withdrawal releases it
abbrev pub number_for : List ℕ → List Announcement → Call → ℕ
number_for i = journal_number originator_key (call_number i) call_effect

pub record Journal : Type 0 where
  pub held : List Announcement
  pub settings : Settings

abbrev pub journal_of : List Announcement → Settings → Journal
journal_of js g = record { held = js; settings = g }

-- the settings are those last accepted
abbrev pub step : List ℕ → Journal → Call → Journal
step i j c = journal_of (journal_step originator_key (call_number i) call_effect j.held c) (settings_left j.settings c)

-- REPLIES
unfoldable pub journal_reply : List ℕ → Journal → Call → Reply
journal_reply i j (announce r c) = change_reply (number_for i j.held (announce r c))
journal_reply i j (withdraw a) = change_reply (number_for i j.held (withdraw a))
journal_reply i j (set_numbers a b) = change_reply (numbers_set j.settings a b).number
journal_reply i j (set_ranges w) = change_reply (ranges_given j.settings w).number
journal_reply i j (elect q tag ready) = elect_reply (elect_with j.settings q i (entries_from j.held) tag ready)
journal_reply i j (returning a alg p d) = returning_reply (returning_with j.settings (entries_from j.held) a alg p d)

-- at first nothing is held, and none are set
abbrev pub none_held : Journal
none_held = journal_of [] nothing_set

abbrev pub held : List ℕ → List Call → List Announcement
held i cs = after (journal_step originator_key (call_number (owner_of i)) call_effect) [] cs

abbrev pub settings_set : List Call → Settings
settings_set cs = after settings_left nothing_set cs

-- WHAT IS LEFT
unfoldable pub numbers_again : Settings → List Call
numbers_again g = cond (eqb g.by_source_group 0) [] (set_numbers g.by_source_group g.by_any_source ∷ [])

unfoldable pub ranges_again : Settings → List Call
ranges_again g = cond (eqb (length g.ranges) 0) [] (set_ranges (flat g.ranges) ∷ [])

abbrev pub set_again : Settings → List Call
set_again g = numbers_again g ++ ranges_again g

abbrev pub left : List ℕ → List Call → List Call
left i cs = set_again (settings_set cs) ++ map again (held i cs)

unfoldable pub set_by : Settings → Call → Settings
set_by g (announce r c) = g
set_by g (withdraw a) = g
set_by g (set_numbers a b) = record { by_source_group = a; by_any_source = b; ranges = g.ranges }
set_by g (set_ranges w) = record { by_source_group = g.by_source_group; by_any_source = g.by_any_source; ranges = ranges_of w }
set_by g (elect q tag ready) = g
set_by g (returning a alg p d) = g

unfoldable pub last_settings : Settings → List Call → List ℕ → Settings
last_settings g [] ns = g
last_settings g (c ∷ cs) [] = g
last_settings g (c ∷ cs) (n ∷ ns) = last_settings (cond (eqb n 0) (set_by g c) g) cs ns

abbrev pub OnePerAddress : List Announcement → Type 0
OnePerAddress js = Distinct originator_key js
