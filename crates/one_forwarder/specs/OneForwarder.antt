-- Exactly one router forwards (document 02, M-107). Two boxes of one segment that hold the same announcements, with the same numbers and ranges set, whatever else each of them heard,
-- in whatever order, refused and withdrawn, give the same answer for every query, tag and ready list; and where a candidate is eligible, exactly one router of the segment finds its
-- own address in that answer, and where none is, no router does.
--   SameHeld i cs ds       == the lists of calls cs and ds, each from a fresh table of the identifier i, leave the same announcements held, and the same set
--   Alone l r              == the answer r names exactly one of the entries l
--   Nobody l r             == it names none of them
--   Once s q tag ready r   == the answer r to the query q upon the state s names exactly one router where a candidate is eligible, and where none is, no router
--   OneForwarder i cs ds   == the claim
use Rattle.std.specs.Prelude.{ℕ, ◌≤◌, ◌≡◌, true, false, length}
use mathlib.Core.List.{List, [], Memᴰ, Permᴰ}
use Rattle.layout.specs.Table.{Entry}
use Rattle.tags.specs.Tags.{reserved_tag}
use Rattle.segment_state.specs.State.{Segment}
use Rattle.answers.specs.Answers.{Answer}
use Rattle.election.specs.Queries.{Query, right_lengths, candidates_of}
use Rattle.demand3.specs.Calls.{Call}
use Rattle.demand3.specs.Journal.{held, settings_set}
use Rattle.demand3.specs.Demand3.{segment_after}
use Rattle.forwarders.specs.Forwarders.{elect_in, Names}

pub record SameHeld (i : List ℕ) (cs ds : List Call) : Type 0 where
  pub announcements : Permᴰ (held i cs) (held i ds)
  pub settings : settings_set cs ≡ settings_set ds

pub record Alone (l : List Entry) (r : Answer) : Type 0 where
  pub router : Entry
  pub member : Memᴰ router l
  pub named : Names r router.address
  pub only : (x : Entry) → Memᴰ x l → Names r x.address → x ≡ router

abbrev pub Nobody : List Entry → Answer → Type 0
Nobody l r = (x : Entry) → Memᴰ x l → Names r x.address → ⊥

-- where a candidate is eligible, for a tag, a list and a flow that may be asked for, exactly one router of the segment is named; where none is, no router is
pub record Once (s : Segment) (q : Query) (tag : ℕ) (ready : List (List ℕ)) (r : Answer) : Type 0 where
  pub one : reserved_tag tag ≡ false → length ready ≤ 64 → right_lengths q ≡ true → (candidates_of s.settings s.table.entries ready ≡ [] → ⊥) → Alone s.table.entries r
  pub none : candidates_of s.settings s.table.entries ready ≡ [] → Nobody s.table.entries r

pub record OneForwarder (i : List ℕ) (cs ds : List Call) : Type 0 where
  pub same : SameHeld i cs ds → (q : Query) (tag : ℕ) (ready : List (List ℕ)) → elect_in (segment_after i cs) q tag ready ≡ elect_in (segment_after i ds) q tag ready
  pub once : (q : Query) (tag : ℕ) (ready : List (List ℕ)) → Once (segment_after i cs) q tag ready (elect_in (segment_after i cs) q tag ready)
