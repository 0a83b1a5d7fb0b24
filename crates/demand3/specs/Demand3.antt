-- Demand 3 (document 01, "A whole night of calls"; document 02, M-106 and M-109): one claim of an identifier handed in, reserved or not, and a whole list of calls, of any length.
--   replies i cs        == what the calls cs answer, one after another from the state that the fresh call gives for i
--   segment_after i cs   == the state that they leave
--   Follows s c r u     == wherever a list of calls leaves the state s, the list with the call c at its end has r for its last reply and leaves the state u
--   Demand3 i cs        == the claim
use Rattle.std.specs.Prelude.{ℕ, ◌≡◌, Bool, length, replicate}
use mathlib.Core.List.{List, ◌∷◌, [], ◌++◌, map, Permᴰ}
use Rattle.std.proofs.Math.Option.{none}
use Rattle.keyed.specs.Keyed.{Rising}
use Rattle.keyed.specs.Journal.{after, answers, held_at, last_held}
use Rattle.layout.specs.Table.{Entry, entry_key, WellFormed, owner_of}
use Rattle.settings.specs.Settings.{nothing_set, SettingsRight}
use Rattle.segment_state.specs.State.{Segment, fresh_segment, segment_words}
use Rattle.election.specs.Queries.{Query, elect_with}
use Rattle.returning.specs.Returning.{returning_with}
use Rattle.demand3.specs.Calls.{Call, elect, returning, Reply, change_reply, elect_reply, returning_reply, number_in, reply_to, leaves}
use Rattle.demand3.specs.Journal.{originator_key, entry_from, entries_from, call_effect, step, journal_reply, none_held, held, settings_set, left, last_settings, OnePerAddress}

abbrev pub replies : List ℕ → List Call → List Reply
replies i cs = answers reply_to leaves (fresh_segment i) cs

abbrev pub segment_after : List ℕ → List Call → Segment
segment_after i cs = after leaves (fresh_segment i) cs

-- with this promise of each call, what a program's calls answer and leave is, by induction, what their list does
abbrev pub Follows : Segment → Call → Reply → Segment → Type 0
Follows s c r u = (i : List ℕ) (cs : List Call) → s ≡ segment_after i cs
    → (replies i (cs ++ c ∷ []) ≡ replies i cs ++ r ∷ []) × (segment_after i (cs ++ c ∷ []) ≡ u)

pub record Demand3 (i : List ℕ) (cs : List Call) : Type 0 where
  -- call by call, for every kind of call, the reply is the journal's: so an announcement or a withdrawal is accepted exactly if the journal accepts it
  pub told : replies i cs ≡ answers (journal_reply (owner_of i)) (step (owner_of i)) none_held cs
  -- elections, calls for a returning router and refused calls leave the state as they got it; lists that go on from here have the same said of them.
  -- Of elections and calls for a returning router this holds by definition: what the code guarantees is that these calls get the words by a shared
  -- reference (`&[u32]`), through which nothing is written
  pub elections : (q : Query) (tag : ℕ) (ready : List (List ℕ)) → leaves (segment_after i cs) (elect q tag ready) ≡ segment_after i cs
  pub returnings : (a : List ℕ) (alg p : ℕ) (d : Bool) → leaves (segment_after i cs) (returning a alg p d) ≡ segment_after i cs
  pub refusals : (c : Call) → (number_in (reply_to (segment_after i cs) c) ≡ 0 → ⊥) → leaves (segment_after i cs) c ≡ segment_after i cs
  -- one announcement is held for each address (one page, in document 01): no two that are held have the same originator
  pub single : OnePerAddress (held i cs)
  -- an address is held exactly if its last accepted announcement or withdrawal, by the segment's own replies, was an announcement: it holds that one
  pub last : (k : ℕ) → held_at originator_key k (held i cs) ≡ last_held originator_key call_effect k none cs (map number_in (replies i cs))
  -- the numbers and the ranges set are the journal's, those last accepted, by the segment's own replies, if any
  pub standing : (segment_after i cs).settings ≡ settings_set cs
  pub last_accepted : settings_set cs ≡ last_settings nothing_set cs (map number_in (replies i cs))
  -- the state at the end has what every call keeps of it
  pub sound : WellFormed (segment_after i cs).table
  pub settings : SettingsRight (segment_after i cs).settings
  -- what is left, the numbers and the ranges set and the announcements held, handed alone and in any order to another fresh segment for i, is accepted each time, and the state is the
  -- same: identifier, entries and settings, and all the words that a caller holds, unused places with their zeros too
  pub accepted : (order : List Call) → Permᴰ order (left i cs) → replies i order ≡ replicate (length order) (change_reply 0)
  pub state : (order : List Call) → Permᴰ order (left i cs) → segment_after i order ≡ segment_after i cs
  pub words : (order : List Call) → Permᴰ order (left i cs) → segment_words (segment_after i order) ≡ segment_words (segment_after i cs)
  -- the entries read from what is held can be put in rising address order, and in one way only
  pub rising : Rising entry_key 0 (entries_from (held i cs))
  pub all : Permᴰ (entries_from (held i cs)) (map entry_from (held i cs))
  pub only : (l : List Entry) → Rising entry_key 0 l → Permᴰ l (map entry_from (held i cs)) → l ≡ entries_from (held i cs)
  -- for every query, plain or for a flow of either kind, every tag and every ready list the whole answer of an election, at the end and after what is left was handed
  -- in alone, is the one for the numbers and ranges last set, the journal's identifier and these entries; and so is what a returning router is told
  pub answer : (q : Query) (tag : ℕ) (ready : List (List ℕ))
      → reply_to (segment_after i cs) (elect q tag ready) ≡ elect_reply (elect_with (settings_set cs) q (owner_of i) (entries_from (held i cs)) tag ready)
  pub answer_again : (order : List Call) → Permᴰ order (left i cs) → (q : Query) (tag : ℕ) (ready : List (List ℕ))
      → reply_to (segment_after i order) (elect q tag ready) ≡ elect_reply (elect_with (settings_set cs) q (owner_of i) (entries_from (held i cs)) tag ready)
  pub preference : (a : List ℕ) (alg p : ℕ) (d : Bool) → reply_to (segment_after i cs) (returning a alg p d) ≡ returning_reply (returning_with (settings_set cs) (entries_from (held i cs)) a alg p d)
