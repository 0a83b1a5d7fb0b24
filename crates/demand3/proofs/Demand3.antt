-- Demand 3 holds of every identifier and every list of calls: the general theorem on journals, at a segment's calls and a capacity of 64, with its settings for the
-- register. Assumes nothing.
use Prim.Native.Nat.{ℕ}
use mathlib.Core.Path.{◌≡◌, refl, ap, ◌∙◌}
use mathlib.Core.Bool.{Bool, cond}
use mathlib.Core.List.{List, [], ◌∷◌, map}
use mathlib.Core.Option.{Option}
use lib.Dec.{eqb}
use Rattle.lists.proofs.Bools.{no-choice}
use Rattle.keyed.specs.Keyed.{arranged}
use Rattle.keyed.specs.Journal.{after, heard}
use Rattle.keyed.proofs.Journal.{Kept, number-arranged}
use Rattle.keyed.proofs.Replay as replay
use Rattle.layout.specs.Table.{Entry, Table, entry_key, table_of, WellFormed, owner_of}
use Rattle.table.specs.Table.{fresh_table}
use Rattle.table.proofs.Calls.{fresh_kept}
use Rattle.settings.specs.Settings.{Settings, nothing_set, numbers_set, ranges_given, SettingsRight}
use Rattle.settings.proofs.Laws.{none_right}
use Rattle.segment_state.specs.State.{Segment, fresh_segment, segment_words}
use Rattle.answers.specs.Answers.{Answer}
use Rattle.election.specs.Queries.{Query, elect_with}
use Rattle.returning.specs.Returning.{Sent, returning_with}
use Rattle.demand3.specs.Calls.{Call, announce, withdraw, set_numbers, set_ranges, elect, returning, Reply, change_reply, elect_reply, returning_reply, number_in, reply_to, table_left, settings_left, leaves, Changes}
use Rattle.demand3.specs.Journal.{Announcement, originator_key, again, entry_from, entries_from, call_number, call_effect, number_for, journal_of, step, journal_reply, set_again}
use Rattle.demand3.specs.Demand3.{segment_after, Follows, Demand3}
use Rattle.demand3.proofs.Calls.{rules, announced-number, withdrawn-number, call-state, refused-leaves, table_kept, settings-kept}
use Rattle.demand3.proofs.Settings.{again-accepted, again-restores, last_set}

-- SINGLE CALLS. i is the journal's identifier
module _ (i : List ℕ) where
  abbrev made : Settings → List Entry → Segment
  made g l = record { table = table_of i l; settings = g }

  -- the number of a call that neither holds nor releases changes nothing that is held
  same-heard : (k : ℕ) (o : Option Announcement) (js : List Announcement) (g : Settings) (c : Call)
      → cond (eqb (number_for i js c) 0) (heard originator_key k (call_effect c) o) o
      ≡ cond (eqb (number_in (journal_reply i (journal_of js g) c)) 0) (heard originator_key k (call_effect c) o) o
  unfolding number_in journal_reply call_effect heard
  same-heard k o js g (announce r c) = refl
  same-heard k o js g (withdraw a) = refl
  same-heard k o js g (set_numbers a b) = no-choice (eqb (number_for i js (set_numbers a b)) 0) (eqb (numbers_set g a b).number 0) o
  same-heard k o js g (set_ranges w) = no-choice (eqb (number_for i js (set_ranges w)) 0) (eqb (ranges_given g w).number 0) o
  same-heard k o js g (elect q tag ready) = no-choice (eqb (number_for i js (elect q tag ready)) 0) (eqb (elect_with g q i (entries_from js) tag ready).number 0) o
  same-heard k o js g (returning a alg p d) = no-choice (eqb (number_for i js (returning a alg p d)) 0) (eqb (returning_with g (entries_from js) a alg p d).number 0) o

  own-number : (js : List Announcement) (g : Settings) (p : Announcement) → journal_reply i (journal_of js g) (again p) ≡ change_reply (number_for i js (again p))
  unfolding journal_reply
  own-number js g p = refl

  agree : (g : Settings) (js : List Announcement) (c : Call) → Kept originator_key (call_number i) call_effect again 64 js
      → reply_to (made g (map entry_from (arranged originator_key js))) c ≡ journal_reply i (journal_of js g) c
  unfolding reply_to journal_reply
  agree g js (announce r c) k =
      ap change_reply (announced-number i (arranged originator_key js) r c ∙ number-arranged originator_key (call_number i) call_effect again 64 js (announce r c) k.distinct)
  agree g js (withdraw a) k =
      ap change_reply (withdrawn-number i (arranged originator_key js) a ∙ number-arranged originator_key (call_number i) call_effect again 64 js (withdraw a) k.distinct)
  agree g js (set_numbers a b) k = refl
  agree g js (set_ranges w) k = refl
  agree g js (elect q tag ready) k = refl
  agree g js (returning a alg p d) k = refl

  quiet : (g : Settings) (p : Announcement) → settings_left g (again p) ≡ g
  unfolding settings_left
  quiet g p = refl

  -- EVERY LIST OF THEM
  whole : (cs : List Call)
      → replay.Replayed originator_key (call_number i) call_effect again entry_from entry_key made leaves reply_to journal_of (step i) (journal_reply i) number_in change_reply nothing_set settings_left SettingsRight set_again cs
  whole =
      replay.replayed originator_key (call_number i) call_effect again entry_from entry_key made leaves reply_to journal_of (step i) (journal_reply i) number_in change_reply nothing_set settings_left SettingsRight set_again 64
      (record {
        rules = rules i;
        same = λ p. refl;
        leaves = λ g l c. ap (λ (t : Table). record { table = t; settings = settings_left g c }) (call-state i l c);
        steps = λ js g c. refl;
        agrees = agree;
        heard_same = same-heard;
        own = own-number;
        quiet = quiet;
        right_first = none_right;
        right_set = settings-kept;
        setters = λ g r. again-accepted i g r;
        restored = again-restores;
      })

-- the two parts of a state go each their own way
after-parts : (s : Segment) (cs : List Call) → after leaves s cs ≡ record { table = after table_left s.table cs; settings = after settings_left s.settings cs }
unfolding after
after-parts s [] = refl
after-parts s (c ∷ cs) = after-parts (leaves s c) cs

calls-kept : (t : Table) (cs : List Call) → WellFormed t → WellFormed (after table_left t cs)
unfolding after
calls-kept t [] w = w
calls-kept t (c ∷ cs) w = calls-kept (table_left t c) cs (table_kept t c w)

calls-right : (g : Settings) (cs : List Call) → SettingsRight g → SettingsRight (after settings_left g cs)
unfolding after
calls-right g [] w = w
calls-right g (c ∷ cs) w = calls-right (settings_left g c) cs (settings-kept g c w)

-- THE WHOLE: the fresh state is the one of nothing held and none set
pub demand3 : (i : List ℕ) (cs : List Call) → Demand3 i cs
unfolding fresh_table table_left settings_left journal_reply
demand3 i cs =
    let w = whole (owner_of i) cs in
    record {
      told = w.told;
      elections = λ q tag ready. refl;
      returnings = λ a alg p d. refl;
      refusals = refused-leaves (segment_after i cs);
      single = w.distinct;
      last = w.last;
      standing = ap (λ (s : Segment). s.settings) (after-parts (fresh_segment i) cs);
      last_accepted = last_set (fresh_segment i) cs;
      sound = rw (after-parts (fresh_segment i) cs) (calls-kept (fresh_table i).table cs (fresh_kept i));
      settings = rw (after-parts (fresh_segment i) cs) (calls-right nothing_set cs none_right);
      accepted = w.accepted;
      state = w.state;
      words = λ order h. ap segment_words (w.state order h);
      rising = w.rising;
      all = w.all;
      only = w.only;
      answer = λ q tag ready. w.replied (elect q tag ready);
      answer_again = λ order h q tag ready. w.replied_again order h (elect q tag ready);
      preference = λ a alg p d. w.replied (returning a alg p d);
    }

-- ONE CALL MORE at the end of a list
pub follows : (s : Segment) (c : Call) {r : Reply} {u : Segment} → reply_to s c ≡ r → leaves s c ≡ u → Follows s c r u
follows s c {r} {u} p q i cs e = replay.follows reply_to leaves (fresh_segment i) s u c r p q cs e

pub starts : (i : List ℕ) {s : Segment} → s ≡ fresh_segment i → s ≡ segment_after i []
unfolding after
starts i e = e

pub elect-follows : (s : Segment) (q : Query) (tag : ℕ) (ready : List (List ℕ)) {r : Answer} → reply_to s (elect q tag ready) ≡ elect_reply r → Follows s (elect q tag ready) (elect_reply r) s
unfolding table_left settings_left
elect-follows s q tag ready e = follows s (elect q tag ready) e refl

pub returning-follows : (s : Segment) (a : List ℕ) (alg p : ℕ) (d : Bool) {r : Sent} → reply_to s (returning a alg p d) ≡ returning_reply r → Follows s (returning a alg p d) (returning_reply r) s
unfolding table_left settings_left
returning-follows s a alg p d e = follows s (returning a alg p d) e refl

-- a call that may change the state, with what it answers and leaves
pub lands : (s : Segment) (c : Call) (n : ℕ) (v u : Segment) → v ≡ u → Changes s c n u → Changes s c n v × Follows s c (change_reply n) v
lands s c n v u q h = let t : Changes s c n v = rw q h in (t, follows s c t.0 t.1)
