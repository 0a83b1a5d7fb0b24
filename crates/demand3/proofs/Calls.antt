-- One call of a segment, against the journal: on the table of what is held a call answers and leaves what the journal says, and the calls meet the
-- rules of the general theorem on journals. Assumes nothing.
use Prim.Native.Nat.{ℕ, ◌<◌}
use native.Mathlib.Omega.{arith}
use mathlib.Core.Path.{◌≡◌, refl, ap, ap₂, sym, subst}
use mathlib.Core.Bool.{Bool, true, false, cond, or-true}
use mathlib.Core.List.{List, map}
use lib.ListN.{length-map}
use lib.Dec.{eqb}
use borrow.Author.Tests.{lt-ltb, ne_eqb}
use Rattle.lists.specs.Checks.{first_refusal}
use Rattle.lists.proofs.Bools.{room-left}
use Rattle.address.specs.Address.{address_key}
use Rattle.route.specs.Route.{route_address}
use Rattle.keyed.specs.Keyed.{has, insert, remove}
use Rattle.keyed.specs.Journal.{hold, release, neither, journal_number}
use Rattle.keyed.proofs.Keyed.{map-has, map-insert, map-remove}
use Rattle.keyed.proofs.Journal.{Rules, placed}
use Rattle.layout.specs.Table.{Entry, Table, entry_key, table_of, WellFormed}
use Rattle.table.specs.Table.{announce_number, withdraw_number, announced, withdrawn, Change, Told}
use Rattle.layout.specs.Words.{table_in}
use Rattle.table.proofs.Calls.{announced-kept, withdrawn-kept, passed-route, passed-esi, passed-list, passed-room}
use Rattle.settings.specs.Settings.{Settings, numbers_set, ranges_given, SettingsRight, settings_in, SettingsTold}
use Rattle.settings.proofs.Laws.{numbers-kept, numbers-refused, given-kept, given-refused}
use Rattle.segment_state.specs.State.{Segment}
use Rattle.answers.specs.Answers.{Answer}
use Rattle.election.specs.Queries.{Query, elect_with}
use Rattle.returning.specs.Returning.{Sent, returning_with}
use Rattle.demand3.specs.Calls.{Call, announce, withdraw, set_numbers, set_ranges, elect, returning, change_reply, elect_reply, returning_reply, number_in, reply_to, table_left, settings_left, leaves, Changes}
use Rattle.demand3.specs.Journal.{Announcement, originator_key, again, entry_from, call_number, call_effect, number_for}

-- THE TABLE OF ANNOUNCEMENTS that are listed in rising order
module _ (i : List ℕ) where
  abbrev pub state : List Announcement → Table
  state l = table_of i (map entry_from l)

  module _ (l : List Announcement) where
    has-state : (k : ℕ) → has entry_key k (map entry_from l) ≡ has originator_key k l
    has-state k = map-has entry_from originator_key entry_key (λ x. refl) k l

    -- a call on it answers the number that the journal gives where l is held
    pub announced-number : (r c : List ℕ) → (announced (state l) r c).number ≡ number_for i l (announce r c)
    unfolding announced journal_number call_number
    announced-number r c =
        ap₂ (λ (p : Bool) (n : ℕ). announce_number i r c p n) (has-state (address_key (route_address r))) (length-map l entry_from)

    pub withdrawn-number : (a : List ℕ) → (withdrawn (state l) a).number ≡ number_for i l (withdraw a)
    unfolding withdrawn journal_number call_number
    withdrawn-number a = ap (withdraw_number a) (has-state (address_key a))

    -- and leaves the table of what is then held
    chosen : (n m : ℕ) (es : List Entry) (js : List Announcement) → n ≡ m → es ≡ map entry_from js
        → cond (eqb n 0) (table_of i es) (state l) ≡ state (cond (eqb m 0) js l)
    chosen n m es js p q = rw (p, q) (go (eqb m 0))
      where
        go : (b : Bool) → cond b (state js) (state l) ≡ state (cond b js l)
        go true = refl
        go false = refl

    pub call-state : (c : Call) → table_left (state l) c ≡ state (cond (eqb (number_for i l c) 0) (placed originator_key (call_effect c) l) l)
    unfolding table_left announced withdrawn call_effect call_number journal_number placed
    call-state (announce r c) =
        let p : Announcement = record { route = r; communities = c } in
        chosen (announced (state l) r c).number (number_for i l (announce r c)) (insert entry_key (entry_from p) (map entry_from l)) (insert originator_key p l)
        (announced-number r c)
        (sym (map-insert entry_from originator_key entry_key (λ x. refl) p l))
    call-state (withdraw a) =
        let k : ℕ = address_key a in
        chosen (withdrawn (state l) a).number (number_for i l (withdraw a)) (remove entry_key k (map entry_from l)) (remove originator_key k l)
        (withdrawn-number a)
        (sym (map-remove entry_from originator_key entry_key (λ x. refl) k l))
    call-state (set_numbers a b) = refl
    call-state (set_ranges w) = refl
    call-state (elect q tag ready) = refl
    call-state (returning a alg p d) = refl

-- THE RULES: a new address is held only where there is room, and an announcement that was accepted once is accepted wherever there is room
accept-again : (i r c : List ℕ) (p q : Bool) (m n : ℕ) → announce_number i r c p m ≡ 0 → n < 64 → announce_number i r c q n ≡ 0
unfolding announce_number first_refusal
accept-again i r c p q m n h l =
    rw (passed-route i r c p m h, passed-esi i r c p m h, passed-list i r c p m h, lt-ltb n 64 l, or-true q)

-- only an announcement holds, and it holds itself
not-released : {k : ℕ} {p : Announcement} → release k ≡ hold p → ⊥
not-released e = let z : ◌≡◌ {A = ℕ} 0 1 = cc in omega arith

not-neither : {p : Announcement} → neither ≡ hold p → ⊥
not-neither e = let z : ◌≡◌ {A = ℕ} 0 1 = cc in omega arith

by-announcement : (P : Call → Announcement → Type 0) → ((p : Announcement) → P (again p) p) → (c : Call) (p : Announcement) → call_effect c ≡ hold p → P c p
unfolding call_effect
by-announcement P f (announce r c) p e =
    let own : record { route = r; communities = c } ≡ p = cc in
    subst (P (announce r c)) own (f (record { route = r; communities = c }))
by-announcement P f (withdraw a) p e = absurd (not-released e)
by-announcement P f (set_numbers a b) p e = absurd (not-neither e)
by-announcement P f (set_ranges w) p e = absurd (not-neither e)
by-announcement P f (elect q tag ready) p e = absurd (not-neither e)
by-announcement P f (returning a alg v d) p e = absurd (not-neither e)

module _ (i : List ℕ) where
  holds : (p : Announcement) → call_effect (again p) ≡ hold p
  unfolding call_effect
  holds p = refl

  room : (p : Announcement) (present : ℕ → Bool) (n : ℕ) → call_number i (again p) present n ≡ 0 → present (originator_key p) ≡ false → n < 64
  unfolding call_number
  room p present n q f =
      let b : Bool = present (originator_key p) in
      room-left b n 64 f (passed-room i p.route p.communities b n q)

  repeats : (p : Announcement) (u v : ℕ → Bool) (m n : ℕ) → call_number i (again p) u m ≡ 0 → n < 64 → call_number i (again p) v n ≡ 0
  unfolding call_number
  repeats p u v m n h l = accept-again i p.route p.communities (u (originator_key p)) (v (originator_key p)) m n h l

  pub rules : Rules originator_key (call_number i) call_effect again 64
  rules = record {
    holds = holds;
    room = λ c p present n e.
        by-announcement (λ d q. call_number i d present n ≡ 0 → present (originator_key q) ≡ false → n < 64) (λ q. room q present n) c p e;
    repeats = λ c p u v m n e.
        by-announcement (λ d q. call_number i d u m ≡ 0 → n < 64 → call_number i (again q) v n ≡ 0) (λ q. repeats q u v m n) c p e;
  }

-- CALLS ON ANY STATE
same-state : (s : Segment) {t : Table} {g : Settings} → t ≡ s.table → g ≡ s.settings → record { table = t; settings = g } ≡ s
same-state s p q = rw (p, q)

pub refused-leaves : (s : Segment) (c : Call) → (number_in (reply_to s c) ≡ 0 → ⊥) → leaves s c ≡ s
unfolding number_in reply_to table_left settings_left announced withdrawn
refused-leaves s (announce r c) n = same-state s (rw (ne_eqb (announced s.table r c).number 0 n)) refl
refused-leaves s (withdraw a) n = same-state s (rw (ne_eqb (withdrawn s.table a).number 0 n)) refl
refused-leaves s (set_numbers a b) n = same-state s refl (numbers-refused s.settings a b n)
refused-leaves s (set_ranges w) n = same-state s refl (given-refused s.settings w n)
refused-leaves s (elect q tag ready) n = refl
refused-leaves s (returning a alg p d) n = refl

pub table_kept : (t : Table) (c : Call) → WellFormed t → WellFormed (table_left t c)
unfolding table_left
table_kept t (announce r c) w = announced-kept t w r c
table_kept t (withdraw a) w = withdrawn-kept t w a
table_kept t (set_numbers a b) w = w
table_kept t (set_ranges v) w = w
table_kept t (elect q tag ready) w = w
table_kept t (returning a alg p d) w = w

pub settings-kept : (g : Settings) (c : Call) → SettingsRight g → SettingsRight (settings_left g c)
unfolding settings_left
settings-kept g (announce r c) w = w
settings-kept g (withdraw a) w = w
settings-kept g (set_numbers a b) w = numbers-kept g a b w
settings-kept g (set_ranges v) w = given-kept g v w
settings-kept g (elect q tag ready) w = w
settings-kept g (returning a alg p d) w = w

-- what the code answers is the list's call: it changes the table, or the settings, and leaves the other
pub table-changes : (s : Segment) (c : Call) (k : Change) (n p : ℕ) (b : List ℕ) → Changes s c k.number (record { table = k.table; settings = s.settings }) → Told k n p b
    → Changes s c n (record { table = table_in b; settings = s.settings })
table-changes s c k n p b h o = rw (o.0, o.2) h

pub numbers-changes : (s : Segment) (a b n : ℕ) (w : List ℕ) → SettingsTold (numbers_set s.settings a b) n w
    → Changes s (set_numbers a b) n (record { table = s.table; settings = settings_in w })
unfolding reply_to table_left settings_left
numbers-changes s a b n w o = (ap change_reply (sym o.0), rw o.1)

pub ranges-changes : (s : Segment) (run : List ℕ) (n : ℕ) (w : List ℕ) → SettingsTold (ranges_given s.settings run) n w
    → Changes s (set_ranges run) n (record { table = s.table; settings = settings_in w })
unfolding reply_to table_left settings_left
ranges-changes s run n w o = (ap change_reply (sym o.0), rw o.1)

-- what the code answers to an election and to a returning router is the list's reply
pub elect-replies : (s : Segment) (q : Query) (tag : ℕ) (ready : List (List ℕ)) {r : Answer} → r ≡ elect_with s.settings q s.table.esi s.table.entries tag ready
    → reply_to s (elect q tag ready) ≡ elect_reply r
unfolding reply_to
elect-replies s q tag ready e = ap elect_reply (sym e)

pub returning-replies : (s : Segment) (a : List ℕ) (alg p : ℕ) (d : Bool) {r : Sent} → r ≡ returning_with s.settings s.table.entries a alg p d → reply_to s (returning a alg p d) ≡ returning_reply r
unfolding reply_to
returning-replies s a alg p d e = ap returning_reply (sym e)
