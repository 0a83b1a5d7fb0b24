-- One call upon a table of A-D routes, against the journal: on the routes of what is held a call answers and leaves what the journal says, and the calls meet
-- the rules of the general theorem on journals. Assumes nothing.
use Prim.Native.Nat.{ℕ, ◌<◌}
use native.Mathlib.Omega.{arith}
use mathlib.Core.Path.{◌≡◌, refl, ap, ap₂, sym, subst}
use mathlib.Core.Bool.{Bool, false, cond, or-true}
use mathlib.Core.List.{List, map}
use lib.ListN.{length-map}
use lib.Dec.{eqb}
use borrow.Author.Tests.{lt-ltb, ne_eqb}
use Rattle.lists.specs.Checks.{first_refusal}
use Rattle.lists.proofs.Bools.{room-left}
use Rattle.lists.proofs.Lists.{map-cond}
use Rattle.address.specs.declared.Address.{Address}
use Rattle.address.specs.Address.{address_row}
use Rattle.address.proofs.Laws.{row-address}
use Rattle.rows.specs.Rows.{row_key}
use Rattle.keyed.specs.Keyed.{has, insert, remove}
use Rattle.keyed.specs.Journal.{hold, release, neither, journal_number}
use Rattle.keyed.proofs.Keyed.{map-has, map-insert, map-remove}
use Rattle.keyed.proofs.Journal.{Rules, placed}
use Rattle.segment_state.specs.State.{Segment}
use Rattle.circuit_layout.specs.declared.Scope.{Scope}
use Rattle.circuit_layout.specs.Circuits.{ad_row, CircuitsRight, circuits_in}
use Rattle.circuits.specs.Changes.{ad_announce_number, ad_withdraw_number, ad_announced, ad_withdrawn, AdTold}
use Rattle.circuits.proofs.Calls.{announced-kept, withdrawn-kept, passed-zero, passed-tag, passed-room}
use Rattle.answers.specs.Answers.{Answer}
use Rattle.circuit_election.specs.Over.{elect_over}
use Rattle.circuit_demand3.specs.Calls.{CircuitCall, announce, withdraw, elect, change_reply, elect_reply, circuit_number, circuit_reply, circuits_left, CircuitChanges}
use Rattle.circuit_demand3.specs.Journal.{AdAnnouncement, route_from, route_key, again_circuit, circuit_call_number, circuit_effect, number_held}

-- THE ROUTES OF ANNOUNCEMENTS that are listed in rising order
abbrev pub state : List AdAnnouncement → List (List ℕ)
state l = map route_from l

module _ (l : List AdAnnouncement) where
  has-state : (k : ℕ) → has row_key k (state l) ≡ has route_key k l
  has-state k = map-has route_from route_key row_key (λ x. refl) k l

  -- a call on them answers the number that the journal gives where l is held
  pub announced-number : (s : Scope) (a : Address) → (ad_announced (state l) s (address_row a)).number ≡ number_held l (announce s a)
  unfolding ad_announced journal_number circuit_call_number
  announced-number s a = ap₂ (λ (p : Bool) (n : ℕ). ad_announce_number s (address_row a) p n) (has-state (row_key (ad_row s (address_row a)))) (length-map l route_from)

  pub withdrawn-number : (s : Scope) (a : Address) → (ad_withdrawn (state l) s (address_row a)).number ≡ number_held l (withdraw s a)
  unfolding ad_withdrawn journal_number circuit_call_number
  withdrawn-number s a = ap (ad_withdraw_number s (address_row a)) (has-state (row_key (ad_row s (address_row a))))

  -- and leaves the routes of what is then held
  chosen : (n m : ℕ) (rs : List (List ℕ)) (js : List AdAnnouncement) → n ≡ m → rs ≡ state js → cond (eqb n 0) rs (state l) ≡ state (cond (eqb m 0) js l)
  chosen n m rs js p q = rw (p, q) (sym (map-cond route_from (eqb m 0) js l))

  pub call-state : (c : CircuitCall) → circuits_left (state l) c ≡ state (cond (eqb (number_held l c) 0) (placed route_key (circuit_effect c) l) l)
  unfolding circuits_left ad_announced ad_withdrawn circuit_effect circuit_call_number journal_number placed
  call-state (announce s a) =
      let p : AdAnnouncement = record { scope = s; address = a } in
      chosen (ad_announced (state l) s (address_row a)).number (number_held l (announce s a)) (insert row_key (route_from p) (state l)) (insert route_key p l)
      (announced-number s a)
      (sym (map-insert route_from route_key row_key (λ x. refl) p l))
  call-state (withdraw s a) =
      let k : ℕ = row_key (ad_row s (address_row a)) in
      chosen (ad_withdrawn (state l) s (address_row a)).number (number_held l (withdraw s a)) (remove row_key k (state l)) (remove route_key k l)
      (withdrawn-number s a)
      (sym (map-remove route_from route_key row_key (λ x. refl) k l))
  call-state (elect s tag) = refl

-- THE RULES: a new route is held only where there is room, and an announcement that was accepted once is accepted wherever there is room
accept-again : (s : Scope) (a : List ℕ) (p q : Bool) (m n : ℕ) → ad_announce_number s a p m ≡ 0 → n < 256 → ad_announce_number s a q n ≡ 0
unfolding ad_announce_number first_refusal
accept-again s a p q m n h l = rw (passed-zero s a p m h, passed-tag s a p m h, lt-ltb n 256 l, or-true q)

-- only an announcement holds, and it holds itself
not-released : {k : ℕ} {p : AdAnnouncement} → release k ≡ hold p → ⊥
not-released e = let z : ◌≡◌ {A = ℕ} 0 1 = cc in omega arith

not-neither : {p : AdAnnouncement} → neither ≡ hold p → ⊥
not-neither e = let z : ◌≡◌ {A = ℕ} 0 1 = cc in omega arith

by-announcement : (P : CircuitCall → AdAnnouncement → Type 0) → ((p : AdAnnouncement) → P (again_circuit p) p) → (c : CircuitCall) (p : AdAnnouncement) → circuit_effect c ≡ hold p → P c p
unfolding circuit_effect
by-announcement P f (announce s a) p e =
    let own : record { scope = s; address = a } ≡ p = cc in
    subst (P (announce s a)) own (f (record { scope = s; address = a }))
by-announcement P f (withdraw s a) p e = absurd (not-released e)
by-announcement P f (elect s tag) p e = absurd (not-neither e)

holds : (p : AdAnnouncement) → circuit_effect (again_circuit p) ≡ hold p
unfolding circuit_effect
holds p = refl

room : (p : AdAnnouncement) (present : ℕ → Bool) (n : ℕ) → circuit_call_number (again_circuit p) present n ≡ 0 → present (route_key p) ≡ false → n < 256
unfolding circuit_call_number
room p present n q f =
    let b : Bool = present (route_key p) in
    room-left b n 256 f (passed-room p.scope (address_row p.address) b n q)

repeats : (p : AdAnnouncement) (u v : ℕ → Bool) (m n : ℕ) → circuit_call_number (again_circuit p) u m ≡ 0 → n < 256 → circuit_call_number (again_circuit p) v n ≡ 0
unfolding circuit_call_number
repeats p u v m n h l = accept-again p.scope (address_row p.address) (u (route_key p)) (v (route_key p)) m n h l

pub rules : Rules route_key circuit_call_number circuit_effect again_circuit 256
rules = record {
  holds = holds;
  room = λ c p present n e.
      by-announcement (λ d q. circuit_call_number d present n ≡ 0 → present (route_key q) ≡ false → n < 256) (λ q. room q present n) c p e;
  repeats = λ c p u v m n e.
      by-announcement (λ d q. circuit_call_number d u m ≡ 0 → n < 256 → circuit_call_number (again_circuit q) v n ≡ 0) (λ q. repeats q u v m n) c p e;
}

-- CALLS ON ANY ROUTES
pub refused-leaves : (l : List (List ℕ)) (c : CircuitCall) → (circuit_number (circuit_reply l c) ≡ 0 → ⊥) → circuits_left l c ≡ l
unfolding circuit_number circuit_reply circuits_left ad_announced ad_withdrawn
refused-leaves l (announce s a) n = rw (ne_eqb (ad_announced l s (address_row a)).number 0 n)
refused-leaves l (withdraw s a) n = rw (ne_eqb (ad_withdrawn l s (address_row a)).number 0 n)
refused-leaves l (elect s tag) n = refl

pub call_kept : (l : List (List ℕ)) (c : CircuitCall) → CircuitsRight l → CircuitsRight (circuits_left l c)
unfolding circuits_left
call_kept l (announce s a) w = announced-kept l w s (address_row a) (row-address a)
call_kept l (withdraw s a) w = withdrawn-kept l w s (address_row a)
call_kept l (elect s tag) w = w

-- what the code answers is the list's call
pub announce-changes : (l : List (List ℕ)) (s : Scope) (a : Address) (n : ℕ) (b : List ℕ) → AdTold (ad_announced l s (address_row a)) n b → CircuitChanges l (announce s a) n (circuits_in b)
unfolding circuit_reply circuits_left
announce-changes l s a n b o = (ap change_reply (sym o.0), sym o.1)

pub withdraw-changes : (l : List (List ℕ)) (s : Scope) (a : Address) (n : ℕ) (b : List ℕ) → AdTold (ad_withdrawn l s (address_row a)) n b → CircuitChanges l (withdraw s a) n (circuits_in b)
unfolding circuit_reply circuits_left
withdraw-changes l s a n b o = (ap change_reply (sym o.0), sym o.1)

pub elect-replies : (l : List (List ℕ)) (s : Segment) (tag : ℕ) {r : Answer} → r ≡ elect_over s.settings s.table.esi s.table.entries l tag → circuit_reply l (elect s tag) ≡ elect_reply r
unfolding circuit_reply
elect-replies l s tag e = ap elect_reply (sym e)
