-- The journal of the table of A-D routes: what a list of calls leaves held, kept from the calls' arguments alone, without a table (document 02, M-102, with
-- kind and key in place of an address; document 01, "A whole night of calls": the book).
--   AdAnnouncement          == the scope and the address of a route that is announced
--   route_from p             == the route that p announces
--   route_key p              == its key: what is held is held for a kind, a tag and an address
--   again_circuit p          == the call that announces p
--   routes_from js           == the routes of what is held, in rising order
--   circuit_call_number c p n == the number that the call c is answered, where p tells which keys are held and n are held; no check refuses an election
--   circuit_effect c         == what the call c does where it is accepted
--   number_held js c, step_held js c == the number that the call c is answered where js is held, and what is held after it
--   circuit_journal_reply js c == what the call c is answered, from what is held
--   circuits_held cs         == what the calls cs leave held
use Rattle.std.specs.Prelude.{ℕ, Bool, List, [], map}
use Rattle.address.specs.declared.Address.{Address}
use Rattle.address.specs.Address.{address_row}
use Rattle.rows.specs.Rows.{row_key}
use Rattle.keyed.specs.Keyed.{arranged}
use Rattle.keyed.specs.Journal.{Effect, hold, release, neither, after, journal_number, journal_step}
use Rattle.circuit_layout.specs.declared.Scope.{Scope}
use Rattle.circuit_layout.specs.Circuits.{ad_row}
use Rattle.circuits.specs.Changes.{ad_announce_number, ad_withdraw_number}
use Rattle.circuit_election.specs.Over.{elect_over}
use Rattle.circuit_demand3.specs.Calls.{CircuitCall, announce, withdraw, elect, CircuitReply, change_reply, elect_reply}

pub record AdAnnouncement : Type 0 where
  pub scope : Scope
  pub address : Address

abbrev pub route_from : AdAnnouncement → List ℕ
route_from p = ad_row p.scope (address_row p.address)

abbrev pub route_key : AdAnnouncement → ℕ
route_key p = row_key (route_from p)

abbrev pub again_circuit : AdAnnouncement → CircuitCall
again_circuit p = announce p.scope p.address

abbrev pub routes_from : List AdAnnouncement → List (List ℕ)
routes_from js = map route_from (arranged route_key js)

-- CHECKS AND EFFECTS. A route is present exactly if its announcement is held; 256 are present exactly if 256 are held
unfoldable pub circuit_call_number : CircuitCall → (ℕ → Bool) → ℕ → ℕ
circuit_call_number (announce s a) present n = ad_announce_number s (address_row a) (present (row_key (ad_row s (address_row a)))) n
circuit_call_number (withdraw s a) present n = ad_withdraw_number s (address_row a) (present (row_key (ad_row s (address_row a))))
circuit_call_number (elect s tag) present n = 0

unfoldable pub circuit_effect : CircuitCall → Effect AdAnnouncement
circuit_effect (announce s a) = hold (record { scope = s; address = a })
circuit_effect (withdraw s a) = release (row_key (ad_row s (address_row a)))
circuit_effect (elect s tag) = neither

abbrev pub number_held : List AdAnnouncement → CircuitCall → ℕ
number_held = journal_number route_key circuit_call_number circuit_effect

abbrev pub step_held : List AdAnnouncement → CircuitCall → List AdAnnouncement
step_held = journal_step route_key circuit_call_number circuit_effect

-- REPLIES
unfoldable pub circuit_journal_reply : List AdAnnouncement → CircuitCall → CircuitReply
circuit_journal_reply js (announce s a) = change_reply (number_held js (announce s a))
circuit_journal_reply js (withdraw s a) = change_reply (number_held js (withdraw s a))
circuit_journal_reply js (elect s tag) = elect_reply (elect_over s.settings s.table.esi s.table.entries (routes_from js) tag)

-- at first nothing is held
abbrev pub circuits_held : List CircuitCall → List AdAnnouncement
circuits_held cs = after step_held [] cs
