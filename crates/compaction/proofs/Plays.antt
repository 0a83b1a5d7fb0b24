-- The run of records that a table is written out as, played: the text makes the empty table, each announcement adds the next entry, and at the end the table is whole. Assumes nothing.
use Prim.Native.Nat.{ℕ, ◌≤◌, ◌<◌}
use native.Mathlib.Omega.{arith}
use mathlib.Core.Path.{◌≡◌, refl, ap, ap₂, sym, ◌∙◌}
use mathlib.Core.Bool.{true, false, not, ◌||◌, or-true}
use mathlib.Core.List.{List, [], ◌∷◌, ◌++◌, append_assoc, append-nil}
use lib.ListN.{length, get_or, take, drop, replicate, length-append, get_or-append}
use lib.Seq.{take_at, drop_at}
use lib.Dec.{ltb}
use borrow.Author.Tests.{lt-ltb, le-leb}
use Rattle.lists.specs.Lists.{Every}
use Rattle.lists.proofs.Bools.{eq-not}
use Rattle.lists.proofs.Checks.{refused_none, passed}
use Rattle.octets.proofs.Laws.{Octets, same_of}
use Rattle.rows.proofs.Compared.{Words}
use Rattle.keyed.specs.Keyed.{Rising, has, insert}
use Rattle.keyed.proofs.Order.{insert-behind}
use Rattle.address.specs.Address.{address_key}
use Rattle.esi.specs.Reserved.{reserved}
use Rattle.esi.specs.Text.{text_of}
use Rattle.esi.proofs.Laws.{length-not-reserved, read-of-text}
use Rattle.route.specs.Route.{total_of, route_address, route_number}
use Rattle.route.proofs.Laws.{total-least, offset-accepted}
use Rattle.route_fields.specs.Fields.{bits_of, route_octets}
use Rattle.route_fields.proofs.Laws.{length-octets-route, esi-of, bits-of, address-of, number_of}
use Rattle.community.specs.declared.Election.{Election}
use Rattle.community.specs.Community.{community_octets, election_in, list_fits}
use Rattle.community.proofs.Laws.{length-community, says-again}
use Rattle.layout.specs.Table.{Entry, entry_key, entry_of, EntryRight, AddressRight, Table, table_of, WellFormed, owner_of}
use Rattle.layout.proofs.Words.{Narrow}
use Rattle.table.specs.Table.{announce_number, announced, fresh_table}
use Rattle.answer_lines.specs.AnswerLines.{line, read_line, has_offset}
use Rattle.judgement.specs.Judgement.{judged_of, first_of, later_of, announcement_of}
use Rattle.turns.specs.Turns.{Turn, running, text_turn, announce_turn}
use Rattle.records.specs.Records.{turn, turn_in, turn_of, is_end, first}
use Rattle.replays.specs.Played.{Played, played_from, played}
use Rattle.replays.proofs.Played.{printed, from_nothing, from-record, lines-run}
use Rattle.log_payloads.specs.Payload.{election_of, payload_of}
use Rattle.log_payloads.proofs.Laws.{length-payload}
use Rattle.log_octets.specs.Log.{entry_records, log_of, log_number, log_length, log_written}
use Rattle.compaction.specs.Compaction.{accepted_lines, PlaysBack}

module _ (i : List ℕ) (re : reserved i ≡ false) where
  -- AN ANNOUNCEMENT of an entry that is not there yet
  module _ (l : List Entry) (e : Entry) (right : EntryRight e) (address : AddressRight e) (words : Words e.address) (narrow : Narrow e) (room : length l < 64) where
    abbrev r : List ℕ
    r = e.address

    abbrev o : List ℕ
    o = route_octets (replicate 8 0) i r

    abbrev c : List ℕ
    c = community_octets (election_of e)

    abbrev p : List ℕ
    p = payload_of i e

    length-route : length o ≡ total_of (bits_of r)
    length-route = length-octets-route (replicate 8 0) i r refl re address.0

    total : total_of (get_or p 20 0) ≡ total_of (bits_of r)
    total =
        let h : 20 < length o = omega (arith, length-route, total-least (bits_of r)) in
        ap total_of (get_or-append o c 0 20 h ∙ bits-of (replicate 8 0) i r refl re address.0)

    route : take (total_of (get_or p 20 0)) p ≡ o
    route = take_at o c (total_of (get_or p 20 0)) (length-route ∙ sym total)

    list : drop (total_of (get_or p 20 0)) p ≡ c
    list = drop_at o c (total_of (get_or p 20 0)) (length-route ∙ sym total)

    whole : total_of (get_or p 20 0) ≤ length p
    whole = omega (arith, total, length-payload i e (length-not-reserved i re) address.0)

    says : entry_of (route_address o) (election_in c) ≡ e
    says =
        ap₂ (λ (a : List ℕ) (x : Election). entry_of a x) (address-of (replicate 8 0) i r refl re address.0 words) (says-again e.algorithm e.ac_df e.dp e.preference right.0 narrow)
        ∙ sym right.1

    accepted-route : route_number o ≡ 0
    accepted-route = number_of (replicate 8 0) i r refl re address.0 words address.1

    fits : list_fits c ≡ true
    unfolding list_fits
    fits = rw (length-community (election_of e))

    number : 0 ≡ announce_number i o c (has entry_key (address_key (route_address o)) l) (length l)
    unfolding announce_number
    number =
        let seat : (has entry_key (address_key (route_address o)) l || ltb (length l) 64) ≡ true = rw (lt-ltb (length l) 64 room) (or-true (has entry_key (address_key (route_address o)) l)) in
        refused_none _ (eq-not accepted-route, (ap not (same_of (sym (esi-of (replicate 8 0) i r refl re address.0))), (ap not fits, (ap not seat, tt))))

    told : announced (table_of i l) o c ≡ record { number = 0; offset = 0; table = table_of i (insert entry_key e l) }
    unfolding announced
    told = rw (← number, offset-accepted o accepted-route, says)

    pub announces : turn (running (table_of i l)) 1 p ≡ record { line = line 97 0; next = running (table_of i (insert entry_key e l)) }
    unfolding turn_in turn_of judged_of later_of announcement_of announce_turn read_line has_offset
    announces = rw (le-leb (total_of (get_or p 20 0)) (length p) whole, route, list, told)

  -- ALL OF THEM, in rising order
  pub plays-entries : (l m : List Entry) → Every EntryRight m → Every AddressRight m → Every (λ (e : Entry). Words e.address) m → Every Narrow m → length (l ++ m) ≤ 64 → Rising entry_key 1 (l ++ m)
      → played_from (running (table_of i l)) (entry_records i m) ≡ record { lines = accepted_lines (length m); state = running (table_of i (l ++ m)) }
  unfolding entry_records accepted_lines Every is_end
  plays-entries l [] right address words narrow room rising =
      from_nothing (running (table_of i l)) ∙ ap (λ (k : List Entry). record { lines = []; state = running (table_of i k) }) (sym (append-nil l))
  plays-entries l (e ∷ m) right address words narrow room rising =
      let p : List ℕ = payload_of i e in
      let less : length l < 64 = omega (arith, room, length-append l (e ∷ m)) in
      let joined : (l ++ e ∷ []) ++ m ≡ l ++ e ∷ m = append_assoc l (e ∷ []) m in
      from-record (running (table_of i l)) 1 p (entry_records i m) refl
      ∙ ap (λ (u : Turn). printed u.line (played_from u.next (entry_records i m))) (announces l e right.0 address.0 words.0 narrow.0 less)
      ∙ ap (λ (k : List Entry). printed (line 97 0) (played_from (running (table_of i k)) (entry_records i m))) (insert-behind entry_key e l m 1 rising)
      ∙ ap (printed (line 97 0)) (plays-entries (l ++ e ∷ []) m right.1 address.1 words.1 narrow.1 (rw joined room) (rw joined rising))
      ∙ ap (λ (k : List Entry). record { lines = line 97 0 ++ accepted_lines (length m); state = running (table_of i k) }) joined

  -- THE FIRST RECORD makes the empty table
  opens : Octets i → turn first 0 (text_of i) ≡ record { line = line 112 0; next = running (table_of i []) }
  unfolding first turn_in turn_of judged_of first_of text_turn read_line has_offset fresh_table owner_of
  opens octets = rw (read-of-text i octets re, re)

-- THE WHOLE RUN
module _ (t : Table) (w : WellFormed t) (re : reserved t.esi ≡ false) (octets : Octets t.esi) (words : Every (λ (e : Entry). Words e.address) t.entries) (narrow : Every Narrow t.entries) where
  plays : played (log_of t) ≡ record { lines = line 112 0 ++ accepted_lines (length t.entries); state = running t }
  unfolding played log_of first is_end
  plays =
      from-record first 0 (text_of t.esi) (entry_records t.esi t.entries) refl
      ∙ ap (λ (u : Turn). printed u.line (played_from u.next (entry_records t.esi t.entries))) (opens t.esi re octets)
      ∙ ap (printed (line 112 0)) (plays-entries t.esi re [] t.entries w.right w.addresses words narrow w.short w.rising)

  pub plays-back : PlaysBack (log_of t) t
  plays-back = record { lines = sym (lines-run (log_of t)) ∙ ap (λ (x : Played). x.lines) plays; table = ap (λ (x : Played). x.state) plays }

-- WHAT THE WRITER'S ANSWER TELLS: where it is 0, the identifier is not reserved, and the run stands at the front of the buffer
module _ (t : Table) (d : List ℕ) (n : ℕ) (l : ℕ) (x : List ℕ) (en : n ≡ log_number t (length d)) (el : l ≡ log_length t (length d)) (ex : x ≡ log_written d t) (z : n ≡ 0) where
  pub not-reserved : reserved t.esi ≡ false
  unfolding log_number
  not-reserved = (passed _ refl (sym en ∙ z)).0

  pub run-written : take l x ≡ log_of t
  unfolding log_length log_written
  run-written =
      let q : log_number t (length d) ≡ 0 = sym en ∙ z in
      let m : l ≡ length (log_of t) = el ∙ rw q in
      let b : x ≡ log_of t ++ drop (length (log_of t)) d = ex ∙ rw q in
      rw (b, m) (take_at (log_of t) (drop (length (log_of t)) d) (length (log_of t)) refl)
