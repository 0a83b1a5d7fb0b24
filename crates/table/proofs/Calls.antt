-- Laws of the calls upon a table: which case of its definition each return of a call is, and that every call keeps a table well formed. Assumes nothing.
use Prim.Native.Nat.{ℕ, ◌≤◌, ◌<◌}
use native.Mathlib.Omega.{arith}
use mathlib.Core.Path.{◌≡◌, refl, ap, ◌∙◌, sym}
use mathlib.Core.Bool.{Bool, true, false, not, ◌||◌}
use mathlib.Core.List.{List, []}
use mathlib.Core.Logic.{◌⊎◌, inl, inr, ⊎_elim}
use lib.ListN.{length, set, replicate}
use lib.Dec.{ltb, eqb}
use borrow.Author.Tests.{not-false, lt-ltb, le-ltb, ne_eqb, eqb-true}
use Rattle.std.specs.Prelude.{Err}
use Rattle.refusals.specs.Numbers.{refusal_number}
use Rattle.refusals.specs.declared.Refusal.{Refusal}
use Rattle.lists.specs.Checks.{first_refusal}
use Rattle.lists.specs.Lists.{Every}
use Rattle.lists.proofs.Bools.{cond-by, eq-not, ne-not}
use Rattle.lists.proofs.Checks.{passed_on, refused-at, refused_none, passed, telling-own}
use Rattle.octets.specs.Octets.{same_numbers}
use Rattle.octets.proofs.Laws.{same-equal}
use Rattle.address.specs.Address.{address_row, address_key, is_zero}
use Rattle.address.specs.declared.Address.{Address}
use Rattle.address.proofs.Laws.{key_above}
use Rattle.esi.specs.Reserved.{reserved}
use Rattle.route.specs.Route.{route_esi, route_address, route_number, route_offset, Fault, route_checked, Originator, Refused}
use Rattle.route.proofs.Laws.{route-fault, route-is-address, route-esi, route-address, offset-accepted, told-originator, told-refused}
use Rattle.community.specs.Community.{ListRead, told_list, list_fits, election_in, read_list}
use Rattle.community.proofs.Laws.{list-refused, list-accepted, election-right}
use Rattle.keyed.specs.Keyed.{spliced, without_at, Rising, has, insert, remove}
use Rattle.keyed.proofs.Keyed as keyed
use Rattle.keyed.proofs.Order.{length-insert-room, length-remove-le}
use Rattle.rows.specs.Rows.{found_in}
use Rattle.std.specs.Prelude.{Ok, Err}
use Rattle.rows.proofs.Places.{found_at, found-missing, insert-at, insert-missing, remove-at}
use Rattle.layout.specs.Table.{Entry, entry_key, no_entry, entry_of, EntryRight, AddressRight, Table, table_of, WellFormed, owner_of}
use Rattle.table.specs.Table.{Change, announce_number, withdraw_number, changed, fresh_table, announced, withdrawn}
use Rattle.table.specs.Steps.{admitted}
use Rattle.refusals.proofs.Laws.{refusal_above}

abbrev accepted : Table → Change
accepted t = record { number = 0; offset = 0; table = t }

abbrev refused : ℕ → Table → Change
refused n t = record { number = n; offset = 0; table = t }

-- an answer by its number and offset
module _ {n p m q : ℕ} (old new : Table) (e : n ≡ m) (f : p ≡ q) where
  alike : changed n p old new ≡ changed m q old new
  alike = rw (e, f)

  refuses : (n ≡ 0 → ⊥) → record { number = n; offset = p; table = old } ≡ changed m q old new
  refuses h = rw (← e, ← f, ne_eqb n 0 h)

-- FRESH
empty-kept : (i : List ℕ) → (reserved i ≡ false) ⊎ (i ≡ replicate 10 0) → WellFormed (table_of i [])
unfolding Rising Every
empty-kept i o = record { owner = ⊎_elim (λ h. inl h) (λ h. inr (h, refl)) o; short = omega arith; rising = tt; right = tt; addresses = tt }

pub fresh_kept : (i : List ℕ) → WellFormed (fresh_table i).table
unfolding fresh_table owner_of
fresh_kept i =
    cond-by (λ (j : List ℕ). WellFormed (table_of j [])) (reserved i) (λ _. empty-kept (replicate 10 0) (inr refl)) (λ h. empty-kept i (inl h))

module _ (t : Table) (w : WellFormed t) where
  abbrev es : List Entry
  es = t.entries

  -- AN ENTRY that passed the checks before the last
  module _ (e : Entry) (i : ℕ) where
    pub admitted-at : found_in entry_key (entry_key e) es ≡ Ok i → accepted (table_of t.esi (set es i e)) ≡ admitted t e
    unfolding admitted first_refusal
    admitted-at h =
        rw ((found_at entry_key (entry_key e) es i h).0, insert-at entry_key (entry_key e) es 1 no_entry w.rising e i refl h)

    pub admitted-new : found_in entry_key (entry_key e) es ≡ Err i → length es < 64 → accepted (table_of t.esi (spliced es i e)) ≡ admitted t e
    unfolding admitted first_refusal
    admitted-new h s =
        rw ((found-missing entry_key (entry_key e) es i h).0, lt-ltb _ _ s, insert-missing entry_key (entry_key e) es e no_entry i refl h)

    pub admitted-full : found_in entry_key (entry_key e) es ≡ Err i → 64 ≤ length es → refused 8 t ≡ admitted t e
    unfolding admitted first_refusal
    admitted-full h s = rw ((found-missing entry_key (entry_key e) es i h).0, le-ltb _ _ s)

  -- ANNOUNCEMENTS
  module _ (r c : List ℕ) where
    pub announced-refused : (n p : ℕ) → route_checked r ≡ Refused n p → record { number = n; offset = p; table = t } ≡ announced t r c
    unfolding announced announce_number
    announced-refused n p h =
        let told = told-refused r n p h in
        rw (told.1.0, told.1.1) (refuses t _ (refused-at 0 _ tt (ne-not told.0)) refl told.0)

    announced-admitted : route_number r ≡ 0 → same_numbers t.esi (route_esi r) ≡ true → list_fits c ≡ true → admitted t (entry_of (route_address r) (election_in c)) ≡ announced t r c
    unfolding announced announce_number admitted
    announced-admitted n s l = alike t _ (passed_on 3 _ (eq-not n, (ap not s, (ap not l, tt)))) (sym (offset-accepted r n))

    -- the same, from what the steps of the call answer
    module _ (a : Address) (h : route_checked r ≡ Originator a) where
      route : route_number r ≡ 0
      route = (told-originator r a h).0

      pub differs : same_numbers t.esi (route_esi r) ≡ false → refused 5 t ≡ announced t r c
      unfolding announced announce_number
      differs s = alike t _ (refused-at 1 _ (eq-not route, tt) (ap not s)) (sym (offset-accepted r route))

      pub unread : (x : Refusal) → same_numbers t.esi (route_esi r) ≡ true → told_list (Err x) ≡ read_list c → refused (refusal_number x) t ≡ announced t r c
      unfolding announced announce_number read_list
      unread x s q =
          let n : refusal_number x ≡ (read_list c).number = ap (λ (l : ListRead). l.number) q in
          let f = list-refused c (λ e. absurd (omega (arith, refusal_above x, n, e))) in
          let m : (read_list c).number ≡ 7 = rw f in
          rw (n, m) (alike t _ (refused-at 2 _ (eq-not route, (ap not s, tt)) (ap not f)) (sym (offset-accepted r route)))

      pub done : (l : ListRead) (e : Entry) (x : Change) → same_numbers t.esi (route_esi r) ≡ true → l ≡ read_list c → l.number ≡ 0
          → e ≡ entry_of (address_row a) l.election → x ≡ admitted t e → x ≡ announced t r c
      unfolding route_address
      done l e x s q n f g =
          let told = told-originator r a h in
          let list = list-accepted c (sym (ap (λ (y : ListRead). y.number) q) ∙ n) in
          let says : l.election ≡ election_in c = ap (λ (y : ListRead). y.election) q ∙ list.1 in
          g ∙ rw (f, told.1, says) (announced-admitted told.0 s list.0)

  -- WITHDRAWALS
  module _ (a : List ℕ) where
    pub withdrawn-zero : is_zero a ≡ true → refused 6 t ≡ withdrawn t a
    unfolding withdrawn withdraw_number
    withdrawn-zero z = alike t _ (refused-at 0 _ tt z) refl

    pub withdrawn-missing : (i : ℕ) → is_zero a ≡ false → found_in entry_key (address_key a) es ≡ Err i → refused 9 t ≡ withdrawn t a
    unfolding withdrawn withdraw_number
    withdrawn-missing i z h = alike t _ (refused-at 1 _ (z, tt) (ap not (found-missing entry_key (address_key a) es i h).0)) refl

    pub withdrawn-at : (i : ℕ) → is_zero a ≡ false → found_in entry_key (address_key a) es ≡ Ok i → accepted (table_of t.esi (without_at es i)) ≡ withdrawn t a
    unfolding withdrawn withdraw_number
    withdrawn-at i z h =
        let f = found_at entry_key (address_key a) es i h in
        rw (← remove-at entry_key (address_key a) es 1 no_entry w.rising i h) (alike t _ (refused_none _ (z, (ap not f.0, tt))) refl)

-- WHAT PASSED CHECKS SAY
module _ (i r c : List ℕ) (p : Bool) (n : ℕ) (h : announce_number i r c p n ≡ 0) where
  pub passed-route : route_number r ≡ 0
  unfolding announce_number
  passed-route = eqb-true _ _ (not-false _ (passed _ (telling-own (route_number r)) h).0)

  pub passed-esi : same_numbers i (route_esi r) ≡ true
  unfolding announce_number
  passed-esi = not-false _ (passed _ (telling-own (route_number r)) h).1.0

  pub passed-list : list_fits c ≡ true
  unfolding announce_number
  passed-list = not-false _ (passed _ (telling-own (route_number r)) h).1.1.0

  pub passed-room : (p || ltb n 64) ≡ true
  unfolding announce_number
  passed-room = not-false _ (passed _ (telling-own (route_number r)) h).1.1.1.0

-- EVERY CALL KEEPS A TABLE WELL FORMED
chosen-kept : (n p : ℕ) (old new : Table) → WellFormed old → (n ≡ 0 → WellFormed new) → WellFormed (changed n p old new).table
chosen-kept n p old new w f = cond-by WellFormed (eqb n 0) (λ e. f (eqb-true n 0 e)) (λ _. w)

module _ (t : Table) (w : WellFormed t) where
  pub announced-kept : (r c : List ℕ) → WellFormed (announced t r c).table
  unfolding announced
  announced-kept r c = chosen-kept n (route_offset r) t (table_of t.esi (insert entry_key e l)) w new
    where
      l : List Entry
      l = t.entries

      e : Entry
      e = entry_of (route_address r) (election_in c)

      n : ℕ
      n = announce_number t.esi r c (has entry_key (address_key (route_address r)) l) (length l)

      new : n ≡ 0 → WellFormed (table_of t.esi (insert entry_key e l))
      new h =
          let p = has entry_key (address_key (route_address r)) l in
          let route = passed-route t.esi r c p (length l) h in
          let own = same-equal t.esi (route_esi r) (passed-esi t.esi r c p (length l) h) in
          let right = election-right c in
          record {
            owner = inl (ap reserved own ∙ route-esi r route);
            short = length-insert-room entry_key e no_entry l 1 64 w.rising w.short (passed-room t.esi r c p (length l) h);
            rising = keyed.rising-insert entry_key e l 1 (key_above (route_address r) (route-is-address r)) w.rising;
            right = keyed.every-insert entry_key EntryRight e l (right.0, ap (entry_of (route_address r)) right.1) w.right;
            addresses = keyed.every-insert entry_key AddressRight e l (route-is-address r, route-address r route) w.addresses;
          }

  pub withdrawn-kept : (a : List ℕ) → WellFormed (withdrawn t a).table
  unfolding withdrawn
  withdrawn-kept a = chosen-kept (withdraw_number a (has entry_key k t.entries)) 0 t (table_of t.esi (remove entry_key k t.entries)) w (λ _. new)
    where
      k : ℕ
      k = address_key a

      new : WellFormed (table_of t.esi (remove entry_key k t.entries))
      new =
          let fewer = length-remove-le entry_key k t.entries in
          record {
            owner = ⊎_elim (λ h. inl h) (λ h. inr (h.0, omega (arith, fewer, h.1))) w.owner;
            short = omega (arith, fewer, w.short);
            rising = keyed.rising-remove entry_key k t.entries 1 w.rising;
            right = keyed.every-remove entry_key EntryRight k t.entries w.right;
            addresses = keyed.every-remove entry_key AddressRight k t.entries w.addresses;
          }

  pub announced-fault : (r c : List ℕ) → Fault r (route_number r) (announced t r c).offset
  unfolding announced
  announced-fault r c = route-fault r
