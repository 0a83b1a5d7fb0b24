-- A record as an entry: its address, and the table that takes it in. Assumes nothing.
use Prim.Native.Nat.{ℕ, ◌<◌}
use native.Mathlib.Omega.{arith}
use mathlib.Core.Path.{◌≡◌, refl, ap, ◌∙◌, sym, subst}
use mathlib.Core.Bool.{Bool, true, false, cond, not, ◌&&◌, ◌||◌, or-true}
use mathlib.Core.List.{List, [], ◌∷◌}
use mathlib.Core.Logic.{inl}
use lib.ListN.{length}
use lib.Dec.{eqb}
use borrow.Author.Tests.{ne_eqb}
use Rattle.lists.specs.Lists.{Every, all}
use Rattle.octets.specs.Octets.{all_are}
use Rattle.keyed.specs.Keyed.{spliced, has, insert}
use Rattle.keyed.proofs.Keyed.{rising-insert, every-insert}
use Rattle.keyed.proofs.Order.{length-insert}
use Rattle.rows.specs.Rows.{found_in}
use Rattle.std.specs.Prelude.{Ok, Err}
use Rattle.refusals.specs.declared.Refusal.TheVariants.{CandidatesWrong}
use Rattle.rows.proofs.Places.{found_at, found-missing, insert-missing}
use Rattle.address.specs.declared.Address.{Address}
use Rattle.address.specs.declared.Family.TheVariants.{V4, V6}
use Rattle.address.specs.Address.{address_row, address_key, is_zero, IsAddress}
use Rattle.address.proofs.Laws.{row-address, key_above}
use Rattle.esi.specs.Reserved.{reserved}
use Rattle.community.specs.Community.{election_under}
use Rattle.layout.specs.Table.{Entry, entry_key, no_entry, entry_of, EntryRight, AddressRight, Table, table_of, WellFormed, owner_of}
use Rattle.layout.specs.Words.{entry_in, words_of, table_in, Valid, Packed}
use Rattle.layout.proofs.Words.{Narrow, narrow-entries, table-in, valid-of}
use Rattle.table.specs.Table.{fresh_table, Told}
use Rattle.table.proofs.Told.{packed-entry}
use Rattle.candidate_list.specs.declared.Candidate.{Candidate}
use Rattle.std.proofs.Common.{Option, Some, None}
use Rattle.candidate_list.specs.Candidates.{candidate_row, candidate_election, candidate_entry, has_address}
use Rattle.candidate_list.specs.Steps.{unless_zero, OriginatorOf, Loadable, TakenIn, NothingLoaded}

-- AN ADDRESS, unless it is zero
module _ (a : Address) where
  pub zero-nobody : is_zero (address_row a) ≡ true → None ≡ unless_zero a
  unfolding unless_zero
  zero-nobody e = rw e

  pub known : is_zero (address_row a) ≡ false → Some a ≡ unless_zero a
  unfolding unless_zero
  known e = rw e

-- THE ADDRESS OF A RECORD
module _ (c : Candidate) where
  -- whose family is one of the two
  family-known : (a : Address) (r : Option Address) → (eqb c.family 4 || eqb c.family 6) ≡ true → address_row a ≡ candidate_row c → r ≡ unless_zero a → OriginatorOf c r
  unfolding unless_zero has_address
  family-known a r f e q = subst (OriginatorOf c) (sym q) (go (is_zero (address_row a)) refl)
    where
      go : (b : Bool) → is_zero (address_row a) ≡ b → OriginatorOf c (cond b None (Some a))
      go true z = rw (f, ← e, z) refl
      go false z = (rw (f, ← e, z) refl, e)

  pub is-four : (r : Option Address) → c.family ≡ 4 → r ≡ unless_zero (record { family = V4; w0 = c.w0; w1 = c.w1; w2 = c.w2; w3 = c.w3 }) → OriginatorOf c r
  unfolding address_row candidate_row
  is-four r e q = family-known _ r (rw e refl) (rw e refl) q

  pub is-six : (r : Option Address) → c.family ≡ 6 → r ≡ unless_zero (record { family = V6; w0 = c.w0; w1 = c.w1; w2 = c.w2; w3 = c.w3 }) → OriginatorOf c r
  unfolding address_row candidate_row
  is-six r e q = family-known _ r (rw e refl) (rw e refl) q

  pub is-neither : (c.family ≡ 4 → ⊥) → (c.family ≡ 6 → ⊥) → OriginatorOf c None
  unfolding has_address
  is-neither m n = rw (ne_eqb c.family 4 m, ne_eqb c.family 6 n)

  not-zero : has_address c ≡ true → is_zero (candidate_row c) ≡ false
  unfolding has_address
  not-zero h = go (eqb c.family 4 || eqb c.family 6) (is_zero (candidate_row c)) h
    where
      go : (a b : Bool) → (a && not b) ≡ true → b ≡ false
      go true true h = sym h
      go true false h = refl
      go false true h = sym h
      go false false h = refl

-- THE TABLE THAT TAKES IT IN
module _ (b : List ℕ) (h : Loadable b) (c : Candidate) where
  abbrev es : List Entry
  es = (table_in b).entries

  abbrev e : Entry
  e = candidate_entry c

  module _ (a : Address) (o : OriginatorOf c (Some a)) where
    pub taken-there : (i : ℕ) → found_in entry_key (address_key (address_row a)) es ≡ Ok i → Loadable b × TakenIn {A = Unit} es c (Err CandidatesWrong) es
    taken-there i f =
        let there : has entry_key (entry_key e) es ≡ true = rw (← o.1) (found_at entry_key (address_key (address_row a)) es i f).0 in
        (h, (refl, rw there (or-true (not (has_address c))), refl))

    module _ (w i : ℕ) (p : Packed (candidate_election c) w) (f : found_in entry_key (address_key (address_row a)) es ≡ Err i) (room : length es < 64) where
      new : has entry_key (entry_key e) es ≡ false
      new = rw (← o.1) (found-missing entry_key (address_key (address_row a)) es i f).0

      address : IsAddress (candidate_row c)
      address = subst IsAddress o.1 (row-address a)

      abbrev grown : Table
      grown = table_of (table_in b).esi (insert entry_key e es)

      well : WellFormed grown
      unfolding election_under
      well =
          let s = h.0.sound in
          record {
            owner = inl h.1;
            short = omega (arith, length-insert entry_key e es new, room);
            rising = rising-insert entry_key e es 1 (key_above (candidate_row c) address) s.rising;
            right = every-insert entry_key EntryRight e es (omega arith, refl) s.right;
            addresses = every-insert entry_key AddressRight e es (address, not-zero c o.0) s.addresses;
          }

      narrow : Every Narrow (insert entry_key e es)
      narrow = every-insert entry_key Narrow e es p.1 (narrow-entries b h.0)

      pub taken-new : (x : List ℕ) → x ≡ words_of (table_of (table_in b).esi (spliced es i (entry_in (address_row a) (w ∷ [])))) → Loadable x × TakenIn {A = Unit} es c (Ok tt) (table_in x).entries
      taken-new x q =
          let entry : entry_in (address_row a) (w ∷ []) ≡ e = packed-entry (address_row a) w (candidate_election c) p ∙ ap (λ (r : List ℕ). entry_of r (candidate_election c)) o.1 in
          let l : spliced es i (entry_in (address_row a) (w ∷ [])) ≡ insert entry_key e es =
          ap (spliced es i) entry ∙ sym (insert-missing entry_key (address_key (address_row a)) es e no_entry i (ap address_key (sym o.1)) f) in
          let words : x ≡ words_of grown = q ∙ ap (λ (m : List Entry). words_of (table_of (table_in b).esi m)) l in
          let table : table_in x ≡ grown = ap table_in words ∙ table-in grown well narrow h.0.octets in (
            (subst Valid (sym words) (valid-of grown well narrow h.0.octets), ap (λ (t : Table). reserved t.esi) table ∙ h.1),
            (rw (o.0, new), ap (λ (t : Table). t.entries) table),
          )

-- THE TABLE THAT NONE WAS PUT INTO
pub loaded-none : (b : List ℕ) (n : ℕ) → Told (fresh_table (0 ∷ 0 ∷ 0 ∷ 0 ∷ 0 ∷ 0 ∷ 0 ∷ 0 ∷ 0 ∷ 1 ∷ [])) n 0 b → Valid b → NothingLoaded b
unfolding fresh_table owner_of reserved all_are all
loaded-none b n o v = ((v, ap (λ (t : Table). reserved t.esi) o.2), ap (λ (t : Table). t.entries) o.2)

-- what `address_of` answers for each family
pub ruleset by_family = (is-four, is-six, is-neither)
