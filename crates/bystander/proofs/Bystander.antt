-- Losing a bystander disturbs nobody (`specs/Bystander.antt`), for every table and settings that the calls can have made. An address is known by its key, so the one withdrawn must be the
-- only one with its key that the table can hold: that is so of addresses whose words have 32 bits, and so in all words that a caller lends. Assumes nothing.
use Prim.Native.Nat.{ℕ}
use native.Mathlib.Omega.{arith}
use mathlib.Core.Path.{◌≡◌, refl, ap, sym, ◌∙◌}
use mathlib.Core.List.{List, Memᴰ}
use lib.ListN.{get_or, take}
use lib.Dec.{eqb}
use Rattle.lists.proofs.Bools.{cond-by}
use Rattle.lists.proofs.Lists.{every_in}
use Rattle.rows.proofs.Compared.{Words, words-part}
use Rattle.address.specs.Address.{IsAddress, address_key}
use Rattle.address.proofs.Laws.{key-injective, length-address}
use Rattle.keyed.specs.Keyed.{has}
use Rattle.keyed.proofs.Order.{removed-of, removed-in}
use Rattle.choice.proofs.Criteria.{unique-rising}
use Rattle.layout.specs.Table.{Entry, entry_key, no_entry, AddressRight, Table, WellFormed}
use Rattle.layout.specs.Words.{table_in, Valid}
use Rattle.layout.proofs.Addresses.{words-in}
use Rattle.table.specs.Table.{withdraw_number, withdrawn}
use Rattle.table.proofs.Calls.{withdrawn-kept}
use Rattle.settings.specs.Settings.{SettingsRight}
use Rattle.segment_state.specs.State.{Segment, segment_in, ValidSegment}
use Rattle.circuit_ready.specs.Routers.{ready_routers}
use Rattle.circuit_ready.proofs.Laws.{length-routers}
use Rattle.election.specs.Queries.{plain}
use Rattle.circuit_election.specs.Over.{elect_over}
use Rattle.bystander.specs.Bystander.{Undisturbed}
use Rattle.bystander.proofs.Members.{mem-place, on-routers}
use Rattle.bystander.proofs.Fewer.{same-elected}

-- WHAT A WITHDRAWAL LEAVES, accepted or refused
module _ (t : Table) (a : List ℕ) where
  pub left-owner : (withdrawn t a).table.esi ≡ t.esi
  unfolding withdrawn
  left-owner = cond-by (λ (u : Table). u.esi ≡ t.esi) (eqb (withdraw_number a (has entry_key (address_key a) t.entries)) 0) (λ _. refl) (λ _. refl)

  pub left-of : (x : Entry) → Memᴰ x (withdrawn t a).table.entries → Memᴰ x t.entries
  unfolding withdrawn
  left-of x =
      cond-by (λ (u : Table). Memᴰ x u.entries → Memᴰ x t.entries) (eqb (withdraw_number a (has entry_key (address_key a) t.entries)) 0)
      (λ _ m. removed-of entry_key (address_key a) t.entries m)
      (λ _ m. m)

  pub left_in : (x : Entry) → Memᴰ x t.entries → (entry_key x ≡ address_key a → ⊥) → Memᴰ x (withdrawn t a).table.entries
  unfolding withdrawn
  left_in x m n =
      cond-by (λ (u : Table). Memᴰ x u.entries) (eqb (withdraw_number a (has entry_key (address_key a) t.entries)) 0)
      (λ _. removed-in entry_key (address_key a) n m)
      (λ _. m)

-- THE THEOREM
abbrev pub KnownByKey : Table → List ℕ → Type 0
KnownByKey t a = (x : Entry) → Memᴰ x t.entries → entry_key x ≡ address_key a → x.address ≡ a

pub undisturbed : (s : Segment) (a : List ℕ) → WellFormed s.table → SettingsRight s.settings → KnownByKey s.table a
    → Undisturbed s a (record { table = (withdrawn s.table a).table; settings = s.settings })
unfolding elect_over
undisturbed s a w r known =
    let t = s.table in
    let u = (withdrawn t a).table in
    let v = withdrawn-kept t w a in
    let stays : (x : Entry) → Memᴰ x t.entries → (x.address ≡ a → ⊥) → Memᴰ x u.entries = λ x m n. left_in t a x m (λ e. n (known x m e)) in
    record {
      queries = λ q tag ready g. same-elected s.settings r t u w v (left-owner t a) a (left-of t a) stays g q tag ready ready (λ h. h) (λ x m. refl);
      circuits = λ c tag g.
          same-elected s.settings r t u w v (left-owner t a) a (left-of t a) stays g plain tag (ready_routers c tag t.entries) (ready_routers c tag u.entries)
          (λ _. omega (arith, length-routers c tag u.entries, v.short))
          (λ x m.
          on-routers c tag u.entries (unique-rising entry_key 1 u.entries v.rising) x m
          ∙ sym (on-routers c tag t.entries (unique-rising entry_key 1 t.entries w.rising) x (left-of t a x m)));
    }

-- IN WORDS OF 32 BITS an address is known by its key
known_in : (b : List ℕ) → Valid b → Words b → (a : List ℕ) → IsAddress a → Words a → KnownByKey (table_in b) a
known_in b h o a g p x m e =
    let (i, (l, k)) = mem-place no_entry m in
    let y : Words (get_or (table_in b).entries i no_entry).address = words-in b h i l o in
    let n = length-address _ (every_in AddressRight (table_in b).entries i no_entry h.sound.addresses l).0 ∙ sym (length-address a g) in
    ap (λ (z : Entry). z.address) (sym k) ∙ key-injective _ a n y p (ap entry_key k ∙ e)

pub undisturbed-in : (b : List ℕ) → ValidSegment b → Words b → (a : List ℕ) → IsAddress a → Words a
    → Undisturbed (segment_in b) a (record { table = (withdrawn (segment_in b).table a).table; settings = (segment_in b).settings })
unfolding segment_in
undisturbed-in b h o a g p =
    undisturbed (segment_in b) a h.table.sound h.settings.sound (known_in (take 388 b) h.table (words-part 388 0 b o) a g p)
