-- A router that comes back does not unseat the forwarder: its announcement is refused and the table stays, or its entry loses against whoever was elected with DP set, so that one stays the
-- best. Assumes nothing.
use Prim.Native.Nat.{ℕ, ◌≤◌, ◌<◌}
use native.Mathlib.Omega.{arith}
use mathlib.Core.Path.{◌≡◌, refl, ap, ap₂, ◌∙◌, sym, subst}
use mathlib.Core.Bool.{Bool, true, false, cond}
use mathlib.Core.List.{List, ◌∷◌, Memᴰ}
use mathlib.Core.Logic.{◌⊎◌, ⊎_elim}
use lib.ListN.{length}
use lib.Dec.{ltb, eqb}
use borrow.Author.Tests.{eqb-true}
use Rattle.lists.specs.Lists.{Every}
use Rattle.lists.proofs.Bools.{cond-by}
use Rattle.lists.proofs.Lists.{every-mem, mem-every}
use Rattle.address.specs.Address.{address_row, IsAddress, ipv4, ipv6, family_of, address_words, address_key, is_zero}
use Rattle.address.specs.declared.Address.{Address}
use Rattle.address.proofs.Laws.{row-address, row_words, key_above}
use Rattle.rows.proofs.Compared.{Words}
use Rattle.keyed.specs.Keyed.{has, insert}
use Rattle.keyed.proofs.Keyed.{rising-insert, every-insert}
use Rattle.esi.specs.Reserved.{reserved}
use Rattle.layout.specs.Table.{Entry, entry_key, no_entry, AddressRight, Table, WellFormed}
use Rattle.layout.proofs.Words.{Narrow}
use Rattle.route.specs.Route.{route_address}
use Rattle.route.proofs.Laws.{route-is-address, route-address}
use Rattle.route_fields.proofs.Laws.{address-of}
use Rattle.table.specs.Table.{announce_number, announced}
use Rattle.table.proofs.Calls.{passed-route}
use Rattle.tags.specs.Tags.{reserved_tag}
use Rattle.settings.specs.Settings.{SettingsRight}
use Rattle.segment_state.specs.State.{Segment}
use Rattle.choice.proofs.Laws.{Unique, best_in-only}
use Rattle.choice.proofs.Criteria.{unique-rising}
use Rattle.winner.specs.Winner.{better}
use Rattle.winner.proofs.Orders.{order-better}
use Rattle.answers.specs.Answers.{Answer, refused_answer}
use Rattle.election.specs.Queries.{Query, right_lengths, elect_with}
use Rattle.returning.specs.Returning.{Sent, reference, returning_with}
use Rattle.forwarders.specs.Forwarders.{elect_in, Names, SameForwarder}
use Rattle.non_revertive.specs.NonRevertive.{ComesBack, announced_pair, NonRevertive}
use Rattle.non_revertive.proofs.Members.{some-mem, mem-insert, reference-in, reference-top}
use Rattle.non_revertive.proofs.Pair as pair
use Rattle.non_revertive.proofs.Named.{two-or-three, Plain, plain-all, ruling, ruling-two-three, ruling-own, answer_in, named, names-best}
use Rattle.non_revertive.proofs.Octets as octets

-- NAMES: family and words tell addresses apart
whole : (a : List ℕ) → IsAddress a → a ≡ family_of a ∷ address_words a
unfolding family_of address_words
whole a (ipv4 x e) = rw e
whole a (ipv6 x y z w e) = rw e

one_address : (a b : List ℕ) → IsAddress a → IsAddress b → family_of a ≡ family_of b → address_words a ≡ address_words b → a ≡ b
one_address a b p q f w = whole a p ∙ ap₂ (λ (x : ℕ) (l : List ℕ). x ∷ l) f w ∙ sym (whole b q)

stays : (x : Answer) (a : List ℕ) → Names x a → SameForwarder x x
stays x a n = record { number = n.0; family = refl; address = refl; algorithm = refl }

-- THE CHECKS of a query do not look at the entries
abbrev checked : Bool → Bool → Bool → Answer → Answer
checked a b c x = cond a (refused_answer 10) (cond b (refused_answer 11) (cond c x (refused_answer 18)))

by-checks : (a b c : Bool) (x y : Answer) (e : List ℕ) → (Names x e → SameForwarder x y) → Names (checked a b c x) e → SameForwarder (checked a b c x) (checked a b c y)
by-checks true b c x y e f n = absurd (omega (arith, n.0))
by-checks false true c x y e f n = absurd (omega (arith, n.0))
by-checks false false false x y e f n = absurd (omega (arith, n.0))
by-checks false false true x y e f n = f n

module _ (s : Segment) (w : WellFormed s.table) (narrow : Every Narrow s.table.entries) (v : SettingsRight s.settings) (a : List ℕ) (g : ℕ) (c : ComesBack s a g) where
  abbrev t : Table
  t = s.table

  abbrev l : List Entry
  l = s.table.entries

  kind : (g ≡ 2) ⊎ (g ≡ 3)
  kind = two-or-three g c.algorithm

  low : 2 ≤ g
  low = ⊎_elim (λ e. omega (arith, e)) (λ e. omega (arith, e)) kind

  high : g ≤ 3
  high = ⊎_elim (λ e. omega (arith, e)) (λ e. omega (arith, e)) kind

  on-own : Every (Plain g) l
  on-own = plain-all g l c.agreed c.clear

  unique : Unique entry_key l
  unique = unique-rising entry_key 1 l w.rising

  -- AN ELECTION among the entries m, by the algorithm for the tag
  module _ (q : Query) (tag : ℕ) (ready : List (List ℕ)) where
    abbrev h : ℕ
    h = ruling s.settings v g low high tag

    module _ (m : List Entry) (some : length m ≡ 0 → ⊥) (on : Every (Plain g) m) where
      abbrev answer : Answer
      answer = answer_in s.settings v g low high q tag t.esi ready m some on

      told-best : answer ≡ named s.settings v g low high q tag t.esi ready m some on
      told-best = names-best s.settings v g low high q tag t.esi ready m some on kind

    -- UPON THE STATE s, where e is named
    module _ (e : Entry) (member : Memᴰ e l) where
      some : length l ≡ 0 → ⊥
      some = some-mem l member

      named-best : Names (answer l some on-own) e.address → reference h l ≡ e
      named-best n =
          let b = told-best l some on-own in
          let own = reference-in h l some in
          let f : family_of (reference h l).address ≡ family_of e.address = sym (ap (λ (x : Answer). x.family) b) ∙ n.1 in
          let o : address_words (reference h l).address ≡ address_words e.address = sym (ap (λ (x : Answer). x.address) b) ∙ n.2 in
          let right : (x : Entry) → Memᴰ x l → IsAddress x.address = λ x k. (every-mem AddressRight l w.addresses x k).0 in
          let same : (reference h l).address ≡ e.address = one_address (reference h l).address e.address (right (reference h l) own) (right e member) f o in
          unique (reference h l) e own member (ap address_key same)

      -- AFTER AN ANNOUNCEMENT that is accepted
      module _ (ra : IsAddress a) (wa : Words a) (p : ℕ) (fits : p < 65536) (r : Sent) (told : r ≡ returning_with s.settings l a g p true) (d : List ℕ) (ld : length d ≡ 8) where
        abbrev route : List ℕ
        route = octets.route d t.esi a g r

        abbrev community : List ℕ
        community = octets.community d t.esi a g r

        abbrev n : Entry
        n = octets.new d t.esi a g r

        abbrev m : List Entry
        m = insert entry_key n l

        abbrev number : ℕ
        number = announce_number t.esi route community (has entry_key (address_key (route_address route)) l) (length l)

        owned : reserved t.esi ≡ false
        owned = ⊎_elim (λ o. o) (λ o. absurd (some o.1)) w.owner

        own-address : route_address route ≡ a
        own-address = address-of d t.esi a ld owned ra wa

        new-key : has entry_key (entry_key n) l ≡ false
        new-key = ap (λ (x : List ℕ). has entry_key (address_key x) l) own-address ∙ c.absent

        module _ (accepted : number ≡ 0) where
          nonzero : is_zero a ≡ false
          nonzero =
              let k = passed-route t.esi route community (has entry_key (address_key (route_address route)) l) (length l) accepted in
              subst (λ (x : List ℕ). is_zero x ≡ false) own-address (route-address route k)

          small : r.preference < 65536
          small = pair.small s.settings l a g p r told low high nonzero c.absent c.agreed some fits narrow

          five-bits : g ≤ 31
          five-bits = let k = high in omega arith

          on-new : Every (Plain g) m
          on-new =
              every-insert entry_key (Plain g) n l
              (octets.new-algorithm d t.esi a g r c.algorithm five-bits small, octets.new-clear d t.esi a g r c.algorithm five-bits small) on-own

          keeps : {x : Entry} → Memᴰ x l → Memᴰ x m
          keeps = mem-insert entry_key n l new-key

          some-new : length m ≡ 0 → ⊥
          some-new = some-mem m (keeps member)

          unique-new : Unique entry_key m
          unique-new = unique-rising entry_key 1 m (rising-insert entry_key n l 1 (key_above (route_address route) (route-is-address route)) w.rising)

          -- its entry loses, so the best stays the best
          loses : (reference h l).dp ≡ true → better h 0 n (reference h l) ≡ false
          loses =
              pair.loses s.settings l a g p r told low high nonzero c.absent c.agreed some unique n
              (octets.new-preference d t.esi a g r c.algorithm five-bits small) (octets.new-dp d t.esi a g r c.algorithm five-bits small)
              h (ruling-two-three s.settings v g low high kind tag) (λ k. ruling-own s.settings v g low high k tag)

          still : (reference h l).dp ≡ true → reference h m ≡ reference h l
          still b =
              let top = every-insert entry_key (λ (x : Entry). better h 0 x (reference h l) ≡ false) n l (loses b) (mem-every (λ (x : Entry). better h 0 x (reference h l) ≡ false) l (reference-top h l unique)) in
              best_in-only entry_key (better h 0) (order-better h 0) no_entry (reference h l) m unique-new (keeps (reference-in h l some))
              (every-mem (λ (x : Entry). better h 0 x (reference h l) ≡ false) m top)

          same : e.dp ≡ true → Names (answer l some on-own) e.address → SameForwarder (answer l some on-own) (answer m some-new on-new)
          same b k =
              let old = told-best l some on-own in
              let now = told-best m some-new on-new in
              let who = still (ap (λ (x : Entry). x.dp) (named-best k) ∙ b) in
              record {
                number = ap (λ (x : Answer). x.number) now;
                family = ap (λ (x : Answer). x.family) now ∙ ap (λ (x : Entry). family_of x.address) who ∙ sym (ap (λ (x : Answer). x.family) old);
                address = ap (λ (x : Answer). x.address) now ∙ ap (λ (x : Entry). address_words x.address) who ∙ sym (ap (λ (x : Answer). x.address) old);
                algorithm = ap (λ (x : Answer). x.algorithm) now ∙ sym (ap (λ (x : Answer). x.algorithm) old);
              }

          same-elected : e.dp ≡ true → Names (elect_in s q tag ready) e.address → SameForwarder (elect_in s q tag ready) (elect_with s.settings q t.esi m tag ready)
          unfolding elect_with
          same-elected b = by-checks (reserved_tag tag) (ltb 64 (length ready)) (right_lengths q) (answer l some on-own) (answer m some-new on-new) e.address (same b)

        -- and after any
        comes_back : e.dp ≡ true → Names (elect_in s q tag ready) e.address → SameForwarder (elect_in s q tag ready) (elect_in (announced_pair s d a g r) q tag ready)
        unfolding announced
        comes_back b k =
            cond-by (λ (x : Table). SameForwarder (elect_in s q tag ready) (elect_with s.settings q x.esi x.entries tag ready)) (eqb number 0)
            (λ y. same-elected (eqb-true number 0 y) b k)
            (λ _. stays (elect_in s q tag ready) e.address k)

-- THE THEOREM, for an address as it is handed in
pub non-revertive : (s : Segment) (address : Address) (g p : ℕ)
    → address.w0 < 4294967296 → address.w1 < 4294967296 → address.w2 < 4294967296 → address.w3 < 4294967296 → p < 65536
    → WellFormed s.table → Every Narrow s.table.entries → SettingsRight s.settings
    → (r : Sent) → r ≡ returning_with s.settings s.table.entries (address_row address) g p true → NonRevertive s (address_row address) g r
non-revertive s address g p w0 w1 w2 w3 fits w narrow v r told c d ld q tag ready e member =
    comes_back s w narrow v (address_row address) g c q tag ready e member (row-address address) (row_words address w0 w1 w2 w3) p fits r told d ld
