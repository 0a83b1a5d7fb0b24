-- Exactly one router forwards: two lists of calls that leave the same held and the same set leave the same state, by demand 3; and an answer that names a router names a candidate, of
-- whom no other has the address. Assumes nothing.
use Prim.Native.Nat.{ℕ, ◌≤◌}
use native.Mathlib.Omega.{arith}
use mathlib.Core.Path.{◌≡◌, refl, ap, ap₂, ◌∙◌, sym, subst}
use mathlib.Core.Bool.{Bool, true, false}
use mathlib.Core.List.Memᴰ
use mathlib.Core.List.{List, [], ◌∷◌, ◌++◌, map, Memᴰ, Permᴰ}
use mathlib.Core.Logic.{◌⊎◌, inl, inr, ⊎_elim}
use lib.ListN.{length}
use Rattle.lists.proofs.Lists.{every-mem}
use Rattle.address.specs.Address.{address_key, family_of, address_words}
use Rattle.address.proofs.Laws.{length-address}
use Rattle.layout.specs.Table.{Entry, entry_key, WellFormed, AddressRight}
use Rattle.places.specs.Places.{picked}
use Rattle.choice.proofs.Criteria.{unique-rising}
use Rattle.tags.specs.Tags.{reserved_tag}
use Rattle.settings.specs.Settings.{Settings}
use Rattle.segment_state.specs.State.{Segment}
use Rattle.ready.specs.Ready.{eligible, candidates, candidate_set}
use Rattle.answers.specs.Answers.{Answer}
use Rattle.answers.proofs.Laws.{none-by, numbers-by}
use Rattle.agreement.specs.Agreement.{in_use_with}
use Rattle.election.specs.Queries.{Query, right_lengths, method_of, candidates_of}
use Rattle.election.proofs.Laws.{passes, chosen}
use Rattle.demand3.specs.Calls.{Call}
use Rattle.demand3.specs.Journal.{again, held, settings_set, set_again, left}
use Rattle.demand3.specs.Demand3.{segment_after}
use Rattle.demand3.proofs.Demand3.{demand3}
use Rattle.forwarders.specs.Forwarders.{elect_in}
use Rattle.one_forwarder.specs.OneForwarder.{SameHeld, Alone, Nobody, Once, OneForwarder}

-- THE SAME STATE: what is left of one list is an order of what is left of the other
perm-after : {A : Type 0} (x : List A) {l m : List A} → Permᴰ l m → Permᴰ (x ++ l) (x ++ m)
perm-after [] h = h
perm-after (a ∷ x) h = mathlib.Core.List.Permᴰ.cons refl (perm-after x h)

same-state : (i : List ℕ) (cs ds : List Call) → SameHeld i cs ds → segment_after i cs ≡ segment_after i ds
same-state i cs ds h =
    let again-held : Permᴰ (left i cs) (set_again (settings_set cs) ++ map again (held i ds)) = perm-after (set_again (settings_set cs)) (mathlib.Core.List.Permᴰ.map again h.announcements) in
    let same_left : Permᴰ (left i cs) (left i ds) = subst (λ (g : Settings). Permᴰ (left i cs) (set_again g ++ map again (held i ds))) h.settings again-held in
    sym ((demand3 i cs).state (left i cs) (mathlib.Core.List.Permᴰ.refl (left i cs))) ∙ (demand3 i ds).state (left i cs) same_left

-- CANDIDATES are entries
mem-picked : {A : Type 0} (bs : List Bool) (l : List A) {x : A} → Memᴰ x (picked bs l) → Memᴰ x l
unfolding picked
mem-picked [] l m = absurd (Memᴰ.not-nil m)
mem-picked (b ∷ bs) [] m = absurd (Memᴰ.not-nil m)
mem-picked (true ∷ bs) (y ∷ l) (Memᴰ.head e) = Memᴰ.head e
mem-picked (true ∷ bs) (y ∷ l) (Memᴰ.tail m) = Memᴰ.tail (mem-picked bs l m)
mem-picked (false ∷ bs) (y ∷ l) m = Memᴰ.tail (mem-picked bs l m)

-- AN ADDRESS is its family and its words
same_address : (a b : List ℕ) → length a ≡ 5 → length b ≡ 5 → family_of a ≡ family_of b → address_words a ≡ address_words b → a ≡ b
unfolding family_of address_words
same_address [] b m n p q = absurd (omega arith)
same_address (x ∷ a) [] m n p q = absurd (omega arith)
same_address (x ∷ a) (y ∷ b) m n p q = ap₂ (λ (z : ℕ) (l : List ℕ). z ∷ l) p q

-- WHO IS NAMED, upon a state whose table is well-formed
module _ (s : Segment) (w : WellFormed s.table) (q : Query) (tag : ℕ) (ready : List (List ℕ)) where
  abbrev es : List Entry
  es = s.table.entries

  abbrev cs : List Entry
  cs = candidates_of s.settings es ready

  abbrev answer : Answer
  answer = elect_in s q tag ready

  in_table : {x : Entry} → Memᴰ x cs → Memᴰ x es
  unfolding candidates
  in_table m = mem-picked (map (eligible (in_use_with s.settings es).ac_df ready) es) es m

  five : (x : Entry) → Memᴰ x es → length x.address ≡ 5
  five x m = length-address x.address (every-mem AddressRight es w.addresses x m).0

  -- an address that is named is that of one router
  alone : answer.number ≡ 0 → Alone es answer
  alone z =
      let f = chosen s.settings q s.table w tag ready z in
      let m = in_table f.candidate in
      record {
        router = f.entry;
        member = m;
        named = (z, f.family, f.address);
        only = λ x k n.
            let a : x.address ≡ f.entry.address = same_address x.address f.entry.address (five x k) (five f.entry m) (sym n.1 ∙ f.family) (sym n.2 ∙ f.address) in
            unique-rising entry_key 1 es w.rising x f.entry k m (ap address_key a);
      }

  -- with a candidate a router is named, and with none nobody
  some-named : reserved_tag tag ≡ false → length ready ≤ 64 → right_lengths q ≡ true → (cs ≡ [] → ⊥) → Alone es answer
  some-named h k r n =
      let m = method_of s.settings q s.table.esi es tag in
      let set = candidate_set (in_use_with s.settings es).ac_df ready es in
      let e = passes s.settings q s.table.esi es tag ready h k r in
      alone (ap (λ (x : Answer). x.number) e ∙ ⊎_elim (λ z. z) (λ t. absurd (n ((none-by m cs set tag).0 t))) (numbers-by m cs set tag (λ (x : ℕ). (x ≡ 0) ⊎ (x ≡ 12)) (inl refl) (inr refl)))

  none_named : cs ≡ [] → Nobody es answer
  none_named n x m (z, f, g) = Memᴰ.not-nil (subst (λ (l : List Entry). Memᴰ (chosen s.settings q s.table w tag ready z).entry l) n (chosen s.settings q s.table w tag ready z).candidate)

  pub once : {r : Answer} → r ≡ answer → Once s q tag ready r
  once e = subst (Once s q tag ready) (sym e) (record { one = some-named; none = none_named })

-- THE CLAIM
pub one-forwarder : (i : List ℕ) (cs ds : List Call) → OneForwarder i cs ds
one-forwarder i cs ds = record {
  same = λ h q tag ready. ap (λ (s : Segment). elect_in s q tag ready) (same-state i cs ds h);
  once = λ q tag ready. once (segment_after i cs) (demand3 i cs).sound q tag ready refl;
}
