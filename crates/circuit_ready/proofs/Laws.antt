-- The set of the routers that are ready, router by router; and that the list of the ready routers names just these. Assumes nothing.
use Prim.Native.Nat.{ℕ, suc, ◌+◌, ◌≤◌, ◌<◌}
use native.Mathlib.Numerals.{add-one}
use native.Mathlib.Omega.{arith}
use mathlib.Core.Path.{◌≡◌, refl, ap, ap₂, ◌∙◌, sym, subst}
use mathlib.Core.Bool.{Bool, true, false, cond, ◌&&◌, ◌||◌, and-true, and-false, or-true}
use mathlib.Core.List.{List, [], ◌∷◌, ◌++◌, map, map-append}
use lib.ListN.{length, get_or, take, replicate, length-map}
use lib.Seq.{length-take-le, take-suc}
use lib.Dec.{eqb}
use borrow.Author.Tests.{eq-eqb, eqb-true}
use Rattle.lists.specs.Lists.{Every}
use Rattle.lists.proofs.Bools.{true-false}
use Rattle.lists.proofs.Lists.{every_in}
use Rattle.address.specs.Address.{IsAddress, address_key}
use Rattle.address.proofs.Laws.{length-address, key_row}
use Rattle.rows.specs.Rows.{row_key}
use Rattle.layout.specs.Table.{Entry, no_entry, AddressRight}
use Rattle.places.specs.Places.{set_of, picked, with_place}
use Rattle.places.proofs.Flags.{set_of-last-false, set_of-last-true}
use Rattle.ready.specs.Ready.{on_list, candidate_set}
use Rattle.ready.proofs.Laws.{set-ready}
use Rattle.circuit_ready.specs.Routers.{ready_for, ready_routers}

-- what an entry has as its address is one
pub address-right : (es : List Entry) → Every AddressRight es → (i : ℕ) (a : List ℕ) → a ≡ (get_or es i no_entry).address → i < length es → IsAddress a
address-right es right i a e h = subst IsAddress (sym e) (every_in AddressRight es i no_entry right h).0

-- ONE ROUTER MORE
module _ (c : List (List ℕ)) (tag : ℕ) where
  abbrev pub flags : List Entry → List Bool
  flags l = map (λ e. ready_for c tag e.address) l

  pub ready-none : 0 ≡ set_of (flags [])
  unfolding set_of
  ready-none = refl

  module _ (es : List Entry) (i : ℕ) (h : i < length es) (short : length es ≤ 64) (s : ℕ) (q : s ≡ set_of (flags (take i es))) (b : Bool) (ready : b ≡ ready_for c tag (get_or es i no_entry).address) where
    next : flags (take (i + 1) es) ≡ flags (take i es) ++ b ∷ []
    next = rw (add-one, take-suc es i no_entry h, ready) (map-append (λ (e : Entry). ready_for c tag e.address) (take i es) (get_or es i no_entry ∷ []))

    long : length (flags (take i es)) ≡ i
    long = length-map (take i es) (λ (e : Entry). ready_for c tag e.address) ∙ length-take-le i es (omega arith)

    pub ready-more : b ≡ true → with_place s i ≡ set_of (flags (take (i + 1) es))
    ready-more e = rw (next, e, q) (set_of-last-true (flags (take i es)) i long (omega arith))

    pub ready-less : b ≡ false → s ≡ set_of (flags (take (i + 1) es))
    ready-less e = rw (next, e, q) (sym (set_of-last-false (flags (take i es))))

-- where every router is ready, all places are in the set
pub all-flags : (c : List (List ℕ)) (tag : ℕ) (es : List Entry) (n : ℕ) → n ≡ length es → ((i : ℕ) → i < n → ready_for c tag (get_or es i no_entry).address ≡ true) → set_of (replicate n true) ≡ set_of (flags c tag es)
all-flags c tag es n e f = ap (λ (k : ℕ). set_of (replicate k true)) e ∙ ap set_of (each es (λ i l. f i (omega (arith, e, l))))
  where
    each : (l : List Entry) → ((i : ℕ) → i < length l → ready_for c tag (get_or l i no_entry).address ≡ true) → replicate (length l) true ≡ flags c tag l
    each [] f = refl
    each (x ∷ l) f = ap₂ (λ (b : Bool) (bs : List Bool). b ∷ bs) (sym (f 0 (omega arith))) (each l (λ i h. f (suc i) (omega (arith, h))))

-- THE LIST of the ready routers of a route table
-- whether a router is ready depends on the key of its address alone
ready-key : (c : List (List ℕ)) (tag : ℕ) (a b : List ℕ) → IsAddress a → IsAddress b → address_key a ≡ address_key b → ready_for c tag a ≡ ready_for c tag b
unfolding ready_for row_key
ready-key c tag a b g h e =
    let n : length a ≡ length b = length-address a g ∙ sym (length-address b h) in
    let k : row_key a ≡ row_key b = key_row a ∙ e ∙ sym (key_row b) in
    rw (n, k)

abbrev address_of : Entry → List ℕ
address_of e = e.address

-- the addresses of the entries that a test picks, where the test asks of an address its key alone
module _ (p : List ℕ → Bool) (alike : (a b : List ℕ) → IsAddress a → IsAddress b → address_key a ≡ address_key b → p a ≡ p b) where
  abbrev chosen : List Entry → List (List ℕ)
  chosen l = map address_of (picked (map (λ e. p e.address) l) l)

  on-chosen : (l : List Entry) (a : List ℕ) → IsAddress a → Every AddressRight l → on_list (chosen l) a ≡ (p a && on_list (map address_of l) a)
  unfolding on_list picked Every
  on-chosen [] a g h = sym (and-false (p a))
  on-chosen (e ∷ l) a g h = go (p e.address) refl (p a) refl (eqb (address_key e.address) (address_key a)) refl (on-chosen l a g h.1)
    where
      go : (b : Bool) → p e.address ≡ b → (c : Bool) → p a ≡ c → (d : Bool) → eqb (address_key e.address) (address_key a) ≡ d → on_list (chosen l) a ≡ (p a && on_list (map address_of l) a)
          → on_list (map address_of (cond b (e ∷ []) [] ++ picked (map (λ (x : Entry). p x.address) l) l)) a ≡ (c && (d || on_list (map address_of l) a))
      go true q true r true s ih = rw s
      go true q true r false s ih = rw s (ih ∙ rw r)
      go true q false r true s ih = absurd (true-false q (alike e.address a h.0.0 g (eqb-true _ _ s) ∙ r))
      go true q false r false s ih = rw s (ih ∙ rw r)
      go false q true r true s ih = absurd (true-false r (sym (alike e.address a h.0.0 g (eqb-true _ _ s)) ∙ q))
      go false q true r false s ih = ih ∙ rw r
      go false q false r d s ih = ih ∙ rw r

  -- of the entries themselves, it names just those that the test picks
  module _ (es : List Entry) (right : Every AddressRight es) where
    named : (l : List Entry) → ((a : List ℕ) → on_list (map address_of l) a ≡ true → on_list (map address_of es) a ≡ true) → Every AddressRight l
        → map (λ e. p e.address) l ≡ map (λ e. on_list (chosen es) e.address) l
    unfolding on_list Every
    named [] sup h = refl
    named (e ∷ l) sup h =
        let own : on_list (map address_of es) e.address ≡ true = sup e.address (rw (eq-eqb (address_key e.address) (address_key e.address) refl)) in
        ap₂ (λ (b : Bool) (bs : List Bool). b ∷ bs)
        (sym (on-chosen es e.address h.0.0 right ∙ ap (λ (b : Bool). p e.address && b) own ∙ and-true (p e.address)))
        (named l (λ a q. sup a (ap (λ (b : Bool). eqb (address_key e.address) (address_key a) || b) q ∙ or-true (eqb (address_key e.address) (address_key a)))) h.1)

pub set-circuits : (c : List (List ℕ)) (tag : ℕ) (es : List Entry) (ac : Bool) → Every AddressRight es → ac ≡ true → set_of (flags c tag es) ≡ candidate_set ac (ready_routers c tag es) es
unfolding ready_routers
set-circuits c tag es ac right b = ap set_of (named (ready_for c tag) (ready-key c tag) es right es (λ a q. q) right) ∙ set-ready (ready_routers c tag es) es ac b

-- the list is no longer than the table
pub length-routers : (c : List (List ℕ)) (tag : ℕ) (es : List Entry) → length (ready_routers c tag es) ≤ length es
unfolding ready_routers picked
length-routers c tag es = omega (arith, length-map (picked (flags c tag es) es) address_of, fewer (flags c tag es) es)
  where
    fewer : (bs : List Bool) (l : List Entry) → length (picked bs l) ≤ length l
    fewer [] l = omega arith
    fewer (b ∷ bs) [] = omega arith
    fewer (true ∷ bs) (e ∷ l) = omega (arith, fewer bs l)
    fewer (false ∷ bs) (e ∷ l) = omega (arith, fewer bs l)
