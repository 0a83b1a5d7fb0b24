-- The pair that a returning router sends loses against the reference of algorithm 2 or 3, if that one's DP is set: with no range set against the reference of its own algorithm, and
-- with ranges set against both. Assumes nothing.
use Prim.Native.Nat.{ℕ, ◌≤◌, ◌<◌}
use native.Mathlib.Omega.{arith}
use mathlib.Core.Path.{◌≡◌, refl, ap, ◌∙◌, sym, subst}
use mathlib.Core.Bool.{Bool, true, false}
use mathlib.Core.List.{List}
use mathlib.Core.Logic.{◌⊎◌, inl, inr}
use lib.ListN.{length}
use lib.Dec.{leb}
use borrow.Author.Tests.{leb-false}
use Rattle.lists.specs.Lists.{Every}
use Rattle.lists.proofs.Bools.{by-test}
use Rattle.lists.proofs.Lists.{every-mem}
use Rattle.address.specs.Address.{address_key, is_zero}
use Rattle.keyed.specs.Keyed.{has}
use Rattle.keyed.proofs.Order.{remove_absent}
use Rattle.layout.specs.Table.{Entry, entry_key}
use Rattle.layout.proofs.Words.{Narrow}
use Rattle.settings.specs.Settings.{Settings, any_range}
use Rattle.choice.proofs.Laws.{Unique}
use Rattle.winner.specs.Winner.{better}
use Rattle.returning.specs.Returning.{Sent, all_under, reaches, sent, reference, fits, beside_reference, beside_both, returning_with}
use Rattle.returning.proofs.Laws.{Beside, beside-both, beside-one, sent-beside}
use Rattle.non_revertive.proofs.Members.{reference-in, reference-top}
use Rattle.non_revertive.proofs.Losing.{lower-loses, higher-loses, clear-loses-highest, clear-loses-lowest, no_lower}

-- the own preference p does not reach a reference whose DP is set
module _ (p : ℕ) (e : Entry) (d : e.dp ≡ true) where
  below-highest : fits 2 p e ≡ false → p < e.preference
  unfolding fits reaches
  below-highest f = let h : leb e.preference p ≡ false = rw d at f in leb-false e.preference p h

  above-lowest : fits 3 p e ≡ false → e.preference < p
  unfolding fits reaches
  above-lowest f = let h : leb p e.preference ≡ false = rw d at f in leb-false p e.preference h

-- WHAT IS SENT, as cases
module _ {P : Type 0} (p : ℕ) (r : Sent) where
  beside : (g : ℕ) (e : Entry) → r ≡ beside_reference g p true e → (r ≡ sent 0 e.preference false → P) → (fits g p e ≡ false → r ≡ sent 0 p true → P) → P
  unfolding beside_reference
  beside g e q f k = by-test (fits g p e) (λ t. f (q ∙ rw t)) (λ t. k t (q ∙ rw t))

  beside_two : (l : List Entry) → r ≡ beside_both p true l → (r ≡ sent 0 (reference 2 l).preference false → P)
      → (fits 2 p (reference 2 l) ≡ false → r ≡ beside_reference 3 p true (reference 3 l) → P) → P
  unfolding beside_both
  beside_two l q f k = by-test (fits 2 p (reference 2 l)) (λ t. f (q ∙ rw t)) (λ t. k t (q ∙ rw t))

-- AN ENTRY n WITH THAT PAIR
module _ (p : ℕ) (r : Sent) (n : Entry) (pn : n.preference ≡ r.preference) (dn : n.dp ≡ r.dp) where
  preference-of : {q : ℕ} {b : Bool} → r ≡ sent 0 q b → n.preference ≡ q
  preference-of e = pn ∙ ap (λ (x : Sent). x.preference) e

  dp-of : {q : ℕ} {b : Bool} → r ≡ sent 0 q b → n.dp ≡ b
  dp-of e = dn ∙ ap (λ (x : Sent). x.dp) e

  -- beside one reference
  module _ (e : Entry) (d : e.dp ≡ true) where
    one-highest : r ≡ beside_reference 2 p true e → better 2 0 n e ≡ false
    one-highest q =
        beside p r 2 e q
        (λ t. let v = preference-of t in clear-loses-highest n e (dp-of t) d (omega arith))
        (λ f t. let v = preference-of t in let k = below-highest p e d f in lower-loses n e (omega arith))

    one-lowest : r ≡ beside_reference 3 p true e → better 3 0 n e ≡ false
    one-lowest q =
        beside p r 3 e q
        (λ t. let v = preference-of t in clear-loses-lowest n e (dp-of t) d (omega arith))
        (λ f t. let v = preference-of t in let k = above-lowest p e d f in higher-loses n e (omega arith))

  -- beside both: the lowest preference is at most the highest
  module _ (l : List Entry) (some : length l ≡ 0 → ⊥) (u : Unique entry_key l) (q : r ≡ beside_both p true l) where
    between : (reference 3 l).preference ≤ (reference 2 l).preference
    between = no_lower (reference 2 l) (reference 3 l) (reference-top 3 l u (reference 2 l) (reference-in 2 l some))

    both-highest : (reference 2 l).dp ≡ true → better 2 0 n (reference 2 l) ≡ false
    both-highest d =
        let o = between in
        beside_two p r l q
        (λ t. let v = preference-of t in clear-loses-highest n (reference 2 l) (dp-of t) d (omega arith))
        (λ f t.
        let k = below-highest p (reference 2 l) d f in
        beside p r 3 (reference 3 l) t
        (λ w. let v = preference-of w in clear-loses-highest n (reference 2 l) (dp-of w) d (omega arith))
        (λ _ w. let v = preference-of w in lower-loses n (reference 2 l) (omega arith)))

    both-lowest : (reference 3 l).dp ≡ true → better 3 0 n (reference 3 l) ≡ false
    both-lowest d =
        let o = between in
        beside_two p r l q
        (λ t. let v = preference-of t in clear-loses-lowest n (reference 3 l) (dp-of t) d (omega arith))
        (λ f t. one-lowest (reference 3 l) d t)

-- THE WHOLE ANSWER, for a router whose own DP is set, beside routes that are all on its algorithm
module _ (s : Settings) (l : List Entry) (a : List ℕ) (g p : ℕ) (r : Sent) (told : r ≡ returning_with s l a g p true) (low : 2 ≤ g) (high : g ≤ 3)
    (nonzero : is_zero a ≡ false) (absent : has entry_key (address_key a) l ≡ false) (agreed : all_under g l ≡ true) (some : length l ≡ 0 → ⊥) where
  sent-by : r ≡ Beside l (any_range s) g p true
  sent-by = told ∙ sym (sent-beside s l a g p true low high nonzero) ∙ ap (λ (os : List Entry). Beside os (any_range s) g p true) (remove_absent entry_key (address_key a) l absent)

  sent-both : any_range s ≡ true → r ≡ beside_both p true l
  sent-both b = sent-by ∙ sym (beside-both l (any_range s) g p true refl some agreed b)

  sent-one : any_range s ≡ false → r ≡ beside_reference g p true (reference g l)
  sent-one b = sent-by ∙ sym (beside-one l (any_range s) g p true refl some agreed b)

  -- its preference has 16 bits
  pub small : p < 65536 → Every Narrow l → r.preference < 65536
  small h w = by-test (any_range s) both one
    where
      of : (e : Entry) → r ≡ sent 0 e.preference false → e.preference < 65536 → r.preference < 65536
      of e t k = let v = ap (λ (x : Sent). x.preference) t in omega arith

      own : r ≡ sent 0 p true → r.preference < 65536
      own t = let v = ap (λ (x : Sent). x.preference) t in omega arith

      narrow : (k : ℕ) → (reference k l).preference < 65536
      narrow k = every-mem Narrow l w (reference k l) (reference-in k l some)

      both : any_range s ≡ true → r.preference < 65536
      both b =
          beside_two p r l (sent-both b) (λ t. of (reference 2 l) t (narrow 2))
          (λ _ q. beside p r 3 (reference 3 l) q (λ t. of (reference 3 l) t (narrow 3)) (λ _ t. own t))

      one : any_range s ≡ false → r.preference < 65536
      one b = beside p r g (reference g l) (sent-one b) (λ t. of (reference g l) t (narrow g)) (λ _ t. own t)

  -- it loses under h, which is 2 or 3, and the own algorithm where no range is set
  module _ (u : Unique entry_key l) (n : Entry) (pn : n.preference ≡ r.preference) (dn : n.dp ≡ r.dp) where
    abbrev Loses : ℕ → Type 0
    Loses h = (any_range s ≡ false → h ≡ g) → (reference h l).dp ≡ true → better h 0 n (reference h l) ≡ false

    own-reference : (h : ℕ) → h ≡ g → any_range s ≡ false → r ≡ beside_reference h p true (reference h l)
    own-reference h e b = subst (λ (k : ℕ). r ≡ beside_reference k p true (reference k l)) (sym e) (sent-one b)

    loses-highest : Loses 2
    loses-highest o d =
        by-test (any_range s)
        (λ b. both-highest p r n pn dn l some u (sent-both b) d)
        (λ b. one-highest p r n pn dn (reference 2 l) d (own-reference 2 (o b) b))

    loses-lowest : Loses 3
    loses-lowest o d =
        by-test (any_range s)
        (λ b. both-lowest p r n pn dn l some u (sent-both b) d)
        (λ b. one-lowest p r n pn dn (reference 3 l) d (own-reference 3 (o b) b))

    pub loses : (h : ℕ) → (h ≡ 2) ⊎ (h ≡ 3) → Loses h
    loses h (inl e) = subst Loses (sym e) loses-highest
    loses h (inr e) = subst Loses (sym e) loses-lowest
