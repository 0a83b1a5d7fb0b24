-- One law for each way that `last_announcement` returns. Assumes nothing.
use Prim.Native.Nat.{ℕ, ◌+◌, ◌-◌, ◌≤◌}
use native.Mathlib.Omega.{arith}
use mathlib.Core.Path.{◌≡◌, refl, ap, ◌∙◌, sym, subst}
use mathlib.Core.Bool.{true, false, ◌||◌, or-true}
use mathlib.Core.List.{List, []}
use lib.ListN.{length, take, drop}
use lib.Dec.{eqb}
use denote.Ref.{Bor}
use borrow.Author.Tests.{eq-eqb, ne_eqb}
use Rattle.lists.proofs.Checks.{refused-at, refused_none}
use Rattle.address.specs.Address.{is_zero}
use Rattle.dumps.specs.Dumps.{Place, records_of, last_in}
use Rattle.dumps.specs.Answers.{is_broken, holds, last_number, dump_of, Answered}
use Rattle.dumps.proofs.Found.{Found, found, broken-number}

-- a refusal: any number but 0, and an empty part
refused : (a : List ℕ) (s t : Bor (List ℕ)) (n : ℕ) (r : Bor (List ℕ)) → n ≡ last_number a s.now t.now → (n ≡ 0 → ⊥) → r.now ≡ [] → Answered a s t n r
refused a s t n r e z w = record { told = e; part = λ h. absurd (z h); last = λ h. absurd (z h); empty = λ h. w }

-- 0: the record of the dump d
handed : (a : List ℕ) (s t d r : Bor (List ℕ)) (p : Place) → 0 ≡ last_number a s.now t.now → dump_of a s t ≡ d → p ≡ last_in a d.now → p.number ≡ 0
    → r.now ≡ take (p.start + p.len - p.start) (drop p.start d.now) → r.ref_ptr ≡ (d.ref_ptr.0, p.start + d.ref_ptr.1) → Answered a s t 0 r
handed a s t d r p e f q z o l =
    let w : Found a d.now p = subst (Found a d.now) (sym q) (found a d.now (sym (ap (λ (x : Place). x.number) q) ∙ z)) in
    let n : p.start + p.len - p.start ≡ p.len = omega arith in
    let o' : r.now ≡ take p.len (drop p.start d.now) = rw n at o in
    record {
      told = e;
      part = λ h. rw (f, ← q) (record { fits = w.fits; octets = o'; place = l });
      last = λ h. rw (f, ← q, o') w.last;
      empty = λ h. absurd (h refl);
    }

pub zero-address : (a : List ℕ) (s t r : Bor (List ℕ)) → is_zero a ≡ true → r.now ≡ [] → Answered a s t 6 r
unfolding last_number
zero-address a s t r z w = refused a s t 6 r (refused-at 0 _ tt z) (λ n. omega arith) w

-- the record's end, where it is found
pub place-fits : (a s : List ℕ) (p : Place) → p ≡ last_in a s → p.number ≡ 0 → p.start + p.len ≤ length s
place-fits a s p q z = (subst (Found a s) (sym q) (found a s (sym (ap (λ (x : Place). x.number) q) ∙ z))).fits

module _ (a : List ℕ) (s t r : Bor (List ℕ)) (z : is_zero a ≡ false) (p q : Place) (ep : p ≡ last_in a s.now) (eq : q ≡ last_in a t.now) where
  -- what the two numbers say of each dump
  broken-first : is_broken (records_of s.now) ≡ eqb p.number 16
  broken-first = broken-number a s.now ∙ ap (λ (x : Place). eqb x.number 16) (sym ep)

  broken-second : is_broken (records_of t.now) ≡ eqb q.number 16
  broken-second = broken-number a t.now ∙ ap (λ (x : Place). eqb x.number 16) (sym eq)

  holds-first : holds a s.now ≡ eqb p.number 0
  unfolding holds
  holds-first = ap (λ (x : Place). eqb x.number 0) (sym ep)

  holds-second : holds a t.now ≡ eqb q.number 0
  unfolding holds
  holds-second = ap (λ (x : Place). eqb x.number 0) (sym eq)

  pub first-broken : p.number ≡ 16 → r.now ≡ [] → Answered a s t 16 r
  unfolding last_number
  first-broken h w = refused a s t 16 r (refused-at 1 _ (z, tt) (rw (broken-first, eq-eqb _ _ h))) (λ n. omega arith) w

  pub second-broken : q.number ≡ 16 → r.now ≡ [] → Answered a s t 16 r
  unfolding last_number
  second-broken h w = refused a s t 16 r (refused-at 1 _ (z, tt) (rw (broken-second, eq-eqb _ _ h) (or-true (is_broken (records_of s.now))))) (λ n. omega arith) w

  module _ (g : p.number ≡ 16 → ⊥) (h : q.number ≡ 16 → ⊥) where
    whole-both : (is_broken (records_of s.now) || is_broken (records_of t.now)) ≡ false
    whole-both = rw (broken-first, broken-second, ne_eqb _ _ g, ne_eqb _ _ h)

    pub in-first : p.number ≡ 0
        → r.now ≡ take (p.start + p.len - p.start) (drop p.start s.now) → r.ref_ptr ≡ (s.ref_ptr.0, p.start + s.ref_ptr.1) → Answered a s t 0 r
    unfolding last_number dump_of
    in-first y o l =
        handed a s t s r p
        (refused_none _ (z, (whole-both, (rw (holds-first, eq-eqb _ _ y), tt))))
        (rw (holds-first, eq-eqb _ _ y))
        ep y o l

    module _ (y : p.number ≡ 0 → ⊥) where
      pub in-second : q.number ≡ 0
          → r.now ≡ take (q.start + q.len - q.start) (drop q.start t.now) → r.ref_ptr ≡ (t.ref_ptr.0, q.start + t.ref_ptr.1) → Answered a s t 0 r
      unfolding last_number dump_of
      in-second x o l =
          handed a s t t r q
          (refused_none _ (z, (whole-both, (rw (holds-first, holds-second, ne_eqb _ _ y, eq-eqb _ _ x), tt))))
          (rw (holds-first, ne_eqb _ _ y))
          eq x o l

      pub in-neither : (q.number ≡ 0 → ⊥) → r.now ≡ [] → Answered a s t 9 r
      unfolding last_number
      in-neither x w =
          refused a s t 9 r (refused-at 2 _ (z, (whole-both, tt)) (rw (holds-first, holds-second, ne_eqb _ _ y, ne_eqb _ _ x))) (λ n. omega arith) w

-- the number of a refusal, by itself
module _ (a s t : List ℕ) where
  pub zero_number : is_zero a ≡ true → last_number a s t ≡ 6
  unfolding last_number
  zero_number z = sym (refused-at 0 _ tt z)

  module _ (z : is_zero a ≡ false) where
    pub first_number : (last_in a s).number ≡ 16 → last_number a s t ≡ 16
    unfolding last_number
    first_number h = sym (refused-at 1 _ (z, tt) (rw (broken-number a s, eq-eqb _ _ h)))

    pub second_number : (last_in a t).number ≡ 16 → last_number a s t ≡ 16
    unfolding last_number
    second_number h = sym (refused-at 1 _ (z, tt) (rw (broken-number a t, eq-eqb _ _ h) (or-true (is_broken (records_of s)))))

    pub neither_number : ((last_in a s).number ≡ 16 → ⊥) → ((last_in a t).number ≡ 16 → ⊥) → ((last_in a s).number ≡ 0 → ⊥) → ((last_in a t).number ≡ 0 → ⊥) → last_number a s t ≡ 9
    unfolding last_number holds
    neither_number g h y x =
        sym (refused-at 2 _ (z, (rw (broken-number a s, broken-number a t, ne_eqb _ _ g, ne_eqb _ _ h), tt)) (rw (ne_eqb _ _ y, ne_eqb _ _ x)))

-- what the refusals of `last_announcement` go by
pub ruleset refusal_numbers = (zero_number, first_number, second_number, neither_number, place-fits)
