-- Which records count for an address: the originator in the payload of an announcement, and what a record is to the search. Assumes nothing.
use Prim.Native.Nat.{ℕ, suc, ◌+◌, ◌≤◌}
use native.Mathlib.Omega.{arith}
use mathlib.Core.Path.{◌≡◌, ap, ◌∙◌, sym}
use mathlib.Core.Bool.{Bool, true, false, and-false, and-true}
use mathlib.Core.List.{List, [], ◌∷◌}
use lib.ListN.{length, get_or, take}
use lib.Seq.{length-take-le, get_or-take}
use lib.Dec.{eqb}
use borrow.Author.Tests.{eq-eqb, ne_eqb}
use Rattle.std.specs.Prelude.{Result, Ok, Err, is_ok}
use Rattle.octets.specs.Octets.{number_of, word_at, same_numbers}
use Rattle.octets.proofs.Laws.{take-elements}
use Rattle.refusals.specs.Numbers.{refusal_number}
use Rattle.refusals.specs.declared.RefusalAt.{RefusalAt}
use Rattle.address.specs.Address.{address_row}
use Rattle.address.specs.declared.Address.{Address}
use Rattle.route.specs.Route.{total_of, ipv4_in, ipv6_in, route_address, route_number, route_checked, told_check}
use Rattle.route.proofs.Laws.{told-originator, told-refused, total-least, originator-six, originator-four}
use Rattle.judgement.specs.Judgement.{judged_of, is_bad}
use Rattle.judgement.specs.declared.Judged.{Judged}
use Rattle.judgement.specs.declared.Judged.TheVariants.{Announcement, Bad}
use Rattle.dumps.specs.Dumps.{route_in, announces, counts}
use Rattle.dumps.specs.Reads.{record_read}
use Rattle.dumps.specs.declared.Read.TheVariants.{Broken, Passed, Counted}

-- ---- the originator that an announcement names, word by word

-- a word of the route octets is a word of the payload
word_in : (p : List ℕ) (n i : ℕ) → i + 4 ≤ n → n ≤ length p → word_at i (take n p) ≡ word_at i p
word_in p n i h l =
    let m : length (take n p) ≡ n = length-take-le n p l in
    ap number_of (take-elements 4 i (take n p) (omega arith)
    ∙ rw (get_or-take n p i 0 (omega arith), get_or-take n p (suc i) 0 (omega arith), get_or-take n p (suc (suc i)) 0 (omega arith), get_or-take n p (suc (suc (suc i))) 0 (omega arith))
    (sym (take-elements 4 i p (omega arith))))

module _ (p : List ℕ) (h : total_of (get_or p 20 0) ≤ length p) where
  pub total-25 : 25 ≤ length p
  total-25 = omega (arith, h, total-least (get_or p 20 0))

  pub named-ipv4 : (get_or p 20 0 ≡ 128 → ⊥) → route_address (route_in p) ≡ 4 ∷ word_at 21 p ∷ 0 ∷ 0 ∷ 0 ∷ []
  unfolding total_of route_address address_row ipv4_in
  named-ipv4 n =
      let b : get_or (take 25 p) 20 0 ≡ 128 → ⊥ = λ z. n (sym (get_or-take 25 p 20 0 (omega arith)) ∙ z) in
      rw (ne_eqb (get_or p 20 0) 128 n) (sym (ap address_row (originator-four (take 25 p) b)) ∙ rw (word_in p 25 21 (omega arith) total-25))

  module _ (e : get_or p 20 0 ≡ 128) where
    pub total-37 : 37 ≤ length p
    unfolding total_of
    total-37 = rw (eq-eqb (get_or p 20 0) 128 e) at h

    pub named-ipv6 : route_address (route_in p) ≡ 6 ∷ word_at 21 p ∷ word_at 25 p ∷ word_at 29 p ∷ word_at 33 p ∷ []
    unfolding total_of route_address address_row ipv6_in
    named-ipv6 =
        let b : get_or (take 37 p) 20 0 ≡ 128 = get_or-take 37 p 20 0 (omega arith) ∙ e in
        let l = total-37 in
        rw (eq-eqb (get_or p 20 0) 128 e)
        (sym (ap address_row (originator-six (take 37 p) b)) ∙ rw (word_in p 37 21 (omega arith) l, word_in p 37 25 (omega arith) l, word_in p 37 29 (omega arith) l, word_in p 37 33 (omega arith) l))

-- ---- whether a payload announces the address a, with x the originator that it names

module _ (a p x : List ℕ) (e : x ≡ route_address (route_in p)) where
  pub of-another : same_numbers x a ≡ false → false ≡ announces a p
  unfolding announces
  of-another n = rw (← e, n) (sym (and-false (eqb (route_number (route_in p)) 0)))

  pub of-this : (n : ℕ) → same_numbers x a ≡ true → n ≡ route_number (route_in p) → eqb n 0 ≡ announces a p
  unfolding announces
  of-this n m q = rw (← e, m, q) (sym (and-true (eqb (route_number (route_in p)) 0)))

  -- by what the check answers
  pub of-checked : (k : Result Address RefusalAt) → same_numbers x a ≡ true → told_check k ≡ route_checked (route_in p) → is_ok k ≡ announces a p
  of-checked (Ok b) m q = of-this 0 m (sym (told-originator (route_in p) b (sym q)).0)
  of-checked (Err r) m q =
      let n = refusal_number r.refusal in
      let t = told-refused (route_in p) n r.offset (sym q) in
      sym (ne_eqb n 0 (λ z. t.0 (sym t.1.0 ∙ z))) ∙ of-this n m t.1.0

-- what the code of the comparison goes by
pub ruleset compared = (total-25, of-another, of-checked)

-- ---- what a record is to the search

module _ (a : List ℕ) (f : Bool) (k : ℕ) (p : List ℕ) (n : ℕ) where
  pub read-bad : judged_of f k p ≡ Bad → Broken ≡ record_read a f k p n
  unfolding record_read is_bad
  read-bad e = rw e

  pub read-other : (j : Judged) → judged_of f k p ≡ j → is_bad j ≡ false → eqb k 1 ≡ false → Passed n ≡ record_read a f k p n
  unfolding record_read counts
  read-other j e g h = rw (e, g, h)

  module _ (e : judged_of f k p ≡ Announcement) (h : eqb k 1 ≡ true) where
    pub read-counted : announces a p ≡ true → Counted n ≡ record_read a f k p n
    unfolding record_read counts is_bad
    read-counted t = rw (e, h, t)

    pub read-passed : announces a p ≡ false → Passed n ≡ record_read a f k p n
    unfolding record_read counts is_bad
    read-passed t = rw (e, h, t)
