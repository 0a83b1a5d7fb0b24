-- Laws of runs: the first run of a list of numbers, and the lowest run of a set: where it ends, and what is left without it.
-- Assumes nothing.
use Prim.Native.Nat.{ℕ, zero, suc, ◌+◌, ◌-◌, ◌*◌, ◌^◌, ◌≤◌, ◌<◌}
use native.Mathlib.Nat.{le_of_suc-le-suc, not-suc-le-zero, zero-add, add-zero, zero-lt-suc}
use native.Mathlib.Omega.{arith}
use mathlib.Core.Path.{◌≡◌, refl, ap, sym, ◌∙◌}
use mathlib.Core.Bool.{Bool, true, false}
use mathlib.Core.List.{List, [], ◌∷◌, ◌++◌}
use lib.ListN.{get_or, drop}
use lib.Seq.{get_or-drop}
use lib.Dec.{eqb}
use lib.Arith.{lt-one}
use lib.Bits.{bit_and, bit_or, bit_xor, and_le_l, and_comm, and_mask}
use lib.Count.{count_trailing_zeros, trailing_of_zero}
use borrow.Author.Tests.{eq-eqb, ne_eqb, eqb-true, eqb-false}
use Rattle.places.specs.Places.{places_from, places, consecutive, lowest_run, stretch}
use Rattle.places.proofs.Bits.{over, by_bits, from-even, from-odd, from-none, fill-even, fill-odd, clear-even, clear-odd, ones-end, ones-more}
use Rattle.places.proofs.Laws.{Rises, from-rises, places-none}

-- ---- the first run of a list

run_none : (i : ℕ) → consecutive i [] ≡ 0
unfolding consecutive
run_none i = refl

run-here : (i : ℕ) (l : List ℕ) → consecutive i (i ∷ l) ≡ suc (consecutive (suc i) l)
unfolding consecutive
run-here i l = rw (eq-eqb i i refl)

run-other : (i x : ℕ) (l : List ℕ) → (x ≡ i → ⊥) → consecutive i (x ∷ l) ≡ 0
unfolding consecutive
run-other i x l n = rw (ne_eqb x i n)

-- numbers that are above i are no run from i on
run-above : (i b : ℕ) (l : List ℕ) → Rises (suc i) b l → consecutive i l ≡ 0
run-above i b [] r = run_none i
run-above i b (x ∷ l) r = run-other i x l (λ e. omega (arith, r.0))

-- a list by its first run: none where it starts with another number than i, else i and the run from the next number on
module _ (P : ℕ → List ℕ → ℕ → Type 0) (none : (i : ℕ) → P i [] 0) (other : (i x : ℕ) (l : List ℕ) → P i (x ∷ l) 0)
    (here : (i : ℕ) (l : List ℕ) (n : ℕ) → P (suc i) l n → P i (i ∷ l) (suc n)) where
  by-run : (i : ℕ) (l : List ℕ) → P i l (consecutive i l)
  by-run i [] = rw (run_none i) (none i)
  by-run i (x ∷ l) = go (eqb x i) refl (by-run (suc i) l)
    where
      go : (b : Bool) → eqb x i ≡ b → P (suc i) l (consecutive (suc i) l) → P i (x ∷ l) (consecutive i (x ∷ l))
      go true e p = let h = eqb-true x i e in rw (h, run-here i l) (here i l (consecutive (suc i) l) p)
      go false e p = rw (run-other i x l (eqb-false x i e)) (other i x l)

-- a number of the first run
at_here : (i : ℕ) (l : List ℕ) (n : ℕ) → ((k d : ℕ) → k < n → get_or l k d ≡ suc i + k) → (k d : ℕ) → k < suc n → get_or (i ∷ l) k d ≡ i + k
at_here i l n p zero d h = sym (add-zero i)
at_here i l n p (suc k) d h = p k d (le_of_suc-le-suc h) ∙ sym (over i k)

at_from : (i : ℕ) (l : List ℕ) (k d : ℕ) → k < consecutive i l → get_or l k d ≡ i + k
at_from =
    by-run (λ i l n. (k d : ℕ) → k < n → get_or l k d ≡ i + k)
    (λ i k d h. absurd (not-suc-le-zero h))
    (λ i x l k d h. absurd (not-suc-le-zero h))
    at_here

-- the k-th number, by where the first run starts and where it ends: in the run, and past it
module _ (l : List ℕ) (f e : ℕ) (p : f ≡ get_or l 0 64) (q : e ≡ get_or l 0 64 + lowest_run l) where
  pub run_at : (k : ℕ) → f + k < e → f + k ≡ get_or l k 64
  run_at k h = rw p (sym (at_from (get_or l 0 64) l k 64 (omega (arith, p, q))))

  pub run_past : (m : List ℕ) (k : ℕ) → m ≡ drop (lowest_run l) l → e ≤ f + k → get_or m (f + k - e) 64 ≡ get_or l k 64
  run_past m k t h =
      let n : lowest_run l + (f + k - e) ≡ k = omega (arith, p, q) in
      ap (λ (m : List ℕ). get_or m (f + k - e) 64) t ∙ get_or-drop (lowest_run l) l (f + k - e) 64 ∙ ap (λ (j : ℕ). get_or l j 64) n

-- a list is its first run, and what is left without it
split_from : (i : ℕ) (l : List ℕ) → l ≡ stretch i (consecutive i l) ++ drop (consecutive i l) l
unfolding stretch
split_from =
    by-run (λ i l n. l ≡ stretch i n ++ drop n l)
    (λ i. refl)
    (λ i x l. refl)
    (λ i l n p. ap (i ∷◌) p)

pub run-splits : (l : List ℕ) (f e : ℕ) {m : List ℕ} → f ≡ get_or l 0 64 → e ≡ get_or l 0 64 + lowest_run l → m ≡ drop (lowest_run l) l → l ≡ stretch f (e - f) ++ m
run-splits l f e p q t =
    let n : e - f ≡ lowest_run l = omega (arith, p, q) in
    rw (n, p, t) (split_from (get_or l 0 64) l)

-- where every number of a list is below b, its first run ends there or before
stretch-under : (a b i n : ℕ) (m : List ℕ) → i ≤ b → Rises a b (stretch i n ++ m) → i + n ≤ b
unfolding stretch
stretch-under a b i zero m h r = omega arith
stretch-under a b i (suc n) m h r = omega (arith, stretch-under (suc i) b (suc i) n m r.1 r.2)

pub run-under : (b : ℕ) (l : List ℕ) (f e : ℕ) → f ≡ get_or l 0 64 → e ≡ get_or l 0 64 + lowest_run l → f ≤ b → Rises 0 b l → e ≤ b
run-under b l f e p q h r =
    let n : f + (e - f) ≡ e = omega (arith, p, q) in
    rw (← n) (stretch-under 0 b f (e - f) (drop (lowest_run l) l) h (rw (← run-splits l f e p q refl) r))

-- a stretch that ends before e, walked from its first number on
pub stretch-on : (i e : ℕ) → i < e → stretch i (e - i) ≡ i ∷ stretch (i + 1) (e - (i + 1))
unfolding stretch
stretch-on i e h =
    let n : e - i ≡ suc (e - (i + 1)) = omega arith in
    let m : suc i ≡ i + 1 = omega arith in
    ap (stretch i) n ∙ ap (λ (j : ℕ). i ∷ stretch j (e - (i + 1))) m

pub stretch-over : (i e : ℕ) → e ≤ i → stretch i (e - i) ≡ []
unfolding stretch
stretch-over i e h = let n : e - i ≡ 0 = omega arith in ap (stretch i) n

-- ---- the lowest run of a set

-- the trailing ones of s are the run of its places from the lowest bit on
ones-from : (n i s : ℕ) → count_trailing_zeros n (bit_xor s (2 ^ n - 1)) ≡ consecutive i (places_from n i s)
unfolding count_trailing_zeros
ones-from =
    by_bits (λ n i s. count_trailing_zeros n (bit_xor s (2 ^ n - 1)) ≡ consecutive i (places_from n i s))
    (λ i s. rw (from-none i s, run_none i))
    (λ n i q ih. rw (from-even n i q, ones-end n q) (sym (run-above i (suc i + n) (places_from n (suc i) q) (from-rises n (suc i) q))))
    (λ n i q ih. rw (from-odd n i q, ones-more n q, run-here i (places_from n (suc i) q)) (ap suc ih))

end-from : (n i s : ℕ) → s < 2 ^ n → (s ≡ 0 → ⊥)
    → i + count_trailing_zeros n (bit_xor (bit_or s (s - 1)) (2 ^ n - 1)) ≡ get_or (places_from n i s) 0 64 + lowest_run (places_from n i s)
end-from =
    by_bits (λ n i s. s < 2 ^ n → (s ≡ 0 → ⊥) → i + count_trailing_zeros n (bit_xor (bit_or s (s - 1)) (2 ^ n - 1)) ≡ get_or (places_from n i s) 0 64 + lowest_run (places_from n i s))
    (λ i s h z. absurd (z (lt-one h)))
    (λ n i q ih h z.
    let y : q ≡ 0 → ⊥ = λ e. z (rw e) in
    rw (from-even n i q, fill-even q y, ones-more n (bit_or q (q - 1))) (over i (count_trailing_zeros n (bit_xor (bit_or q (q - 1)) (2 ^ n - 1))) ∙ ih (omega arith) y))
    (λ n i q ih h z. rw (fill-odd q, from-odd n i q) (ap (i +◌) (ones-from (suc n) i (2 * q + 1) ∙ ap (consecutive i) (from-odd n i q))))

-- s without its trailing ones, and without its lowest run
clear-from : (n i s : ℕ) → places_from n i (bit_and s (s + 1)) ≡ drop (consecutive i (places_from n i s)) (places_from n i s)
clear-from =
    by_bits (λ n i s. places_from n i (bit_and s (s + 1)) ≡ drop (consecutive i (places_from n i s)) (places_from n i s))
    (λ i s. rw (from-none i s, from-none i (bit_and s (s + 1)), run_none i))
    (λ n i q ih. rw (clear-even q, from-even n i q, run-above i (suc i + n) (places_from n (suc i) q) (from-rises n (suc i) q)))
    (λ n i q ih. rw (clear-odd q, from-odd n i q, from-even n i (bit_and q (q + 1)), run-here i (places_from n (suc i) q)) ih)

after-from : (n i s : ℕ) → s < 2 ^ n → (s ≡ 0 → ⊥)
    → places_from n i (bit_and (bit_or s (s - 1)) (bit_or s (s - 1) + 1)) ≡ drop (lowest_run (places_from n i s)) (places_from n i s)
after-from =
    by_bits (λ n i s. s < 2 ^ n → (s ≡ 0 → ⊥) → places_from n i (bit_and (bit_or s (s - 1)) (bit_or s (s - 1) + 1)) ≡ drop (lowest_run (places_from n i s)) (places_from n i s))
    (λ i s h z. absurd (z (lt-one h)))
    (λ n i q ih h z.
    let y : q ≡ 0 → ⊥ = λ e. z (rw e) in
    let m = bit_or q (q - 1) in
    rw (fill-even q y, clear-odd m, from-even n i (bit_and m (m + 1)), from-even n i q) (ih (omega arith) y))
    (λ n i q ih h z. rw (fill-odd q) (clear-from (suc n) i (2 * q + 1) ∙ rw (from-odd n i q)))

less-from : (n i s : ℕ) → s < 2 ^ n → (s ≡ 0 → ⊥) → bit_and (bit_or s (s - 1)) (bit_or s (s - 1) + 1) < s
less-from =
    by_bits (λ n i s. s < 2 ^ n → (s ≡ 0 → ⊥) → bit_and (bit_or s (s - 1)) (bit_or s (s - 1) + 1) < s)
    (λ i s h z. absurd (z (lt-one h)))
    (λ n i q ih h z.
    let y : q ≡ 0 → ⊥ = λ e. z (rw e) in
    rw (fill-even q y, clear-odd (bit_or q (q - 1))) (omega (arith, ih (omega arith) y)))
    (λ n i q ih h z. rw (fill-odd q, clear-odd q) (omega (arith, and_le_l q (q + 1))))

-- the empty set
end_none : count_trailing_zeros 64 (bit_xor 18446744073709551615 18446744073709551615) ≡ get_or (places 0) 0 64 + lowest_run (places 0)
end_none = rw (places-none, run_none 64) (trailing_of_zero 64)

after_none : places 0 ≡ drop (lowest_run (places 0)) (places 0)
after_none = rw (places-none, run_none 64)

module _ (s : ℕ) (h : s < 2 ^ 64) (z : s ≡ 0 → ⊥) where
  end-some : count_trailing_zeros 64 (bit_xor (bit_or s (s - 1)) 18446744073709551615) ≡ get_or (places s) 0 64 + lowest_run (places s)
  unfolding places
  end-some = sym (zero-add _) ∙ end-from 64 0 s h z

  after-some : places (bit_and (bit_or s (s - 1)) (bit_or s (s - 1) + 1)) ≡ drop (lowest_run (places s)) (places s)
  unfolding places
  after-some = after-from 64 0 s h z

  after_less : bit_and (bit_or s (s - 1)) (bit_or s (s - 1) + 1) < s
  after_less = less-from 64 0 s h z

  -- a set that reaches up to the last place in one run
  after_last : bit_or s (s - 1) ≡ 18446744073709551615 → places 0 ≡ drop (lowest_run (places s)) (places s)
  after_last e =
      let c : bit_and (bit_or s (s - 1)) (bit_or s (s - 1) + 1) ≡ 0 = ap (λ (t : ℕ). bit_and t (t + 1)) e ∙ and_comm 18446744073709551615 (2 ^ 64) ∙ and_mask (2 ^ 64) 64 in
      ap places (sym c) ∙ after-some

-- the set that is filled, as `filled` says what it gives
abbrev pub Filled : ℕ → ℕ → Type 0
Filled s t = (s ≡ 0 → t ≡ 18446744073709551615) × ((s ≡ 0 → ⊥) → t ≡ bit_or s (s - 1))

above-none : (n : ℕ) → suc n ≡ 0 → ⊥
above-none n e = omega arith

pub run_ends : (s t : ℕ) → s < 2 ^ 64 → Filled s t → count_trailing_zeros 64 (bit_xor t 18446744073709551615) ≡ get_or (places s) 0 64 + lowest_run (places s)
run_ends zero t h f = rw (f.0 refl) end_none
run_ends (suc n) t h f = rw (f.1 (above-none n)) (end-some (suc n) h (above-none n))

-- what is left where the lowest run ends the set, and where it does not
pub left-none : (s t : ℕ) → s < 2 ^ 64 → Filled s t → t ≡ 18446744073709551615 → (places 0 ≡ drop (lowest_run (places s)) (places s)) × ((s ≡ 0 → ⊥) → 0 < s)
left-none zero t h f e = (after_none, λ z. absurd (z refl))
left-none (suc n) t h f e = (after_last (suc n) h (above-none n) (sym (f.1 (above-none n)) ∙ e), λ z. zero-lt-suc n)

pub left-some : (s t : ℕ) → s < 2 ^ 64 → Filled s t → (t ≡ 18446744073709551615 → ⊥) → (places (bit_and t (t + 1)) ≡ drop (lowest_run (places s)) (places s)) × ((s ≡ 0 → ⊥) → bit_and t (t + 1) < s)
left-some zero t h f n = absurd (n (f.0 refl))
left-some (suc m) t h f n = let e = f.1 (above-none m) in (rw e (after-some (suc m) h (above-none m)), λ z. rw e (after_less (suc m) h (above-none m)))
