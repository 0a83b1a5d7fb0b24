-- One law for each answer of `frame_at`, by the octets that it reads. Assumes nothing.
use Prim.Native.Nat.{ℕ, ◌+◌, ◌*◌, ◌≤◌, ◌<◌}
use native.Mathlib.Nat.{add-zero, not-suc-le-zero}
use native.Mathlib.Omega.{arith}
use mathlib.Core.Path.{◌≡◌, refl, ap, ◌∙◌, sym}
use mathlib.Core.Bool.{Bool, true, false, cond}
use mathlib.Core.List.{List, [], ◌∷◌}
use lib.ListN.{length, get_or, take, drop, length-drop, drop_of_length-le}
use lib.Seq.{length-take-le, get_or-drop}
use lib.Dec.{leb, eqb}
use borrow.Author.Tests.{eq-eqb, ne_eqb, eqb-true, eqb-false, le-leb, lt-leb}
use Rattle.frames.specs.declared.Frame.TheVariants.{Nothing, Bad, Cut, Whole}
use Rattle.frames.specs.Frames.{bad, cut, whole, front, located, frame_at}
use Rattle.frames.proofs.Laws.{no-first, no_second}

-- ---- fronts

front-first : (l : List ℕ) → 0 < length l → (get_or l 0 0 ≡ 0xD5 → ⊥) → front l ≡ bad
front-first [] h n = absurd (not-suc-le-zero h)
front-first (a ∷ l) h n = no-first a l (ne_eqb a 0xD5 n)

front-second : (l : List ℕ) → 1 < length l → (get_or l 1 0 ≡ 0x4F → ⊥) → front l ≡ bad
front-second [] h n = absurd (not-suc-le-zero h)
front-second (a ∷ []) h n = absurd (omega arith)
front-second (a ∷ b ∷ l) h n = no_second a b l (ne_eqb b 0x4F n)

front-begun : (l : List ℕ) → 0 < length l → length l < 4 → get_or l 0 0 ≡ 0xD5 → (1 < length l → get_or l 1 0 ≡ 0x4F) → front l ≡ cut
unfolding front
front-begun [] h k e f = absurd (not-suc-le-zero h)
front-begun (a ∷ []) h k e f = rw (eq-eqb a 0xD5 e)
front-begun (a ∷ b ∷ []) h k e f = rw (eq-eqb a 0xD5 e, eq-eqb b 0x4F (f (omega arith)))
front-begun (a ∷ b ∷ i ∷ []) h k e f = rw (eq-eqb a 0xD5 e, eq-eqb b 0x4F (f (omega arith)))
front-begun (a ∷ b ∷ i ∷ n ∷ l) h k e f = absurd (omega arith)

-- the first four octets
four : (l : List ℕ) → 4 ≤ length l → l ≡ get_or l 0 0 ∷ get_or l 1 0 ∷ get_or l 2 0 ∷ get_or l 3 0 ∷ drop 4 l
four [] h = absurd (not-suc-le-zero h)
four (a ∷ []) h = absurd (omega arith)
four (a ∷ b ∷ []) h = absurd (omega arith)
four (a ∷ b ∷ k ∷ []) h = absurd (omega arith)
four (a ∷ b ∷ k ∷ n ∷ l) h = refl

front-headed : (l : List ℕ) → 4 ≤ length l → get_or l 0 0 ≡ 0xD5 → get_or l 1 0 ≡ 0x4F
    → front l ≡ cond (leb (get_or l 3 0) (length (drop 4 l))) (whole (get_or l 2 0) (take (get_or l 3 0) (drop 4 l)) (drop (get_or l 3 0) (drop 4 l))) cut
unfolding front
front-headed l h e f = ap front (four l h) ∙ rw (eq-eqb (get_or l 0 0) 0xD5 e, eq-eqb (get_or l 1 0) 0x4F f)

-- ---- answers

module _ (s : List ℕ) (at : ℕ) where
  octet : (i : ℕ) → get_or (drop at s) i 0 ≡ get_or s (at + i) 0
  octet i = get_or-drop at s i 0

  pub frame-none : length s ≤ at → frame_at s at ≡ Nothing
  unfolding frame_at located front
  frame-none h = rw (drop_of_length-le s h)

  pub frame-first : at < length s → (get_or s at 0 ≡ 0xD5 → ⊥) → frame_at s at ≡ Bad
  unfolding frame_at located
  frame-first h n = rw (front-first (drop at s) (simp length-drop (omega arith)) (λ e. n (sym (octet 0 ∙ rw add-zero) ∙ e)))

  pub frame-second : at + 1 < length s → (get_or s (at + 1) 0 ≡ 0x4F → ⊥) → frame_at s at ≡ Bad
  unfolding frame_at located
  frame-second h n = rw (front-second (drop at s) (simp length-drop (omega arith)) (λ e. n (sym (octet 1) ∙ e)))

  -- a mark that is another number
  pub frame-mark : at + 1 < length s → (get_or s (at + 1) 0 * 256 + get_or s at 0 ≡ 0x4FD5 → ⊥) → frame_at s at ≡ Bad
  frame-mark h n = go (eqb (get_or s at 0) 0xD5) refl
    where
      go : (t : Bool) → eqb (get_or s at 0) 0xD5 ≡ t → frame_at s at ≡ Bad
      go true e = frame-second h (λ f. n (omega (arith, eqb-true (get_or s at 0) 0xD5 e, f)))
      go false e = frame-first (omega arith) (eqb-false (get_or s at 0) 0xD5 e)

  pub frame-begun : at < length s → length s < at + 4 → get_or s at 0 ≡ 0xD5 → (at + 1 < length s → get_or s (at + 1) 0 ≡ 0x4F) → frame_at s at ≡ Cut
  unfolding frame_at located
  frame-begun h k e f =
      rw (front-begun (drop at s) (simp length-drop (omega arith)) (simp length-drop (omega arith)) (octet 0 ∙ rw add-zero e) (λ l. octet 1 ∙ f (let l' = simp length-drop at l in omega arith)))

  module _ (h : at + 4 ≤ length s) (e : get_or s at 0 ≡ 0xD5) (f : get_or s (at + 1) 0 ≡ 0x4F) where
    headed : front (drop at s) ≡ cond (leb (get_or s (at + 3) 0) (length (drop 4 (drop at s)))) (whole (get_or s (at + 2) 0) (take (get_or s (at + 3) 0) (drop 4 (drop at s))) (drop (get_or s (at + 3) 0) (drop 4 (drop at s)))) cut
    headed = rw (← octet 2, ← octet 3) (front-headed (drop at s) (simp length-drop (omega arith)) (octet 0 ∙ rw add-zero e) (octet 1 ∙ f))

    pub frame-short : (len : ℕ) → len ≡ get_or s (at + 3) 0 → length s < at + 4 + len → frame_at s at ≡ Cut
    unfolding frame_at located
    frame-short len q n = rw (headed, lt-leb (get_or s (at + 3) 0) (length (drop 4 (drop at s))) (simp length-drop (omega arith)))

    pub frame-whole : (len : ℕ) → len ≡ get_or s (at + 3) 0 → at + 4 + len ≤ length s → frame_at s at ≡ Whole (get_or s (at + 2) 0) (at + 4) len
    unfolding frame_at located
    frame-whole len q n =
        let l : get_or s (at + 3) 0 ≤ length (drop 4 (drop at s)) = simp length-drop (omega arith) in
        rw (q, headed, le-leb (get_or s (at + 3) 0) (length (drop 4 (drop at s))) l, length-take-le (get_or s (at + 3) 0) (drop 4 (drop at s)) l)
