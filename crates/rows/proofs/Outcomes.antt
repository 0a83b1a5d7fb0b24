-- One look at a row between two places where the key stands: what each outcome leaves, of the places and of the looks. Assumes nothing.
use Prim.Native.Nat.{ℕ, suc, ◌+◌, ◌-◌, ◌≤◌, ◌<◌}
use native.Mathlib.Omega.{arith}
use mathlib.Core.Path.{◌≡◌, ap, sym, ◌∙◌}
use mathlib.Core.List.{List, [], map}
use lib.ListN.{length, get_or}
use Rattle.keyed.specs.Keyed.{Rising}
use Rattle.keyed.proofs.Keyed.{rank-le}
use Rattle.rows.specs.Rows.{rows_in, row_key, key_order, found_in, middle, Within, looked, looks_between, looks_for}
use Rattle.std.specs.declared.cmp.Ordering.{Ordering}
use Rattle.std.specs.declared.cmp.Ordering.TheVariants.{Less, Equal, Greater}
use Rattle.std.specs.Prelude.{Ok, Err}
use Rattle.rows.proofs.Compared.{is-less, is-more, is_same}
use Rattle.rows.proofs.Looks.{looked-none, between-at, for-at, left-right, left-left, left-none}
use Rattle.rows.proofs.Rows.{row_at, rows-length, rows_at, key-at, keys_length}
use Rattle.rows.proofs.Places.{look-less, look-more, look-here, look_none}

module _ (k n m : ℕ) (s : List ℕ) where
  abbrev l : List (List ℕ)
  l = rows_in k n s

  abbrev ks : List ℕ
  ks = map row_key l

  -- the key stands between the first place and the end
  pub within_all : Within m l 0 n
  within_all = let e = rows-length k n s in (omega arith, omega (arith, rank-le row_key m l, e), omega (arith, e), λ h. absurd (omega (arith, e, h)))

  -- WHAT IS LEFT after one of d looks, at the place `at` between lo and hi, by its outcome
  abbrev pub Left : ℕ → ℕ → ℕ → ℕ → Ordering → Type 0
  Left lo at hi d Less = Within m l (at + 1) hi × (d ≡ suc (length (looks_between m ks (at + 1) hi)))
  Left lo at hi d Equal = (Ok at ≡ found_in row_key m l) × (d ≡ 1)
  Left lo at hi d Greater = Within m l lo at × (d ≡ suc (length (looks_between m ks lo at)))

  module _ (rising : Rising row_key 0 l) (lo at hi f : ℕ) (w : Within m l lo hi) (p : lo ≤ at) (q : at < hi) (e : hi - lo ≤ f) where
    used : at < length l
    used = omega (arith, w.2)

    inside : at < n
    inside = omega (arith, used, rows-length k n s)

    row : get_or l at [] ≡ row_at k s at
    row = rows_at k n s at inside

    key : get_or ks at 0 ≡ row_key (row_at k s at)
    key = key-at k n s at inside

    left : (o : Ordering) → o ≡ key_order (row_key (row_at k s at)) m → Left lo at hi (length (looked f m ks lo at hi)) o
    left Less o =
        let below = is-less _ _ (sym o) in
        let r = look-less row_key m l 0 [] rising at used (rw row below) in
        ((omega arith, w.1, w.2, w.3), ap length (left-right m ks f lo at hi p q e (rw key below)))
    left Equal o =
        let same = is_same _ _ (sym o) in
        (look-here row_key m l 0 [] rising at used (ap row_key row ∙ same), ap length (left-none m ks f lo at hi p q e (key ∙ same)))
    left Greater o =
        let above = is-more _ _ (sym o) in
        let r = look-more row_key m l 0 [] rising at used (rw row above) in
        ((w.0, r, omega (arith, used), λ _. rw row above), ap length (left-left m ks f lo at hi p q e (rw key above)))

  -- a first look at the place that is proposed
  pub left-first : Rising row_key 0 l → (at : ℕ) → at < n → (o : Ordering) → o ≡ key_order (row_key (row_at k s at)) m → Left 0 at n (length (looks_for at m ks)) o
  left-first rising at h o told =
      let e = keys_length k n s in
      rw (for-at m ks at (omega (arith, e)), e) (left rising 0 at n n within_all (omega arith) h (omega arith) o told)

  -- THE LOOP, which has made d looks of all: the next is at the place `at` between lo and hi
  abbrev pub Going : ℕ → ℕ → ℕ → ℕ → ℕ → Type 0
  Going all d lo at hi = Within m l lo hi × (d + length (looked (hi - lo) m ks lo at hi) ≡ all) × (lo < hi → (lo ≤ at) × (at < hi))

  next : (all d lo at hi : ℕ) → Within m l lo hi → d + length (looks_between m ks lo hi) ≡ all → at ≡ middle lo hi → Going all d lo at hi
  next all d lo at hi w q e = (w, rw (← between-at m ks lo at hi e) q, λ h. (omega arith, omega arith))

  module _ (rising : Rising row_key 0 l) (all d lo at hi : ℕ) (v : Going all d lo at hi) where
    pub going-none : hi ≤ lo → (Err lo ≡ found_in row_key m l) × (d ≡ all)
    going-none h =
        let w = v.0 in
        let e : lo ≡ hi = omega (arith, w.0, w.1) in
        (look_none row_key m l 0 [] rising lo (omega (arith, w.0, w.1)) (rw e w.3), omega (arith, v.1, ap length (looked-none m ks (hi - lo) lo at hi h)))

    module _ (h : lo < hi) where
      after : (o : Ordering) → o ≡ key_order (row_key (row_at k s at)) m → Left lo at hi (length (looked (hi - lo) m ks lo at hi)) o
      after = left rising lo at hi (hi - lo) v.0 (v.2 h).0 (v.2 h).1 (omega arith)

      pub going-here : Equal ≡ key_order (row_key (row_at k s at)) m → (Ok at ≡ found_in row_key m l) × (d + 1 ≡ all)
      going-here told = let r = after Equal told in (r.0, omega (arith, r.1, v.1))

      pub going-right : Less ≡ key_order (row_key (row_at k s at)) m → (i : ℕ) → i ≡ middle (at + 1) hi → Going all (d + 1) (at + 1) i hi
      going-right told i e = let r = after Less told in next all (d + 1) (at + 1) i hi r.0 (omega (arith, r.1, v.1)) e

      pub going-left : Greater ≡ key_order (row_key (row_at k s at)) m → (i : ℕ) → i ≡ middle lo at → Going all (d + 1) lo i at
      going-left told i e = let r = after Greater told in next all (d + 1) lo i at r.0 (omega (arith, r.1, v.1)) e
