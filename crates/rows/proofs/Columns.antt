-- Columns: rows that lie one after the other, then zeros; what an insertion, a removal and a store make of a column, over any width and capacity. Assumes nothing.
use Prim.Native.Nat.{ℕ, zero, suc, ◌+◌, ◌-◌, ◌*◌, ◌≤◌, ◌<◌}
use native.Mathlib.Nat.{suc-mul, zero-mul}
use native.Mathlib.Omega.{arith}
use mathlib.Core.Path.{◌≡◌, refl, ap, sym, ◌∙◌}
use mathlib.Core.List.{List, [], ◌∷◌, ◌++◌, append_assoc}
use lib.ListN.{length, get_or, set, take, drop, replicate, length-append, length-drop, length-replicate, length-set, replicate-append-replicate, take-append-drop}
use lib.Seq.{length-take-le, take_at, drop_at, drop-cons}
use Rattle.lists.specs.Lists.{Every}
use Rattle.lists.proofs.Lists.{every_take, every_drop, every_in}
use Rattle.keyed.specs.Keyed.{spliced, without_at}
use Rattle.keyed.proofs.Keyed as keyed
use Rattle.rows.specs.Rows.{rows_in, flat, column, inserted, removed}
use Rattle.rows.proofs.Rows.{words-split}

-- every row has k words
abbrev pub Wide : ℕ → List (List ℕ) → Type 0
Wide k l = Every (λ (r : List ℕ). length r ≡ k) l

pub flat_append : (a b : List (List ℕ)) → flat (a ++ b) ≡ flat a ++ flat b
unfolding flat
flat_append [] b = refl
flat_append (r ∷ a) b = ap (r ++◌) (flat_append a b) ∙ sym (append_assoc r (flat a) (flat b))

flat-cons : (r : List ℕ) (l : List (List ℕ)) → flat (r ∷ l) ≡ r ++ flat l
unfolding flat
flat-cons r l = refl

pub length-flat : (k : ℕ) (l : List (List ℕ)) → Wide k l → length (flat l) ≡ length l * k
unfolding flat Every
length-flat k [] h = sym (zero-mul k)
length-flat k (r ∷ l) h = length-append r (flat l) ∙ omega (arith, h.0, length-flat k l h.1, suc-mul (length l) k)

-- the rows of a run that starts with them
pub rows-flat : (k : ℕ) (l : List (List ℕ)) (x : List ℕ) → Wide k l → rows_in k (length l) (flat l ++ x) ≡ l
unfolding flat rows_in Every
rows-flat k [] x h = refl
rows-flat k (r ∷ l) x h =
    rw (append_assoc r (flat l) x, take_at r (flat l ++ x) k h.0, drop_at r (flat l ++ x) k h.0, rows-flat k l x h.1)

flat-set : (l : List (List ℕ)) (at w : ℕ) (y : List ℕ) → Wide 1 l → at < length l → set (flat l ++ y) at w ≡ flat (set l at (w ∷ [])) ++ y
unfolding flat Every
flat-set [] at w y h n = absurd (omega arith)
flat-set ([] ∷ l) at w y h n = absurd (omega (arith, h.0))
flat-set ((v ∷ []) ∷ l) zero w y h n = refl
flat-set ((v ∷ []) ∷ l) (suc at) w y h n = ap (v ∷◌) (flat-set l at w y h.1 (omega arith))
flat-set ((v ∷ u ∷ r) ∷ l) at w y h n = absurd (omega (arith, h.0))

zeros-split : (k m : ℕ) → ◌≡◌ {A = List ℕ} (replicate (suc m * k) 0) (replicate k 0 ++ replicate (m * k) 0)
zeros-split k m =
    let e : suc m * k ≡ k + m * k = omega (arith, suc-mul m k) in
    ap (λ (i : ℕ). replicate i 0) e ∙ sym (replicate-append-replicate k (m * k) 0)

pub length-column : (k c : ℕ) (l : List (List ℕ)) → Wide k l → length l ≤ c → length (column k c l) ≡ c * k
unfolding column
length-column k c l h n =
    length-append (flat l) (replicate ((c - length l) * k) 0)
    ∙ omega (arith, length-flat k l h, length-replicate {A = ℕ} ((c - length l) * k) 0, words-split c (length l) k n)

pub rows-column : (k c : ℕ) (l : List (List ℕ)) (x : List ℕ) → Wide k l → rows_in k (length l) (column k c l ++ x) ≡ l
unfolding column
rows-column k c l x h = rw (append_assoc (flat l) (replicate ((c - length l) * k) 0) x) (rows-flat k l (replicate ((c - length l) * k) 0 ++ x) h)

-- PARTS: what an insertion and a removal make of the rows before and after their place
module _ (k n at : ℕ) (a b r : List ℕ) (la : length a ≡ at * k) where
  inserted-parts : (key z : List ℕ) → length key ≡ k → length z ≡ k → at ≤ n → length b ≡ (n - at) * k
      → inserted n at key (a ++ (b ++ (z ++ r))) ≡ a ++ (key ++ (b ++ r))
  unfolding inserted
  inserted-parts key z lk lz h lb =
      let d : drop (at * k) (a ++ (b ++ (z ++ r))) ≡ b ++ (z ++ r) = drop_at a (b ++ (z ++ r)) (at * k) la in
      let t : take (at * k) (a ++ (b ++ (z ++ r))) ≡ a = take_at a (b ++ (z ++ r)) (at * k) la in
      let s : a ++ (b ++ (z ++ r)) ≡ (a ++ (b ++ z)) ++ r = ap (a ++◌) (sym (append_assoc b z r)) ∙ sym (append_assoc a (b ++ z) r) in
      let e : length (a ++ (b ++ z)) ≡ n * k + k = length-append a (b ++ z) ∙ omega (arith, length-append b z, words-split n at k h) in
      let p : drop (n * k + k) (a ++ (b ++ (z ++ r))) ≡ r = ap (drop (n * k + k)) s ∙ drop_at (a ++ (b ++ z)) r (n * k + k) e in
      rw (lk, t, d, p, take_at b (z ++ r) ((n - at) * k) lb) (append_assoc (a ++ key) b r ∙ append_assoc a key (b ++ r))

  removed-parts : (row : List ℕ) → length row ≡ k → at < n → length b ≡ (n - 1 - at) * k
      → removed k n at (a ++ (row ++ (b ++ r))) ≡ a ++ (b ++ (replicate k 0 ++ r))
  unfolding removed
  removed-parts row lr h lb =
      let t : take (at * k) (a ++ (row ++ (b ++ r))) ≡ a = take_at a (row ++ (b ++ r)) (at * k) la in
      let s : a ++ (row ++ (b ++ r)) ≡ (a ++ row) ++ (b ++ r) = sym (append_assoc a row (b ++ r)) in
      let d : drop (at * k + k) (a ++ (row ++ (b ++ r))) ≡ b ++ r = ap (drop (at * k + k)) s ∙ drop_at (a ++ row) (b ++ r) (at * k + k) (length-append a row ∙ omega arith) in
      let u : a ++ (row ++ (b ++ r)) ≡ ((a ++ row) ++ b) ++ r = s ∙ sym (append_assoc (a ++ row) b r) in
      let f : n - suc at ≡ n - 1 - at = omega arith in
      let g : (n - suc at) * k ≡ (n - 1 - at) * k = ap (λ (p : ℕ). p * k) f in
      let e : length ((a ++ row) ++ b) ≡ n * k = length-append (a ++ row) b ∙ omega (arith, length-append a row, words-split n (suc at) k h, suc-mul at k) in
      let p : drop (n * k) (a ++ (row ++ (b ++ r))) ≡ r = ap (drop (n * k)) u ∙ drop_at ((a ++ row) ++ b) r (n * k) e in
      rw (t, d, p, take_at b r ((n - 1 - at) * k) lb)
      (append_assoc (a ++ b) (replicate k 0) r ∙ append_assoc a b (replicate k 0 ++ r))

-- A COLUMN with a row more, with a row less, and with another row at a place
module _ (k c : ℕ) (l : List (List ℕ)) (x : List ℕ) (wide : Wide k l) where
  abbrev n : ℕ
  n = length l

  halves : (at : ℕ) → flat l ≡ flat (take at l) ++ flat (drop at l)
  halves at = ap flat (sym (take-append-drop at l)) ∙ flat_append (take at l) (drop at l)

  pub column-inserted : (at : ℕ) (key : List ℕ) → length key ≡ k → at ≤ n → n < c
      → inserted n at key (column k c l ++ x) ≡ column k c (spliced l at key) ++ x
  unfolding column spliced
  column-inserted at key lk h f =
      let a = flat (take at l) in
      let b = flat (drop at l) in
      let z : c - n ≡ suc (c - suc n) = omega arith in
      let m : length (take at l ++ key ∷ drop at l) ≡ suc n = keyed.length-spliced l at key in
      let g : c - length (take at l ++ key ∷ drop at l) ≡ c - suc n = ap (λ (i : ℕ). c - i) m in
      let r : List ℕ = replicate ((c - suc n) * k) 0 in
      let s : (flat l ++ replicate ((c - n) * k) 0) ++ x ≡ a ++ (b ++ (replicate k 0 ++ (r ++ x))) =
      rw (halves at, z, zeros-split k (c - suc n))
      (append_assoc (a ++ b) (replicate k 0 ++ r) x ∙ append_assoc a b ((replicate k 0 ++ r) ++ x) ∙ ap (λ (q : List ℕ). a ++ (b ++ q)) (append_assoc (replicate k 0) r x)) in
      let la : length a ≡ at * k = length-flat k (take at l) (every_take _ at l wide) ∙ ap (λ (i : ℕ). i * k) (length-take-le at l h) in
      let lb : length b ≡ (n - at) * k = length-flat k (drop at l) (every_drop _ at l wide) ∙ ap (λ (i : ℕ). i * k) (length-drop at l) in
      let e : flat (take at l ++ key ∷ drop at l) ≡ a ++ (key ++ b) = flat_append (take at l) (key ∷ drop at l) ∙ ap (a ++◌) (flat-cons key (drop at l)) in
      ap (inserted n at key) s
      ∙ inserted-parts k n at a b (r ++ x) la key (replicate k 0) lk (length-replicate k 0) h lb
      ∙ sym (rw (e, g) (append_assoc (a ++ (key ++ b)) r x ∙ append_assoc a (key ++ b) (r ++ x) ∙ ap (a ++◌) (append_assoc key b (r ++ x))))

  pub column-removed : (at : ℕ) → at < n → n ≤ c → removed k n at (column k c l ++ x) ≡ column k c (without_at l at) ++ x
  unfolding column without_at
  column-removed at h f =
      let a = flat (take at l) in
      let b = flat (drop (suc at) l) in
      let row = get_or l at [] in
      let m : length (take at l ++ drop (suc at) l) ≡ n - 1 = omega (arith, keyed.length-without_at l at h) in
      let g : c - length (take at l ++ drop (suc at) l) ≡ suc (c - n) = omega (arith, m) in
      let r : List ℕ = replicate ((c - n) * k) 0 in
      let split : flat l ≡ a ++ (row ++ b) = halves at ∙ ap (a ++◌) (ap flat (drop-cons l at [] h) ∙ flat-cons row (drop (suc at) l)) in
      let s : (flat l ++ r) ++ x ≡ a ++ (row ++ (b ++ (r ++ x))) =
      rw split (append_assoc (a ++ (row ++ b)) r x ∙ append_assoc a (row ++ b) (r ++ x) ∙ ap (a ++◌) (append_assoc row b (r ++ x))) in
      let la : length a ≡ at * k = length-flat k (take at l) (every_take _ at l wide) ∙ ap (λ (i : ℕ). i * k) (length-take-le at l (omega arith)) in
      let f1 : n - suc at ≡ n - 1 - at = omega arith in
      let lb : length b ≡ (n - 1 - at) * k = length-flat k (drop (suc at) l) (every_drop _ (suc at) l wide) ∙ ap (λ (i : ℕ). i * k) (length-drop (suc at) l ∙ f1) in
      ap (removed k n at) s
      ∙ removed-parts k n at a b (r ++ x) la row (every_in _ l at [] wide h) h lb
      ∙ sym (rw (flat_append (take at l) (drop (suc at) l), g, zeros-split k (c - n))
      (append_assoc (a ++ b) (replicate k 0 ++ r) x ∙ append_assoc a b ((replicate k 0 ++ r) ++ x) ∙ ap (λ (q : List ℕ). a ++ (b ++ q)) (append_assoc (replicate k 0) r x)))

-- a column of single words
pub column-set : (c : ℕ) (l : List (List ℕ)) (x : List ℕ) (at w : ℕ) → Wide 1 l → at < length l
    → set (column 1 c l ++ x) at w ≡ column 1 c (set l at (w ∷ [])) ++ x
unfolding column
column-set c l x at w h n =
    rw (length-set l at (w ∷ []), append_assoc (flat l) (replicate ((c - length l) * 1) 0) x, append_assoc (flat (set l at (w ∷ []))) (replicate ((c - length l) * 1) 0) x)
    (flat-set l at w (replicate ((c - length l) * 1) 0 ++ x) h n)
