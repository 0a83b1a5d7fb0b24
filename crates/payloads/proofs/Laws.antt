-- Laws of the addresses in a payload: word by word, and row after row at the front of a ready list. Assumes nothing.
use Prim.Native.Nat.{ℕ, suc, ◌+◌, ◌*◌, ◌/◌, ◌≤◌, ◌<◌}
use native.Mathlib.Omega.{arith}
use native.Mathlib.Numerals.{add-one}
use mathlib.Core.Path.{◌≡◌, refl, ap, ◌∙◌, sym}
use mathlib.Core.Bool.{Bool, true, false}
use mathlib.Core.List.{List, [], ◌∷◌, ◌++◌, append_assoc, append-nil}
use lib.ListN.{length, get_or, take, drop, length-append, length-map, length-drop}
use lib.Seq.{get_or-take, get_or-drop, length-take-le, take_at, take-suc}
use Rattle.lists.proofs.Lists.{get_d-map-in}
use Rattle.octets.specs.Octets.{number_of, word_at}
use Rattle.octets.proofs.Laws.{word-elements}
use Rattle.rows.specs.Rows.{rows_in, flat, inserted}
use Rattle.rows.proofs.Rows.{rows-length, rows_at}
use Rattle.rows.proofs.Columns.{flat_append}
use Rattle.payloads.specs.Payloads.{size_of, address_of, addresses_in}

-- ---- one address

-- the word k of the piece of n octets at an offset
module _ (s : List ℕ) (at n : ℕ) (h : at + n ≤ length s) where
  abbrev piece : List ℕ
  piece = take n (drop at s)

  octet : (j : ℕ) → j < n → get_or piece j 0 ≡ get_or s (at + j) 0
  octet j l = get_or-take n (drop at s) j 0 l ∙ get_or-drop at s j 0

  length-piece : length piece ≡ n
  length-piece = length-take-le n (drop at s) (omega (arith, length-drop at s))

  pub piece-word : (k v : ℕ) → k + 4 ≤ n → v ≡ number_of (get_or s (at + k) 0 ∷ get_or s (at + k + 1) 0 ∷ get_or s (at + k + 2) 0 ∷ get_or s (at + k + 3) 0 ∷ []) → v ≡ word_at k piece
  piece-word k v l q =
      let a : (j i : ℕ) → j ≡ at + i → i < n → get_or s j 0 ≡ get_or piece i 0 = λ j i e m. ap (λ (x : ℕ). get_or s x 0) e ∙ sym (octet i m) in
      word-elements k v piece (omega (arith, length-piece))
      (q ∙ rw (a (at + k) k refl (omega arith), a (at + k + 1) (suc k) (omega arith) (omega arith), a (at + k + 2) (suc (suc k)) (omega arith) (omega arith), a (at + k + 3) (suc (suc (suc k))) (omega arith) (omega arith)))

-- the size by the family, and the address
module _ (s : List ℕ) (at : ℕ) (v : Bool) (h : at + size_of v ≤ length s) where
  pub room-six : v ≡ true → at + 16 ≤ length s
  unfolding size_of
  room-six e = rw e at h

  pub room-four : v ≡ false → at + 4 ≤ length s
  unfolding size_of
  room-four e = rw e at h

  pub address-six : (e : v ≡ true) (a b c d : ℕ)
      → a ≡ number_of (get_or s at 0 ∷ get_or s (at + 1) 0 ∷ get_or s (at + 2) 0 ∷ get_or s (at + 3) 0 ∷ [])
      → b ≡ number_of (get_or s (at + 4) 0 ∷ get_or s (at + 4 + 1) 0 ∷ get_or s (at + 4 + 2) 0 ∷ get_or s (at + 4 + 3) 0 ∷ [])
      → c ≡ number_of (get_or s (at + 8) 0 ∷ get_or s (at + 8 + 1) 0 ∷ get_or s (at + 8 + 2) 0 ∷ get_or s (at + 8 + 3) 0 ∷ [])
      → d ≡ number_of (get_or s (at + 12) 0 ∷ get_or s (at + 12 + 1) 0 ∷ get_or s (at + 12 + 2) 0 ∷ get_or s (at + 12 + 3) 0 ∷ [])
      → 6 ∷ a ∷ b ∷ c ∷ d ∷ [] ≡ address_of v (take (size_of v) (drop at s))
  unfolding address_of size_of
  address-six e a b c d p q r t =
      let l = room-six e in
      let z : at + 0 ≡ at = omega arith in
      let p' : a ≡ number_of (get_or s (at + 0) 0 ∷ get_or s (at + 0 + 1) 0 ∷ get_or s (at + 0 + 2) 0 ∷ get_or s (at + 0 + 3) 0 ∷ []) = rw z p in
      rw (e, piece-word s at 16 l 0 a (omega arith) p', piece-word s at 16 l 4 b (omega arith) q, piece-word s at 16 l 8 c (omega arith) r, piece-word s at 16 l 12 d (omega arith) t)

  pub address-four : (e : v ≡ false) (a : ℕ)
      → a ≡ number_of (get_or s at 0 ∷ get_or s (at + 1) 0 ∷ get_or s (at + 2) 0 ∷ get_or s (at + 3) 0 ∷ [])
      → 4 ∷ a ∷ 0 ∷ 0 ∷ 0 ∷ [] ≡ address_of v (take (size_of v) (drop at s))
  unfolding address_of size_of
  address-four e a p =
      let l = room-four e in
      let z : at + 0 ≡ at = omega arith in
      let p' : a ≡ number_of (get_or s (at + 0) 0 ∷ get_or s (at + 0 + 1) 0 ∷ get_or s (at + 0 + 2) 0 ∷ get_or s (at + 0 + 3) 0 ∷ []) = rw z p in
      rw (e, piece-word s at 4 l 0 a (omega arith) p')

-- ---- a run of addresses

pub length-addresses : (v : Bool) (s : List ℕ) → length (addresses_in v s) ≡ length s / size_of v
unfolding addresses_in
length-addresses v s = length-map (rows_in (size_of v) (length s / size_of v) s) (address_of v) ∙ rows-length (size_of v) (length s / size_of v) s

pub address-in : (v : Bool) (s : List ℕ) (i : ℕ) → i < length s / size_of v → get_or (addresses_in v s) i [] ≡ address_of v (take (size_of v) (drop (i * size_of v) s))
unfolding addresses_in
address-in v s i h =
    get_d-map-in (address_of v) (rows_in (size_of v) (length s / size_of v) s) i [] [] (omega (arith, rows-length (size_of v) (length s / size_of v) s))
    ∙ ap (address_of v) (rows_at (size_of v) (length s / size_of v) s i h)

pub size-pos : (v : Bool) → (4 ≤ size_of v) × (size_of v ≤ 16)
unfolding size_of
size-pos true = (omega arith, omega arith)
size-pos false = (omega arith, omega arith)

flat-one : (x : List ℕ) → flat (x ∷ []) ≡ x
unfolding flat
flat-one x = append-nil x

pub address-fits : (v : Bool) (s : List ℕ) (i : ℕ) → i < length s / size_of v → i * size_of v + size_of v ≤ length s
unfolding size_of
address-fits true s i h = omega arith
address-fits false s i h = omega arith

pub addresses-few : (v : Bool) (s : List ℕ) → length s ≤ 255 → length s / size_of v ≤ 63
unfolding size_of
addresses-few true s h = omega arith
addresses-few false s h = omega arith

-- one row more
pub row_more : (l : List (List ℕ)) (i : ℕ) (r t u : List ℕ) → i < length l → length r ≡ 5 → i * 5 + 5 ≤ length t → r ≡ get_or l i []
    → take (i * 5) t ≡ flat (take i l) → u ≡ inserted i i r t → take ((i + 1) * 5) u ≡ flat (take (i + 1) l)
unfolding inserted
row_more l i r t u h w k e q p =
    let n : length (take (i * length r) t ++ r) ≡ (i + 1) * 5 = length-append (take (i * length r) t) r ∙ omega (arith, length-take-le (i * length r) t (rw w (omega arith)), w, ap (λ (x : ℕ). i * x) w) in
    ap (take ((i + 1) * 5)) (p ∙ append_assoc (take (i * length r) t ++ r) _ _)
    ∙ take_at (take (i * length r) t ++ r) _ ((i + 1) * 5) n
    ∙ ap (λ (x : ℕ). take (i * x) t ++ r) w
    ∙ rw (q, e, add-one, take-suc l i [] h) (sym (flat_append (take i l) (get_or l i [] ∷ []) ∙ ap (flat (take i l) ++◌) (flat-one (get_or l i []))))
