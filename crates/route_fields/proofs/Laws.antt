-- Laws of `specs/Fields.antt`: what the reader answers, and that a written route reads back. Assumes nothing.
use Prim.Native.Nat.{ℕ, suc, ◌+◌, ◌-◌, ◌/◌, ◌≤◌, ◌<◌}
use native.Mathlib.Omega.{arith}
use mathlib.Core.Path.{◌≡◌, refl, ap, ap₂, sym, ◌∙◌}
use mathlib.Core.Bool.{true, false, not, ◌||◌}
use mathlib.Core.List.{List, [], ◌∷◌, ◌++◌, append_assoc}
use lib.ListN.{length, get_or, take, drop, replicate, length-append, length-drop}
use lib.Seq.{take_at, drop_at, drop-drop, get_or-drop, length-take-le}
use lib.Dec.{eqb}
use borrow.Author.Tests.{eq-eqb, ne_eqb, le-ltb, lt-ltb}
use Rattle.lists.proofs.Bools.{eq-not, ne-not}
use Rattle.lists.proofs.Checks.{refused-at, refused_none}
use Rattle.octets.specs.Octets.{octets_of, stored}
use Rattle.octets.proofs.Laws.{number-octets-small, stored-front, stored-all, stored-stored}
use Rattle.address.specs.declared.Family.{Family}
use Rattle.address.specs.Address.{row_under, address_row, IsAddress, ipv4, ipv6, octets_in, family_of, octets_of_address, is_zero}
use Rattle.address.specs.declared.Address.{Address}
use Rattle.address.specs.declared.Family.TheVariants.{V4, V6}
use Rattle.rows.proofs.Compared.{Words}
use Rattle.esi.specs.Reserved.{reserved}
use Rattle.esi.proofs.Laws.{length-not-reserved}
use Rattle.route.specs.Route.{total_of, route_total, ipv4_in, ipv6_in, route_distinguisher, route_esi, route_originator, route_address, route_number, route_checked, Originator, Refused}
use Rattle.route.proofs.Laws.{total-least, route-length, told-originator, told-refused}
use Rattle.route_fields.specs.Fields.{bits_of, read_as, read_route, route_octets, write_route_number, route_written}

module _ (s : List ℕ) where
  -- WHAT THE READER ANSWERS
  pub read_refused : (n p : ℕ) → Refused n p ≡ route_checked s → read_as n p (replicate 8 0) (replicate 10 0) 0 (replicate 16 0) ≡ read_route s
  unfolding read_route
  read_refused n p h = let t = told-refused s n p (sym h) in rw (ne_eqb (route_number s) 0 t.0, t.1.0, t.1.1)

  -- an accepted route is long enough for its fields
  pub accepted_length : (a : Address) → Originator a ≡ route_checked s → 25 ≤ length s
  accepted_length a h = route-length s (told-originator s a (sym h)).0

  read-accepted : (a : Address) (d e : List ℕ) → route_checked s ≡ Originator a
      → d ≡ stored (replicate 8 0) 0 (take 8 (drop 2 s)) → e ≡ stored (replicate 10 0) 0 (take 10 (drop 10 s))
      → read_as 0 0 d e (family_of (address_row a)) (octets_of_address (address_row a)) ≡ read_route s
  unfolding read_route route_distinguisher route_esi route_address
  read-accepted a d e h p q =
      let t = told-originator s a h in
      let l : 25 ≤ length s = route-length s t.0 in
      rw (eq-eqb (route_number s) 0 t.0, p, q, t.1)
      (ap₂ (λ (x y : List ℕ). read_as 0 0 x y (family_of (address_row (route_originator s))) (octets_of_address (address_row (route_originator s))))
      (stored-all (replicate 8 0) (take 8 (drop 2 s)) (length-take-le 8 (drop 2 s) (simp length-drop (omega arith))))
      (stored-all (replicate 10 0) (take 10 (drop 10 s)) (length-take-le 10 (drop 10 s) (simp length-drop (omega arith)))))

  pub reads-accepted : (a : Address) (d e r o : List ℕ) (f : ℕ) → Originator a ≡ route_checked s
      → d ≡ stored (replicate 8 0) 0 (take 8 (drop 2 s)) → e ≡ stored (replicate 10 0) 0 (take 10 (drop 10 s))
      → r ≡ address_row a → f ≡ get_or r 0 0 → o ≡ octets_in (drop 1 r)
      → read_as 0 0 d e f o ≡ read_route s
  unfolding family_of octets_of_address
  reads-accepted a d e r o f h p q u v w = rw (v, w, u) (read-accepted a d e (sym h) p q)

-- what the code of the reader goes by
pub ruleset reading = (read_refused, accepted_length)

-- AN ADDRESS IN A ROUTE
abbrev pub part : List ℕ → List ℕ
part r = take (bits_of r / 8) (octets_of_address r)

bits-known : (r : List ℕ) → IsAddress r → (eqb (bits_of r) 32 || eqb (bits_of r) 128) ≡ true
unfolding bits_of family_of
bits-known r (ipv4 a e) = rw e
bits-known r (ipv6 a b c d e) = rw e

pub length_part : (r : List ℕ) → IsAddress r → 21 + length (part r) ≡ total_of (bits_of r)
unfolding bits_of family_of total_of octets_of_address octets_in octets_of
length_part r (ipv4 a e) = rw e
length_part r (ipv6 a b c d e) = rw e

-- of an address that is handed in, the words that do not count are not written
pub part_of : (a : Address) → take (total_of (bits_of (address_row a)) - 21) (octets_in (a.w0 ∷ a.w1 ∷ a.w2 ∷ a.w3 ∷ [])) ≡ part (address_row a)
unfolding address_row bits_of family_of total_of octets_of_address octets_in octets_of
part_of a = go a.family
  where
    go : (f : Family) → take (total_of (bits_of (row_under f a.w0 a.w1 a.w2 a.w3)) - 21) (octets_in (a.w0 ∷ a.w1 ∷ a.w2 ∷ a.w3 ∷ [])) ≡ part (row_under f a.w0 a.w1 a.w2 a.w3)
    go V4 = refl
    go V6 = refl

pub length-sixteen : (a b c d : ℕ) → length (octets_in (a ∷ b ∷ c ∷ d ∷ [])) ≡ 16
unfolding octets_in octets_of
length-sixteen a b c d = refl

-- the octets of an address in a route say it again
part-back : (s r : List ℕ) → IsAddress r → Words r → get_or s 20 0 ≡ bits_of r → drop 21 s ≡ part r → route_address s ≡ r
unfolding route_address route_originator ipv4_in ipv6_in address_row bits_of family_of octets_of_address octets_in octets_of
part-back s r (ipv4 a e) o b p =
    let l : a < 4294967296 = rw e at (o 1) in
    let b' : get_or s 20 0 ≡ 32 = b ∙ rw e in
    let p' : drop 21 s ≡ take 4 (octets_in (a ∷ 0 ∷ 0 ∷ 0 ∷ [])) = p ∙ rw e in
    rw (b', p', e) (ap (λ (w : ℕ). 4 ∷ w ∷ 0 ∷ 0 ∷ 0 ∷ []) (number-octets-small 4 a l))
part-back s r (ipv6 a b c d e) o g p =
    let la : a < 4294967296 = rw e at (o 1) in
    let lb : b < 4294967296 = rw e at (o 2) in
    let lc : c < 4294967296 = rw e at (o 3) in
    let ld : d < 4294967296 = rw e at (o 4) in
    let g' : get_or s 20 0 ≡ 128 = g ∙ rw e in
    let p' : drop 21 s ≡ octets_in (a ∷ b ∷ c ∷ d ∷ []) = p ∙ rw e in
    let q : drop 25 s ≡ octets_in (b ∷ c ∷ d ∷ []) = sym (drop-drop 4 21 s) ∙ ap (drop 4) p' in
    let t : drop 29 s ≡ octets_in (c ∷ d ∷ []) = sym (drop-drop 8 21 s) ∙ ap (drop 8) p' in
    let u : drop 33 s ≡ octets_in (d ∷ []) = sym (drop-drop 12 21 s) ∙ ap (drop 12) p' in
    rw (g', p', q, t, u, e, number-octets-small 4 a la, number-octets-small 4 b lb, number-octets-small 4 c lc, number-octets-small 4 d ld)

-- THE WAY BACK: what was written reads as it was meant
module _ (d e r : List ℕ) (ld : length d ≡ 8) (re : reserved e ≡ false) (ra : IsAddress r) where
  abbrev o : List ℕ
  o = route_octets d e r

  abbrev b : ℕ
  b = bits_of r

  length-ten : length e ≡ 10
  length-ten = length-not-reserved e re

  pub length-octets-route : length o ≡ total_of b
  unfolding route_octets
  length-octets-route = simp length-append (omega (arith, ld, length-ten, length_part r ra))

  distinguisher-of : route_distinguisher o ≡ d
  unfolding route_distinguisher route_octets
  distinguisher-of = take_at d (e ++ b ∷ part r) 8 ld

  -- the octets from the identifier on
  after-distinguisher : drop 10 o ≡ e ++ b ∷ part r
  unfolding route_octets
  after-distinguisher = drop_at d (e ++ b ∷ part r) 8 ld

  after-esi : drop 20 o ≡ b ∷ part r
  after-esi = sym (drop-drop 10 10 o) ∙ ap (drop 10) after-distinguisher ∙ drop_at e (b ∷ part r) 10 length-ten

  pub esi-of : route_esi o ≡ e
  unfolding route_esi
  esi-of = ap (take 10) after-distinguisher ∙ take_at e (b ∷ part r) 10 length-ten

  pub bits-of : get_or o 20 0 ≡ b
  bits-of = sym (get_or-drop 20 o 0 0) ∙ ap (λ (l : List ℕ). get_or l 0 0) after-esi

  total-of : route_total o ≡ total_of b
  total-of = ap total_of bits-of

  -- whose words have 32 bits
  module _ (wa : Words r) where
    pub address-of : route_address o ≡ r
    address-of = part-back o r ra wa bits-of (sym (drop-drop 1 20 o) ∙ ap (drop 1) after-esi)

    pub number_of : is_zero r ≡ false → route_number o ≡ 0
    unfolding route_number route_octets
    number_of za =
        let l : length o ≡ route_total o = length-octets-route ∙ sym total-of in
        let m : get_or o 1 0 ≡ route_total o - 2 = sym (ap (λ (n : ℕ). n - 2) total-of) in
        sym (refused_none _ (le-ltb (length o) 21 (omega (arith, length-octets-route, total-least b)), (refl, (ap not (ap (λ (n : ℕ). eqb n 32 || eqb n 128) bits-of ∙ bits-known r ra), (rw (eq-not l) (eq-not m), (rw esi-of re, (rw address-of za, tt)))))))

    reads-back : is_zero r ≡ false → read_route o ≡ read_as 0 0 d e (family_of r) (octets_of_address r)
    unfolding read_route
    reads-back za = rw (eq-eqb (route_number o) 0 (number_of za), distinguisher-of, esi-of, address-of)

    -- WHAT THE WRITER STORES, piece by piece
    module _ (x : List ℕ) (lx : total_of b ≤ length x) where
      front : stored x 0 o ≡ o ++ drop (total_of b) x
      front = stored-front x o (omega (arith, length-octets-route)) ∙ rw length-octets-route

      abbrev h : List ℕ
      h = 4 ∷ (total_of b - 2) ∷ []

      joined : stored (stored (stored (stored (stored x 0 h) 2 d) 10 e) 20 (b ∷ [])) 21 (part r) ≡ stored x 0 o
      unfolding route_octets
      joined =
          let le = length-ten in
          let lo = length_part r ra in
          let head : 0 + length (4 ∷ (total_of b - 2) ∷ d) ≡ 10 = omega arith in
          let more : 0 + length (4 ∷ (total_of b - 2) ∷ d ++ e) ≡ 20 = simp length-append (omega arith) in
          let most : 0 + length (4 ∷ (total_of b - 2) ∷ (d ++ e) ++ b ∷ []) ≡ 21 = simp length-append (omega arith) in
          rw (stored-stored x 0 h d 2 refl (omega (arith, total-least b)), stored-stored x 0 (4 ∷ (total_of b - 2) ∷ d) e 10 head (omega (arith, total-least b)), stored-stored x 0 (4 ∷ (total_of b - 2) ∷ d ++ e) (b ∷ []) 20 more (omega (arith, total-least b)), stored-stored x 0 (4 ∷ (total_of b - 2) ∷ (d ++ e) ++ b ∷ []) (part r) 21 most (omega arith))
          (ap (λ (l : List ℕ). stored x 0 (4 ∷ (total_of b - 2) ∷ l)) (append_assoc (d ++ e) (b ∷ []) (part r) ∙ append_assoc d e (b ∷ part r)))

      pub stored-route : {v p q t u l : List ℕ} → v ≡ part r → p ≡ stored x 0 h → q ≡ stored p 2 d → t ≡ stored q 10 e → u ≡ stored t 20 (b ∷ []) → l ≡ stored u 21 v → l ≡ o ++ drop (total_of b) x
      stored-route hv hp hq ht hu hl = hl ∙ rw (hv, hu, ht, hq, hp, joined) front

-- WHAT THE WRITER LEAVES
module _ (x d e r : List ℕ) where
  -- what the writer promises of its answer n and of what the buffer then holds
  abbrev pub Wrote : ℕ → List ℕ → Type 0
  Wrote n l =
      (n ≡ write_route_number d e r (length x))
      × ((l ≡ route_written x d e r)
      × (n ≡ 0 → read_route (take (total_of (bits_of r)) l) ≡ read_as 0 0 d e (family_of r) (octets_of_address r)))

  not_written : (n : ℕ) → suc n ≡ write_route_number d e r (length x) → Wrote (suc n) x
  unfolding route_written
  not_written n q = (q, (rw (← q, ne_eqb (suc n) 0 (λ z. omega arith)), λ z. absurd (omega arith)))

  pub wrote-no-distinguisher : (length d ≡ 8 → ⊥) → Wrote 1 x
  unfolding write_route_number
  wrote-no-distinguisher n = not_written 0 (refused-at 0 _ tt (ne-not n))

  module _ (ld : length d ≡ 8) where
    pub wrote-reserved : reserved e ≡ true → Wrote 4 x
    unfolding write_route_number
    wrote-reserved q = not_written 3 (refused-at 1 _ (eq-not ld, tt) q)

    module _ (re : reserved e ≡ false) where
      pub wrote-zero : is_zero r ≡ true → Wrote 6 x
      unfolding write_route_number
      wrote-zero z = not_written 5 (refused-at 2 _ (eq-not ld, (re, tt)) z)

      module _ (za : is_zero r ≡ false) where
        pub wrote-short : (m : ℕ) → m ≡ total_of (bits_of r) → length x < m → Wrote 14 x
        unfolding write_route_number
        wrote-short m f h = not_written 13 (refused-at 3 _ (eq-not ld, (re, (za, tt))) (lt-ltb _ _ (rw f at h)))

        pub wrote : (ra : IsAddress r) (wa : Words r) (lx : total_of (bits_of r) ≤ length x) {v p q t u l : List ℕ}
            → v ≡ part r → p ≡ stored x 0 (4 ∷ (total_of (bits_of r) - 2) ∷ []) → q ≡ stored p 2 d → t ≡ stored q 10 e → u ≡ stored t 20 (bits_of r ∷ []) → l ≡ stored u 21 v → Wrote 0 l
        unfolding write_route_number route_written
        wrote ra wa lx {l = l} hv hp hq ht hu hl =
            let f : l ≡ route_octets d e r ++ drop (total_of (bits_of r)) x = stored-route d e r ld re ra wa x lx hv hp hq ht hu hl in
            let n : 0 ≡ write_route_number d e r (length x) = refused_none _ (eq-not ld, (re, (za, (le-ltb _ _ lx, tt)))) in (
              n,
              (
                f ∙ rw (← n),
                λ z. rw (f, take_at (route_octets d e r) (drop (total_of (bits_of r)) x) (total_of (bits_of r)) (length-octets-route d e r ld re ra)) (reads-back d e r ld re ra wa za),
              ),
            )
