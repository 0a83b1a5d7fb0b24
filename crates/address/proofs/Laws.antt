-- Laws of addresses and of the rows that they are kept as. Assumes nothing.
use Prim.Native.Nat.{ℕ, zero, suc, ◌+◌, ◌*◌, ◌/◌, ◌%◌, ◌^◌, ◌≤◌, ◌<◌}
use native.Mathlib.Nat.{pow-succ', one-le-pow, mul-le-mul_right}
use native.Mathlib.Omega.{arith}
use mathlib.Core.Path.{◌≡◌, refl, ap, ap₂, ◌∙◌, sym}
use mathlib.Core.Bool.{Bool, false, ◌&&◌, and-true, and_assoc}
use mathlib.Core.List.{List, [], ◌∷◌, ◌++◌}
use mathlib.Core.Logic.{inl, inr}
use lib.ListN.{length, get_or, take, drop, length-append}
use lib.Seq.{take-suc, drop-cons}
use lib.Pow.{pow-add}
use lib.Dec.{eqb}
use lib.Arith.{digits_div, digits_mod}
use borrow.Author.Tests.{ne_eqb}
use Rattle.lists.specs.Lists.{all}
use Rattle.lists.proofs.Bools.{true-false}
use Rattle.octets.specs.Octets.{number_of, octets_of, all_are}
use Rattle.octets.proofs.Laws.{length-octets, number-octets-small, number_append, four-octets}
use Rattle.rows.specs.Rows.{row_key}
use Rattle.rows.proofs.Compared.{Words, key-lt, key-less, is-less, order-less, order-one}
use Rattle.address.specs.declared.Family.{Family}
use Rattle.address.specs.declared.Family.TheVariants.{V4, V6}
use Rattle.address.specs.declared.Address.{Address}
use Rattle.address.specs.Address.{row_under, address_row, IsAddress, ipv4, ipv6, octets_in, family_of, octets_of_address, address_key, SeventeenOctets, is_zero, listed_in, NamesAddress}

abbrev base : ℕ
base = 4294967296

-- ---- the octets of words

octets-power : (r : List ℕ) → 256 ^ length (octets_in r) ≡ base ^ length r
unfolding octets_in
octets-power [] = refl
octets-power (w ∷ r) =
    rw (length-append (octets_of 4 w) (octets_in r), length-octets 4 w, pow-add 256 4 (length (octets_in r)), octets-power r, pow-succ' base (length r))

pub length-octets-in : (r : List ℕ) → length (octets_in r) ≡ 4 * length r
unfolding octets_in
length-octets-in [] = refl
length-octets-in (w ∷ r) = length-append (octets_of 4 w) (octets_in r) ∙ omega (arith, length-octets 4 w, length-octets-in r)

number-none : number_of [] ≡ 0
unfolding number_of
number-none = refl

number-words : (r : List ℕ) → Words r → number_of (octets_in r) ≡ row_key r
unfolding octets_in row_key
number-words [] o = number-none
number-words (w ∷ r) o =
    rw (number_append (octets_of 4 w) (octets_in r), octets-power r, number-octets-small 4 w (o 0), number-words r (λ i. o (suc i)))

-- sixteen octets, four to a word
pub spread : (p q r s : List ℕ) (a b c d : ℕ) → p ≡ octets_of 4 a → q ≡ octets_of 4 b → r ≡ octets_of 4 c → s ≡ octets_of 4 d
    → get_or p 0 0 ∷ get_or p 1 0 ∷ get_or p 2 0 ∷ get_or p 3 0
    ∷ get_or q 0 0 ∷ get_or q 1 0 ∷ get_or q 2 0 ∷ get_or q 3 0
    ∷ get_or r 0 0 ∷ get_or r 1 0 ∷ get_or r 2 0 ∷ get_or r 3 0
    ∷ get_or s 0 0 ∷ get_or s 1 0 ∷ get_or s 2 0 ∷ get_or s 3 0
    ∷ []
    ≡ octets_in (a ∷ b ∷ c ∷ d ∷ [])
unfolding octets_in
spread p q r s a b c d e f g h = rw (e, f, g, h, four-octets a, four-octets b, four-octets c, four-octets d)

-- the key of a row of words is the number of its octets, the family before the address
pub seventeen : (f : ℕ) (r : List ℕ) → Words r → SeventeenOctets (f ∷ r)
unfolding address_key family_of octets_of_address number_of row_key
seventeen f r o = rw (octets-power r, number-words r o)

words-cons : (w : ℕ) (r : List ℕ) → w < base → Words r → Words (w ∷ r)
words-cons w r h o zero = h
words-cons w r h o (suc i) = o i

pub words-four : (a b c d : ℕ) → a < base → b < base → c < base → d < base → Words (a ∷ b ∷ c ∷ d ∷ [])
words-four a b c d p q r s = words-cons a (b ∷ c ∷ d ∷ []) p (words-cons b (c ∷ d ∷ []) q (words-cons c (d ∷ []) r (words-cons d [] s (λ i. omega arith))))

-- ---- zero

-- the words r added upon z
abbrev sum : ℕ → List ℕ → ℕ
sum z [] = z
sum z (w ∷ r) = sum (z + w) r

sum-next : (z w : ℕ) → eqb (z + w) 0 ≡ (eqb z 0 && eqb w 0)
sum-next zero w = let e : 0 + w ≡ w = omega arith in ap (λ (n : ℕ). eqb n 0) e
sum-next (suc z) w = ne_eqb (suc z + w) 0 (λ e. omega arith) ∙ sym (ap (λ (b : Bool). b && eqb w 0) (ne_eqb (suc z) 0 (λ e. omega arith)))

sum-zero : (z : ℕ) (r : List ℕ) → eqb (sum z r) 0 ≡ (eqb z 0 && all_are 0 r)
unfolding all_are all
sum-zero z [] = sym (and-true (eqb z 0))
sum-zero z (w ∷ r) = sum-zero (z + w) r ∙ ap (λ (b : Bool). b && all_are 0 r) (sum-next z w) ∙ and_assoc (eqb z 0) (eqb w 0) (all_are 0 r)

-- the words of an address add up to zero exactly if it is zero
pub zero-words : (f a b c d : ℕ) → eqb (a + b + c + d) 0 ≡ is_zero (f ∷ a ∷ b ∷ c ∷ d ∷ [])
unfolding is_zero all_are all
zero-words f a b c d = sum-zero a (b ∷ c ∷ d ∷ [])

-- ---- equal keys are equal rows

pub key-injective : (r s : List ℕ) → length r ≡ length s → Words r → Words s → address_key r ≡ address_key s → r ≡ s
unfolding address_key row_key
key-injective [] [] n o p e = refl
key-injective [] (v ∷ s) n o p e = absurd (omega arith)
key-injective (w ∷ r) [] n o p e = absurd (omega arith)
key-injective (w ∷ r) (v ∷ s) n o p e =
    let m : length r ≡ length s = omega arith in
    let l = rw m at (key-lt r (λ i. o (suc i))) in
    let k = key-lt s (λ i. p (suc i)) in
    let g = rw m at e in
    let high : w ≡ v = sym (digits_div w l) ∙ ap (λ (x : ℕ). x / base ^ length s) g ∙ digits_div v k in
    let low : row_key r ≡ row_key s = sym (digits_mod w l) ∙ ap (λ (x : ℕ). x % base ^ length s) g ∙ digits_mod v k in
    ap₂ (λ (x : ℕ) (t : List ℕ). x ∷ t) high (key-injective r s m (λ i. o (suc i)) (λ i. p (suc i)) low)

-- ---- a row that is an address

pub length-address : (r : List ℕ) → IsAddress r → length r ≡ 5
length-address r (ipv4 a e) = ap length e
length-address r (ipv6 a b c d e) = ap length e

pub family-small : (r : List ℕ) → IsAddress r → get_or r 0 0 < 256
family-small r (ipv4 a e) = rw e (omega arith)
family-small r (ipv6 a b c d e) = rw e (omega arith)

pub words-after : (r : List ℕ) → IsAddress r → get_or r 1 0 ∷ get_or r 2 0 ∷ get_or r 3 0 ∷ get_or r 4 0 ∷ [] ≡ drop 1 r
words-after r (ipv4 a e) = rw e
words-after r (ipv6 a b c d e) = rw e

-- the family of an address is 4 or 6
pub names-address : (r : List ℕ) → IsAddress r → NamesAddress r
names-address r (ipv4 a e) = inl (ap (λ (s : List ℕ). get_or s 0 0) e)
names-address r (ipv6 a b c d e) = inr (ap (λ (s : List ℕ). get_or s 0 0) e)

-- an IPv4 address is its family, its first word and zeros
pub tail-four : (r : List ℕ) → IsAddress r → get_or r 0 0 ≡ 4 → drop 2 r ≡ 0 ∷ 0 ∷ 0 ∷ []
tail-four r (ipv4 a e) f = rw e
tail-four r (ipv6 a b c d e) f = let n = rw e at f in absurd (omega arith)

-- what is handed in is an address
pub row-address : (a : Address) → IsAddress (address_row a)
unfolding address_row
row-address a = go a.family
  where
    go : (f : Family) → IsAddress (row_under f a.w0 a.w1 a.w2 a.w3)
    go V4 = ipv4 a.w0 refl
    go V6 = ipv6 a.w0 a.w1 a.w2 a.w3 refl

pub row_words : (a : Address) → a.w0 < base → a.w1 < base → a.w2 < base → a.w3 < base → Words (address_row a)
unfolding address_row
row_words a p q r s = go a.family
  where
    go : (f : Family) → Words (row_under f a.w0 a.w1 a.w2 a.w3)
    go V4 = words-cons 4 (a.w0 ∷ 0 ∷ 0 ∷ 0 ∷ []) (omega arith) (words-four a.w0 0 0 0 p (omega arith) (omega arith) (omega arith))
    go V6 = words-cons 6 (a.w0 ∷ a.w1 ∷ a.w2 ∷ a.w3 ∷ []) (omega arith) (words-four a.w0 a.w1 a.w2 a.w3 p q r s)

key-head : (w : ℕ) (r : List ℕ) → 1 ≤ w → 1 ≤ address_key (w ∷ r)
unfolding address_key row_key
key-head w r h =
    let p : 1 ≤ base ^ length r = one-le-pow (length r) base (omega arith) in
    omega (arith, mul-le-mul_right (base ^ length r) h)

pub key_above : (r : List ℕ) → IsAddress r → 1 ≤ address_key r
key_above r (ipv4 a e) = rw e (key-head 4 (a ∷ 0 ∷ 0 ∷ 0 ∷ []) (omega arith))
key_above r (ipv6 a b c d e) = rw e (key-head 6 (a ∷ b ∷ c ∷ d ∷ []) (omega arith))

-- 0.0.0.0 is below every address that is not zero
pub zero-lowest : (r : List ℕ) → IsAddress r → is_zero r ≡ false → address_key (4 ∷ 0 ∷ 0 ∷ 0 ∷ 0 ∷ []) < address_key r
unfolding address_key is_zero all_are all
zero-lowest r (ipv4 a e) z = rw e (is-less _ _ (order-one 4 0 a (0 ∷ 0 ∷ 0 ∷ []) ∙ order-less (above a (rw e at z))))
  where
    above : (n : ℕ) → all_are 0 (n ∷ 0 ∷ 0 ∷ 0 ∷ []) ≡ false → 0 < n
    above zero h = absurd (true-false refl h)
    above (suc n) h = omega arith
zero-lowest r (ipv6 a b c d e) z = rw e (key-less 4 6 (0 ∷ 0 ∷ 0 ∷ 0 ∷ []) (a ∷ b ∷ c ∷ d ∷ []) refl (omega arith) (words-four 0 0 0 0 (omega arith) (omega arith) (omega arith) (omega arith)))

pub key_row : (r : List ℕ) → row_key r ≡ address_key r
unfolding address_key
key_row r = refl

-- ---- a row of a ready list

module _ (r : List ℕ) where
  pub listed-four : get_or r 0 0 ≡ 4 → 4 ∷ get_or r 1 0 ∷ 0 ∷ 0 ∷ 0 ∷ [] ≡ listed_in r
  unfolding listed_in
  listed-four e = rw e

  pub listed-six : get_or r 0 0 ≡ 6 → 6 ∷ get_or r 1 0 ∷ get_or r 2 0 ∷ get_or r 3 0 ∷ get_or r 4 0 ∷ [] ≡ listed_in r
  unfolding listed_in
  listed-six e = rw e

  pub listed-neither : (get_or r 0 0 ≡ 4 → ⊥) → (get_or r 0 0 ≡ 6 → ⊥) → 4 ∷ 0 ∷ 0 ∷ 0 ∷ 0 ∷ [] ≡ listed_in r
  unfolding listed_in
  listed-neither m n = rw (ne_eqb _ 4 m, ne_eqb _ 6 n)

  -- it is in two parts, of which the first is as it stands in the list
  module _ (n : length r ≡ 5) where
    head : take 2 r ≡ get_or r 0 0 ∷ get_or r 1 0 ∷ []
    head = rw (take-suc r 1 0 (omega arith), take-suc r 0 0 (omega arith))

    rest : take 3 (drop 2 r) ≡ get_or r 2 0 ∷ get_or r 3 0 ∷ get_or r 4 0 ∷ []
    rest = rw (drop-cons r 2 0 (omega arith), drop-cons r 3 0 (omega arith), drop-cons r 4 0 (omega arith))

    pub parts-four : get_or r 0 0 ≡ 4 → listed_in r ≡ take 2 r ++ (0 ∷ 0 ∷ 0 ∷ [])
    parts-four e = sym (listed-four e) ∙ rw (head, e)

    pub parts-six : get_or r 0 0 ≡ 6 → listed_in r ≡ take 2 r ++ take 3 (drop 2 r)
    parts-six e = sym (listed-six e) ∙ rw (head, rest, e)
