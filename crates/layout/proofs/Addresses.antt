-- What the words of an address in a table say of it. Assumes nothing.
use Prim.Native.Nat.{ℕ, suc, ◌+◌, ◌*◌, ◌%◌, ◌^◌, ◌≤◌, ◌<◌}
use native.Mathlib.Omega.{arith}
use native.Mathlib.Nat.{mod-eq_of_lt}
use mathlib.Core.Path.{◌≡◌, refl, ap, ◌∙◌, sym}
use mathlib.Core.List.{List, [], ◌∷◌}
use mathlib.Core.Logic.{◌⊎◌, ◌≢◌}
use lib.ListN.{length, get_or}
use Rattle.lists.proofs.Lists.{every_in}
use Rattle.rows.specs.Rows.{row_key}
use Rattle.rows.proofs.Compared.{Words, key-less, words-part}
use Rattle.keyed.proofs.Keyed as keyed
use Rattle.address.specs.Address.{IsAddress, ipv4, ipv6, family_of, address_words, address_key, address_number}
use Rattle.address.proofs.Laws as address
use Rattle.address.proofs.Laws.{names-address, words-after}
use Rattle.layout.specs.Table.{entry_key, no_entry, AddressRight}
use Rattle.layout.specs.Words.{table_in, Valid}
use Rattle.layout.proofs.Words.{address-row, address_word}

-- AN ADDRESS
-- the low 32 bits of an address are its first word or its last
low-four : (r : List ℕ) → IsAddress r → Words r → family_of r ≡ 4 → get_or r 1 0 ≡ address_number r % 2 ^ 32
unfolding address_number family_of
low-four r (ipv4 a e) o f = let l = o 1 in rw e (sym (mod-eq_of_lt (omega (arith, rw e at l))))
low-four r (ipv6 a b c d e) o f = let n = rw e at f in absurd (omega arith)

low-six : (r : List ℕ) → IsAddress r → Words r → (family_of r ≡ 4 → ⊥) → get_or r 4 0 ≡ address_number r % 2 ^ 32
unfolding address_number family_of row_key
low-six r (ipv4 a e) o f = absurd (f (ap (λ (s : List ℕ). get_or s 0 0) e))
low-six r (ipv6 a b c d e) o f = let l = o 4 in let k : d < 4294967296 = rw e at l in rw e (omega (arith, k))

-- a family is the top of the key, so it rises with the keys
family-rises : (r s : List ℕ) → IsAddress r → IsAddress s → Words s → address_key r < address_key s → family_of r ≤ family_of s
unfolding family_of address_key
family-rises r s (ipv4 a e) (ipv4 x f) o l = rw (e, f) (omega arith)
family-rises r s (ipv4 a e) (ipv6 x y z w f) o l = rw (e, f) (omega arith)
family-rises r s (ipv6 a b c d e) (ipv4 x f) o l =
    let k = key-less 4 6 (x ∷ 0 ∷ 0 ∷ 0 ∷ []) (a ∷ b ∷ c ∷ d ∷ []) refl (omega arith) (λ i. (rw f at o) (suc i)) in
    absurd (omega (arith, k, rw (e, f) at l))
family-rises r s (ipv6 a b c d e) (ipv6 x y z w f) o l = rw (e, f) (omega arith)

module _ (b : List ℕ) (h : Valid b) (i : ℕ) (l : i < length (table_in b).entries) where
  abbrev r : List ℕ
  r = (get_or (table_in b).entries i no_entry).address

  is_address : IsAddress r
  is_address = (every_in AddressRight (table_in b).entries i no_entry h.sound.addresses l).0

  pub family-word : get_or b (5 * i) 0 ≡ family_of r
  unfolding family_of
  family-word = let n : 5 * i ≡ 5 * i + 0 = omega arith in ap (λ (m : ℕ). get_or b m 0) n ∙ address_word b h i l 0 (omega arith)

  pub family-small : get_or b (5 * i) 0 < 256
  family-small = let n : 5 * i ≡ 5 * i + 0 = omega arith in rw (n, address_word b h i l 0 (omega arith)) (address.family-small r is_address)

  pub family-either : (family_of r ≡ 4) ⊎ (family_of r ≡ 6)
  unfolding family_of
  family-either = names-address r is_address

  pub words-in : Words b → Words r
  words-in o = rw (← address-row b h i l) (words-part 5 (i * 5) b o)

  pub low_first : Words b → family_of r ≡ 4 → get_or b (5 * i + 1) 0 ≡ address_number r % 2 ^ 32
  low_first o f = address_word b h i l 1 (omega arith) ∙ low-four r is_address (words-in o) f

  pub low-last : Words b → (family_of r ≡ 4 → ⊥) → get_or b (5 * i + 4) 0 ≡ address_number r % 2 ^ 32
  low-last o f = address_word b h i l 4 (omega arith) ∙ low-six r is_address (words-in o) f

  -- the same, as a family handed in tells them apart; what is told of the words is their size alone
  pub first_word_low : ((j : ℕ) → get_or b j 0 < 2 ^ 32) → family_of r ≡ 4 → address_number r % 2 ^ 32 ≡ get_or b (5 * i + 1) 0
  first_word_low o f = sym (low_first (λ j. o j) f)

  pub last_word_low : ((j : ℕ) → get_or b j 0 < 2 ^ 32) → (family_of r ≢ 4) → address_number r % 2 ^ 32 ≡ get_or b (5 * i + 4) 0
  last_word_low o f = sym (low-last (λ j. o j) f)

  pub four-words : get_or b (5 * i + 1) 0 ∷ get_or b (5 * i + 2) 0 ∷ get_or b (5 * i + 3) 0 ∷ get_or b (5 * i + 4) 0 ∷ [] ≡ address_words r
  unfolding address_words
  four-words =
      rw (address_word b h i l 1 (omega arith), address_word b h i l 2 (omega arith), address_word b h i l 3 (omega arith), address_word b h i l 4 (omega arith)) (words-after r is_address)

-- THE ADDRESSES at places that rise are of families that do not fall
module _ (b : List ℕ) (h : Valid b) (o : Words b) where
  pub families-rise : (i j : ℕ) → i < j → j < length (table_in b).entries → family_of (get_or (table_in b).entries i no_entry).address ≤ family_of (get_or (table_in b).entries j no_entry).address
  families-rise i j g l = family-rises _ _ (is_address b h i (omega arith)) (is_address b h j l) (words-in b h j l o) (keyed.rising-pairs entry_key (table_in b).entries 1 no_entry h.sound.rising i j g l)

-- the low word of an address, by its family
pub ruleset low_words = (first_word_low, last_word_low)
