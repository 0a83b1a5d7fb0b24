-- Laws of the words of a table's identifier: three words written, read as ten octets, and compared with others. Assumes nothing.
use Prim.Native.Nat.{ℕ, ◌+◌}
use native.Mathlib.Omega.{arith}
use mathlib.Core.Path.{◌≡◌, refl, ap, ◌∙◌, sym}
use mathlib.Core.Bool.{Bool, true, false}
use mathlib.Core.List.{List, [], ◌∷◌, ◌++◌}
use lib.ListN.{length, get_or, set, take, drop, length-drop, take-append-drop}
use lib.Seq.{get_or-drop, length-take-le}
use lib.Dec.{eqb}
use borrow.Author.Tests.{eqb-true, eq-eqb}
use Rattle.lists.proofs.Bools.{by-test, true-false}
use Rattle.lists.proofs.Lists.{set-append-add}
use Rattle.octets.specs.Octets.{same_numbers}
use Rattle.octets.proofs.Laws.{same_of, same-differ}
use Rattle.octet_words.specs.Words.{low_first, low_octets}
use Rattle.layout.specs.Words.{identifier_words, identifier_in, table_in, Octets, Valid}
use Rattle.layout.proofs.Words.{esi-words, identifier-back}

-- three words written over three
over : (l : List ℕ) (a b c : ℕ) → length l ≡ 3 → set (set (set l 0 a) 1 b) 2 c ≡ a ∷ b ∷ c ∷ []
over [] a b c n = absurd (omega arith)
over (x ∷ []) a b c n = absurd (omega arith)
over (x ∷ y ∷ []) a b c n = absurd (omega arith)
over (x ∷ y ∷ z ∷ []) a b c n = refl
over (x ∷ y ∷ z ∷ w ∷ l) a b c n = absurd (omega arith)

-- three words written at the end of 388
pub written : (d : List ℕ) (a b c : ℕ) → length d ≡ 388 → set (set (set d 385 a) 386 b) 387 c ≡ take 385 d ++ (a ∷ b ∷ c ∷ [])
written d a b c n =
    let x = take 385 d in
    let y = drop 385 d in
    let m : length x ≡ 385 = length-take-le 385 d (omega arith) in
    ap (λ (s : List ℕ). set (set (set s 385 a) 386 b) 387 c) (sym (take-append-drop 385 d))
    ∙ ap (λ (s : List ℕ). set (set s 386 b) 387 c) (set-append-add x y 385 0 a m)
    ∙ ap (λ (s : List ℕ). set s 387 c) (set-append-add x (set y 0 a) 385 1 b m)
    ∙ set-append-add x (set (set y 0 a) 1 b) 385 2 c m
    ∙ ap (λ (s : List ℕ). x ++ s) (over y a b c (rw length-drop (omega arith)))

-- the words of an identifier, as they are written
pub words_of : (i : List ℕ) (a b c : ℕ) → a ≡ low_first (take 4 (drop 0 i)) → b ≡ low_first (take 4 (drop 4 i)) → c ≡ low_first (take 2 (drop 8 i)) → a ∷ b ∷ c ∷ [] ≡ identifier_words i
unfolding identifier_words
words_of i a b c p q r = rw (p, q, r)

module _ (b : List ℕ) (h : Valid b) where
  word : (k : ℕ) → get_or (drop 385 b) k 0 ≡ get_or b (385 + k) 0
  word k = get_or-drop 385 b k 0

  -- the octets that are read
  pub read : (x y z : List ℕ) → x ≡ low_octets 4 (get_or b 385 0) → y ≡ low_octets 4 (get_or b 386 0) → z ≡ low_octets 4 (get_or b 387 0)
      → get_or x 0 0 ∷ get_or x 1 0 ∷ get_or x 2 0 ∷ get_or x 3 0 ∷ get_or y 0 0 ∷ get_or y 1 0 ∷ get_or y 2 0 ∷ get_or y 3 0 ∷ get_or z 0 0 ∷ get_or z 1 0 ∷ [] ≡ (table_in b).esi
  unfolding table_in identifier_in low_octets
  read x y z p q r = rw (p, q, r, word 0, word 1, word 2)

  module _ (i : List ℕ) where
    abbrev Same : Bool → Type 0
    Same s = s ≡ same_numbers (table_in b).esi i

    -- a word that differs
    differs : (k w : ℕ) → get_or (identifier_words i) k 0 ≡ w → (get_or b (385 + k) 0 ≡ w → ⊥) → Same false
    differs k w q d =
        sym (same-differ (table_in b).esi i (λ e. d (sym (word k) ∙ ap (λ (s : List ℕ). get_or s k 0) (esi-words b h ∙ ap identifier_words e) ∙ q)))

    pub first-differs : (w : ℕ) → w ≡ low_first (take 4 (drop 0 i)) → (get_or b 385 0 ≡ w → ⊥) → Same false
    unfolding identifier_words
    first-differs w e d = differs 0 w (sym e) d

    pub second-differs : (w : ℕ) → w ≡ low_first (take 4 (drop 4 i)) → (get_or b 386 0 ≡ w → ⊥) → Same false
    unfolding identifier_words
    second-differs w e d = differs 1 w (sym e) d

    third-differs : (w : ℕ) → w ≡ low_first (take 2 (drop 8 i)) → (get_or b 387 0 ≡ w → ⊥) → Same false
    unfolding identifier_words
    third-differs w e d = differs 2 w (sym e) d

    -- all three are equal
    equal : length i ≡ 10 → Octets i → get_or b 385 0 ≡ low_first (take 4 i) → get_or b 386 0 ≡ low_first (take 4 (drop 4 i)) → get_or b 387 0 ≡ low_first (take 2 (drop 8 i)) → Same true
    unfolding table_in identifier_in identifier_words
    equal n o p q r = sym (same_of (rw (word 0, word 1, word 2, p, q, r) (identifier-back i n o)))

    -- the first two are equal: the third decides
    pub third-decides : length i ≡ 10 → Octets i → get_or b 385 0 ≡ low_first (take 4 i) → get_or b 386 0 ≡ low_first (take 4 (drop 4 i)) → (w : ℕ) → w ≡ low_first (take 2 (drop 8 i)) → Same (eqb (get_or b 387 0) w)
    third-decides n o p q w e =
        by-test (eqb (get_or b 387 0) w)
        (λ t. t ∙ equal n o p q (eqb-true (get_or b 387 0) w t ∙ e))
        (λ f. f ∙ third-differs w e (λ s. true-false (eq-eqb (get_or b 387 0) w s) f))
