-- Laws of the calls over a table's words: what each return answers and leaves, and that the words stay a table's. Assumes nothing.
use Prim.Native.Nat.{ℕ, ◌*◌}
use native.Mathlib.Omega.{arith}
use mathlib.Core.Path.{◌≡◌, refl, ap, ◌∙◌, sym, subst}
use mathlib.Core.List.{List, []}
use lib.ListN.{length, get_or, replicate}
use Rattle.lists.specs.Lists.{Every}
use Rattle.address.specs.Address.{IsAddress}
use Rattle.address.proofs.Laws.{key-injective, key_row}
use Rattle.keyed.specs.Keyed.{Rising}
use Rattle.rows.specs.Rows.{column, flat, row_key, found_in}
use Rattle.std.specs.Prelude.{Ok}
use Rattle.rows.proofs.Compared.{Words, words-part}
use Rattle.rows.proofs.Places.{present-at}
use Rattle.circuit_layout.specs.declared.Scope.{Scope}
use Rattle.circuit_layout.specs.Circuits.{ad_row, CircuitsRight, circuit_words, circuits_in, ValidCircuits}
use Rattle.circuit_layout.proofs.Words.{read_back, valid-of, route-row, length_at}
use Rattle.circuits.specs.Changes.{AdChange, ad_announced, ad_withdrawn, AdTold}
use Rattle.circuits.proofs.Calls.{answered, announced-kept, withdrawn-kept}

-- FRESH
none_right : CircuitsRight []
unfolding Rising Every
none_right = record { short = omega arith; rising = tt; routes = tt }

zero-words : circuit_words [] ≡ replicate 1793 0
unfolding circuit_words column flat
zero-words = refl

pub fresh-told : (circuits_in (replicate 1793 0) ≡ []) × ValidCircuits (replicate 1793 0)
fresh-told = (ap circuits_in (sym zero-words) ∙ read_back [] none_right, subst ValidCircuits zero-words (valid-of [] none_right))

-- THE WORDS b OF A TABLE
module _ (b : List ℕ) (h : ValidCircuits b) where
  abbrev l : List (List ℕ)
  l = circuits_in b

  abbrev Tells : AdChange → ℕ → List ℕ → Type 0
  Tells c n x = AdTold c n x × ValidCircuits x

  -- the table is left as it was
  pub left_alone : (c : AdChange) (n : ℕ) → answered n l ≡ c → Tells c n b
  left_alone c n e = ((ap (λ (y : AdChange). y.number) e, ap (λ (y : AdChange). y.routes) e), h)

  stored : (c : AdChange) (m : List (List ℕ)) (x : List ℕ) → answered 0 m ≡ c → CircuitsRight c.routes → x ≡ circuit_words m → Tells c 0 x
  stored c m x e k q =
      let r : x ≡ circuit_words c.routes = q ∙ ap (λ (y : AdChange). circuit_words y.routes) e in
      ((ap (λ (y : AdChange). y.number) e, ap circuits_in r ∙ read_back c.routes k), subst ValidCircuits (sym r) (valid-of c.routes k))

  module _ (s : Scope) (a : List ℕ) where
    pub announced-stored : (m : List (List ℕ)) (x : List ℕ) → IsAddress a → answered 0 m ≡ ad_announced l s a → x ≡ circuit_words m → Tells (ad_announced l s a) 0 x
    announced-stored m x g e q = stored (ad_announced l s a) m x e (announced-kept l h.sound s a g) q

    pub withdrawn-stored : (m : List (List ℕ)) (x : List ℕ) → answered 0 m ≡ ad_withdrawn l s a → x ≡ circuit_words m → Tells (ad_withdrawn l s a) 0 x
    withdrawn-stored m x e q = stored (ad_withdrawn l s a) m x e (withdrawn-kept l h.sound s a) q

    -- the route that is found stands there already
    pub same_route : (i : ℕ) → length (ad_row s a) ≡ 7 → Words (ad_row s a) → Words b → found_in row_key (row_key (ad_row s a)) l ≡ Ok i → get_or l i [] ≡ ad_row s a
    same_route i n u v f =
        let p = present-at row_key (row_key (ad_row s a)) l 0 [] h.sound.rising i f in
        let r = get_or l i [] in
        key-injective r (ad_row s a) (length_at b h i p.0 ∙ sym n) (rw (← route-row b h i p.0) (words-part 7 (i * 7) b v)) u (sym (key_row r) ∙ p.1 ∙ key_row (ad_row s a))
