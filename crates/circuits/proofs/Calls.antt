-- Laws of the calls upon a table of A-D routes: which case of its definition each return of a call is, and that every call keeps a table right. Assumes nothing.
use Prim.Native.Nat.{ℕ, ◌≤◌, ◌<◌}
use native.Mathlib.Omega.{arith}
use mathlib.Core.Path.{◌≡◌, refl, ap, ◌∙◌, sym}
use mathlib.Core.Bool.{Bool, true, false, not, ◌||◌}
use mathlib.Core.List.{List, []}
use lib.ListN.{length, get_or, set}
use lib.Seq.{set-get_or}
use lib.Dec.{ltb, eqb}
use borrow.Author.Tests.{not-false, lt-ltb, le-ltb, ne_eqb, eqb-true}
use Rattle.lists.proofs.Bools.{cond-by}
use Rattle.lists.proofs.Checks.{refused-at, refused_none, refused-first, passed}
use Rattle.address.specs.Address.{IsAddress, is_zero}
use Rattle.keyed.specs.Keyed.{spliced, without_at, has, insert, remove}
use Rattle.keyed.proofs.Keyed as keyed
use Rattle.keyed.proofs.Order.{length-insert-room, length-remove-le}
use Rattle.rows.specs.Rows.{row_key, found_in}
use Rattle.std.specs.Prelude.{Ok, Err}
use Rattle.rows.proofs.Places.{found_at, found-missing, insert-at, insert-missing, remove-at}
use Rattle.circuit_layout.specs.declared.Scope.{Scope}
use Rattle.circuit_layout.specs.Circuits.{ad_row, reserved_scope, AdRoute, CircuitsRight}
use Rattle.circuits.specs.Changes.{ad_announce_number, ad_withdraw_number, AdChange, ad_changed, ad_announced, ad_withdrawn}
use Rattle.circuits.specs.Steps.{ad_refused}
use Rattle.refusals.proofs.Laws.{no-zero}
use Rattle.refusals.specs.Numbers.{refusal_number}
use Rattle.refusals.specs.declared.Refusal.{Refusal}

-- an answer by its number
alike : {n m : ℕ} (old new : List (List ℕ)) → n ≡ m → ad_changed n old new ≡ ad_changed m old new
alike old new e = rw e

refuses : {n m : ℕ} (old new : List (List ℕ)) → n ≡ m → (n ≡ 0 → ⊥) → record { number = n; routes = old } ≡ ad_changed m old new
refuses {n} old new e h = rw (← e, ne_eqb n 0 h)

abbrev pub answered : ℕ → List (List ℕ) → AdChange
answered n l = record { number = n; routes = l }

-- WHAT PASSED CHECKS SAY
pub not-refused : (s : Scope) (a : List ℕ) → ad_refused s a ≡ 0 → (is_zero a ≡ false) × (reserved_scope s ≡ false)
unfolding ad_refused
not-refused s a h = let p = passed _ refl h in (p.0, p.1.0)

module _ (s : Scope) (a : List ℕ) (p : Bool) (n : ℕ) (h : ad_announce_number s a p n ≡ 0) where
  pub passed-zero : is_zero a ≡ false
  unfolding ad_announce_number
  passed-zero = (passed _ refl h).0

  pub passed-tag : reserved_scope s ≡ false
  unfolding ad_announce_number
  passed-tag = (passed _ refl h).1.0

  pub passed-room : (p || ltb n 256) ≡ true
  unfolding ad_announce_number
  passed-room = not-false _ (passed _ refl h).1.1.0

-- THE CASES, where the routes l stand
module _ (l : List (List ℕ)) (w : CircuitsRight l) (s : Scope) (a : List ℕ) where
  abbrev row : List ℕ
  row = ad_row s a

  -- what is refused whatever the table holds
  pub announced-refused : (r : Refusal) {n : ℕ} → n ≡ refusal_number r → refusal_number r ≡ ad_refused s a → answered n l ≡ ad_announced l s a
  unfolding ad_announced ad_announce_number ad_refused
  announced-refused r q e = refuses l _ (q ∙ e ∙ refused-first _ _ (λ z. no-zero r (e ∙ z))) (λ z. no-zero r (sym q ∙ z))

  pub withdrawn-refused : (r : Refusal) {n : ℕ} → n ≡ refusal_number r → refusal_number r ≡ ad_refused s a → answered n l ≡ ad_withdrawn l s a
  unfolding ad_withdrawn ad_withdraw_number ad_refused
  withdrawn-refused r q e = refuses l _ (q ∙ e ∙ refused-first _ _ (λ z. no-zero r (e ∙ z))) (λ z. no-zero r (sym q ∙ z))

  module _ (z : is_zero a ≡ false) where
    module _ (t : reserved_scope s ≡ false) (i : ℕ) where
      -- the route that is found is the one announced, and nothing changes
      pub announced-at : found_in row_key (row_key row) l ≡ Ok i → get_or l i [] ≡ row → answered 0 l ≡ ad_announced l s a
      unfolding ad_announced ad_announce_number
      announced-at h e =
          let f = found_at row_key (row_key row) l i h in
          let same : insert row_key row l ≡ l = insert-at row_key (row_key row) l 0 [] w.rising row i refl h ∙ ap (set l i) (sym e) ∙ set-get_or l i [] in
          rw same (alike l _ (refused_none _ (z, (t, (ap (λ (b : Bool). not (b || ltb (length l) 256)) f.0, tt)))))

      pub announced-full : found_in row_key (row_key row) l ≡ Err i → 256 ≤ length l → answered 8 l ≡ ad_announced l s a
      unfolding ad_announced ad_announce_number
      announced-full h k = alike l _ (refused-at 2 _ (z, (t, tt)) (rw ((found-missing row_key (row_key row) l i h).0, le-ltb _ _ k)))

      pub announced-new : found_in row_key (row_key row) l ≡ Err i → length l < 256 → answered 0 (spliced l i row) ≡ ad_announced l s a
      unfolding ad_announced ad_announce_number
      announced-new h k =
          let f = found-missing row_key (row_key row) l i h in
          rw (← insert-missing row_key (row_key row) l row [] i refl h) (alike l _ (refused_none _ (z, (t, (rw (f.0, lt-ltb _ _ k), tt)))))

      pub withdrawn-missing : found_in row_key (row_key row) l ≡ Err i → answered 9 l ≡ ad_withdrawn l s a
      unfolding ad_withdrawn ad_withdraw_number
      withdrawn-missing h = alike l _ (refused-at 2 _ (z, (t, tt)) (ap not (found-missing row_key (row_key row) l i h).0))

      pub withdrawn-at : found_in row_key (row_key row) l ≡ Ok i → answered 0 (without_at l i) ≡ ad_withdrawn l s a
      unfolding ad_withdrawn ad_withdraw_number
      withdrawn-at h =
          let f = found_at row_key (row_key row) l i h in
          rw (← remove-at row_key (row_key row) l 0 [] w.rising i h) (alike l _ (refused_none _ (z, (t, (ap not f.0, tt)))))

  -- EVERY CALL KEEPS A TABLE RIGHT
  chosen-kept : (n : ℕ) (new : List (List ℕ)) → (n ≡ 0 → CircuitsRight new) → CircuitsRight (ad_changed n l new).routes
  chosen-kept n new f = cond-by CircuitsRight (eqb n 0) (λ e. f (eqb-true n 0 e)) (λ _. w)

  pub announced-kept : IsAddress a → CircuitsRight (ad_announced l s a).routes
  unfolding ad_announced
  announced-kept g =
      let p = has row_key (row_key row) l in
      chosen-kept (ad_announce_number s a p (length l)) (insert row_key row l) (λ h.
      record {
        short = length-insert-room row_key row [] l 0 256 w.rising w.short (passed-room s a p (length l) h);
        rising = keyed.rising-insert row_key row l 0 (omega arith) w.rising;
        routes = keyed.every-insert row_key AdRoute row l (record { scope = s; address = a; row = refl; tag = passed-tag s a p (length l) h; right = g; nonzero = passed-zero s a p (length l) h }) w.routes;
      })

  pub withdrawn-kept : CircuitsRight (ad_withdrawn l s a).routes
  unfolding ad_withdrawn
  withdrawn-kept =
      chosen-kept (ad_withdraw_number s a (has row_key (row_key row) l)) (remove row_key (row_key row) l) (λ h.
      record {
        short = omega (arith, length-remove-le row_key (row_key row) l, w.short);
        rising = keyed.rising-remove row_key (row_key row) l 0 w.rising;
        routes = keyed.every-remove row_key AdRoute (row_key row) l w.routes;
      })
