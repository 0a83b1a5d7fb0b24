-- Which turn a record's is, by what it is and the phase. Assumes nothing.
use Prim.Native.Nat.{ℕ, ◌≤◌}
use mathlib.Core.Path.{◌≡◌, ap, sym}
use mathlib.Core.Bool.{Bool, false}
use mathlib.Core.List.{List, []}
use lib.ListN.{length}
use borrow.Author.Tests.{eq-eqb, ne_eqb}
use Rattle.layout.specs.Table.{Table}
use Rattle.layout.specs.Words.{table_in, Valid}
use Rattle.answer_lines.proofs.Laws.{written_none}
use Rattle.turns.specs.declared.Phase.{Phase}
use Rattle.turns.specs.declared.Phase.TheVariants.{Start, Running, Ended}
use Rattle.turns.specs.Turns.{Turn, state_in, at_end, bad_turn, text_turn}
use Rattle.turns.specs.Steps.{Stepped}
use Rattle.turns.proofs.Laws.{stepped-as}
use Rattle.judgement.specs.Judgement.{first_of, judged_of}
use Rattle.judgement.specs.declared.Judged.{Judged}
use Rattle.records.specs.Records.{turn_of, judged_turn, turn_in}

-- the turn of what a record is
pub turn-of : (t : Table) (f : Bool) (k : ℕ) (p : List ℕ) (j : Judged) → judged_of f k p ≡ j → turn_of j t p ≡ judged_turn t f k p
turn-of t f k p j e = ap (λ (x : Judged). turn_of x t p) (sym e)

-- ---- which turn a record's is, by phase

module _ (h : Phase) (t : Table) (k : ℕ) (p : List ℕ) where
  pub turn-begin : h ≡ Start → k ≡ 0 → text_turn t p ≡ turn_in h t k p
  unfolding turn_in turn_of judged_of first_of
  turn-begin q e = rw (q, eq-eqb k 0 e)

  pub turn-none : h ≡ Start → (k ≡ 0 → ⊥) → bad_turn t ≡ turn_in h t k p
  unfolding turn_in turn_of judged_of first_of
  turn-none q e = rw (q, ne_eqb k 0 e)

  pub turn-later : h ≡ Running → judged_turn t false k p ≡ turn_in h t k p
  unfolding turn_in
  turn-later q = rw q

  -- the same, said of the record's turn
  pub turn_begun : h ≡ Start → k ≡ 0 → turn_in h t k p ≡ text_turn t p
  turn_begun q e = sym (turn-begin q e)

  pub turn_refused : h ≡ Start → (k ≡ 0 → ⊥) → turn_in h t k p ≡ bad_turn t
  turn_refused q e = sym (turn-none q e)

  pub turn_judged : h ≡ Running → turn_in h t k p ≡ judged_turn t false k p
  turn_judged q = sym (turn-later q)

-- the turn of a record before the end, by the phase and the kind
pub ruleset turn_by_phase = (turn_begun, turn_refused, turn_judged)

pub stepped-ended : (h : Phase) (v : List ℕ) (k : ℕ) (p d : List ℕ) (at : ℕ) → h ≡ Ended → at ≤ length d → Valid v
    → Stepped d at (turn_in h (table_in v) k p) (record { phase = h; at = at }) v d
unfolding turn_in
stepped-ended h v k p d at e l w =
    let q : ◌≡◌ {A = Turn} (record { line = []; next = at_end (table_in v) }) (turn_in h (table_in v) k p) = rw e in
    stepped-as (record { put = written_none d at l; next = ap (λ (f : Phase). state_in f v) e; kept = w }) q
