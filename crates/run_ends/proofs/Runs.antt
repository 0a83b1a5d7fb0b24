-- Laws of the run, by what stands at its front, and of its end. Assumes nothing.
use Prim.Native.Nat.{ℕ, zero, suc, ◌+◌, ◌≤◌}
use native.Mathlib.Omega.{arith}
use mathlib.Core.Path.{◌≡◌, refl, ap, ◌∙◌, sym}
use mathlib.Core.Bool.{Bool, true, false, cond, false≢true}
use mathlib.Core.List.{List, [], ◌∷◌, ◌++◌}
use lib.ListN.{replicate, length, take, drop, length-append}
use borrow.Author.Tests.{eq-eqb, ne_eqb}
use Rattle.octets.specs.Octets.{stored}
use Rattle.octets.proofs.Laws.{stored-front}
use Rattle.layout.specs.Table.{Table}
use Rattle.table.specs.Table.{fresh_table, Told}
use Rattle.frames.specs.Frames.{Front, nothing, bad, cut, whole, front}
use Rattle.frames.proofs.Laws.{WholeAt, cut-begun, nothing-empty, whole-record, whole_append, bad-append}
use Rattle.lines.specs.Lines.{Put, position_after}
use Rattle.lines.proofs.Laws.{put-made}
use Rattle.turns.specs.declared.Phase.{Phase}
use Rattle.turns.specs.declared.Phase.TheVariants.{Start}
use Rattle.answer_lines.specs.AnswerLines.{bad_line}
use Rattle.turns.specs.Turns.{Bench, state_in}
use Rattle.run_ends.specs.Parts.{is_part}
use Rattle.records.specs.Records.{turn, is_end, has_ended, before, run_for, run_from, first, run_of, end_of}

-- ---- the start

-- the state of a phase and a table
abbrev in_phase : Phase → Table → Bench
in_phase f t = record { phase = f; table = t }

-- the state at the start
pub started : (y : List ℕ) {m : ℕ} → Told (fresh_table (replicate 10 0)) m 0 y → state_in Start y ≡ first
unfolding first
started y {m} f = ap (in_phase Start) f.2

pub run-first : {b : Bench} → b ≡ first → (s : List ℕ) → run_from b s ≡ run_of s
unfolding run_of
run-first e s = ap (λ (b : Bench). run_from b s) e

-- ---- the front of the input

either : (t : Bool) (l : List ℕ) → cond t l l ≡ l
either true l = refl
either false l = refl

-- at the end of the input nothing is printed, nor after the end of the run
run_for-nothing : (n : ℕ) (b : Bench) → run_for n b [] ≡ []
unfolding run_for before front
run_for-nothing zero b = refl
run_for-nothing (suc n) b = either (has_ended b) []

run_for-ended : (n : ℕ) (b : Bench) (s : List ℕ) → has_ended b ≡ true → run_for n b s ≡ []
unfolding run_for
run_for-ended zero b s h = refl
run_for-ended (suc n) b s h = rw h

-- a whole record has at least four octets
pub whole-shorter : (s : List ℕ) {k : ℕ} {p r : List ℕ} → front s ≡ whole k p r → length r + 4 ≤ length s
whole-shorter s {k} {p} {r} e = omega (arith, ap length (whole-record s e), length-append p r)

before_same : (b : Bench) (go ho : Bench → List ℕ → List ℕ) (f : Front)
    → ((k : ℕ) (p r : List ℕ) → f ≡ whole k p r → (c : Bench) → go c r ≡ ho c r) → before b f go ≡ before b f ho
unfolding before
before_same b go ho nothing h = refl
before_same b go ho bad h = refl
before_same b go ho cut h = refl
before_same b go ho (whole k p r) h = ap ((turn b k p).line ++◌) (h k p r refl (turn b k p).next)

-- more turns than octets do not matter
run_for-enough : (n m : ℕ) (b : Bench) (s : List ℕ) → length s ≤ n → length s ≤ m → run_for n b s ≡ run_for m b s
unfolding run_for
run_for-enough zero m b [] h l = sym (run_for-nothing m b)
run_for-enough zero m b (x ∷ s) h l = absurd (omega arith)
run_for-enough (suc n) zero b [] h l = run_for-nothing (suc n) b
run_for-enough (suc n) zero b (x ∷ s) h l = absurd (omega arith)
run_for-enough (suc n) (suc m) b s h l =
    ap (cond (has_ended b) [])
    (before_same b (run_for n) (run_for m) (front s) (λ k p r e c. let q = whole-shorter s e in run_for-enough n m c r (omega arith) (omega arith)))

pub run-ended : (b : Bench) (s : List ℕ) → has_ended b ≡ true → run_from b s ≡ []
unfolding run_from
run-ended b s h = run_for-ended (length s) b s h

run-nothing : (b : Bench) → run_from b [] ≡ []
unfolding run_from
run-nothing b = run_for-nothing 0 b

-- a whole record: its line, then the run on what follows it
run-whole : (b : Bench) (s : List ℕ) {k : ℕ} {p r : List ℕ} → has_ended b ≡ false → front s ≡ whole k p r
    → run_from b s ≡ (turn b k p).line ++ run_from (turn b k p).next r
unfolding run_from run_for before
run-whole b [] h e = absurd (omega (arith, whole-shorter [] e))
run-whole b (x ∷ s) {k} {p} {r} h e =
    let q = whole-shorter (x ∷ s) e in
    rw (h, e) (ap ((turn b k p).line ++◌) (run_for-enough (length s) (length r) (turn b k p).next r (omega arith) (omega arith)))

-- a bad or cut record: the line `x 16`, and no more
run-bad : (b : Bench) (s : List ℕ) → has_ended b ≡ false → front s ≡ bad → run_from b s ≡ bad_line
unfolding run_from run_for before front
run-bad b [] h e = let z : ◌≡◌ {A = ℕ} 0 1 = cc in absurd (omega arith)
run-bad b (x ∷ s) h e = rw (h, e)

run-cut : (b : Bench) (s : List ℕ) → has_ended b ≡ false → front s ≡ cut → run_from b s ≡ bad_line
unfolding run_from run_for before front
run-cut b [] h e = let z : ◌≡◌ {A = ℕ} 0 1 = cc in absurd (omega arith)
run-cut b (x ∷ s) h e = rw (h, e)

-- ---- with octets that follow

-- a whole record at a position
pub run-whole-at : (b : Bench) (s rest : List ℕ) {at k start len : ℕ} → has_ended b ≡ false → WholeAt s at k start len
    → run_from b (drop at s ++ rest) ≡ (turn b k (take len (drop start s))).line ++ run_from (turn b k (take len (drop start s))).next (drop (start + len) s ++ rest)
run-whole-at b s rest {at} h f = run-whole b (drop at s ++ rest) h (whole_append (drop at s) rest f.stands)

-- a bad record
pub run-spoilt : (b : Bench) (s rest : List ℕ) → has_ended b ≡ false → front s ≡ bad → run_from b (s ++ rest) ≡ bad_line
run-spoilt b s rest h e = run-bad b (s ++ rest) h (bad-append s rest e)

-- ---- the end of the input

module _ (f : Phase) (s : List ℕ) where
  pub end-ended : is_end f ≡ true → end_of f s ≡ []
  unfolding end_of
  end-ended h = rw h

  pub end_empty : length s ≡ 0 → end_of f s ≡ []
  unfolding end_of
  end_empty h = rw (eq-eqb (length s) 0 h) (either (is_end f) [])

  pub end-left : is_end f ≡ false → (length s ≡ 0 → ⊥) → end_of f s ≡ bad_line
  unfolding end_of
  end-left h n = rw (h, ne_eqb (length s) 0 n)

-- what is no whole record: the run's end is what `end_of` says
pub run-end-nothing : (b : Bench) (s : List ℕ) → front s ≡ nothing → run_from b s ≡ end_of b.phase s
run-end-nothing b s e =
    let q = nothing-empty s e in
    ap (run_from b) q ∙ run-nothing b ∙ sym (end_empty b.phase s (ap length q))

pub run-end-cut : (b : Bench) (s : List ℕ) → has_ended b ≡ false → front s ≡ cut → run_from b s ≡ end_of b.phase s
run-end-cut b s h e = run-cut b s h e ∙ sym (end-left b.phase s h (λ z. let l = (cut-begun s e).begun in omega arith))

-- no octets put at the front of a buffer
pub put-none : (d : List ℕ) → Put d 0 [] 0 d
put-none d = put-made (omega arith) refl (sym (stored-front d [] (omega arith)))

-- ---- where the input ends

-- what may still become a record prints what `end_of` says if nothing follows
end-part : (b : Bench) (s : List ℕ) (f : Front) → has_ended b ≡ false → front s ≡ f → is_part f ≡ true → run_from b s ≡ end_of b.phase s
unfolding is_part
end-part b s nothing h e p = run-end-nothing b s e
end-part b s bad h e p = absurd (false≢true p)
end-part b s cut h e p = run-end-cut b s h e
end-part b s (whole k l r) h e p = absurd (false≢true p)

pub end-of-part : (b : Bench) (s : List ℕ) → is_part (front s) ≡ true → run_from b s ≡ end_of b.phase s
end-of-part b s p = by_end (has_ended b) refl
  where
    by_end : (t : Bool) → has_ended b ≡ t → run_from b s ≡ end_of b.phase s
    by_end true h = run-ended b s h ∙ sym (end-ended b.phase s h)
    by_end false h = end-part b s (front s) h refl p

-- where a run ends: no octets are printed, and none stored
pub nothing_after : (d l : List ℕ) → l ≡ [] → position_after d 0 l ≡ 0
nothing_after d l e = rw e (sym (put-none d).position)

pub nothing_stored : (d l : List ℕ) → l ≡ [] → stored d 0 l ≡ d
nothing_stored d l e = rw e (sym (put-none d).buffer)

pub run_part : (f : Phase) (t : Table) (s : List ℕ) → is_part (front s) ≡ true → run_from (record { phase = f; table = t }) s ≡ end_of f s
run_part f t s = end-of-part (in_phase f t) s

-- what shows that `finish` meets its contract
pub ruleset finishing = (end-ended, end_empty, end-left, nothing_after, nothing_stored, run_part)
