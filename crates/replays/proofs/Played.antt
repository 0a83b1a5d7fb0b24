-- Laws of what a run of records prints and leaves: it prints what the run prints; a record at the front goes first; and what follows a log that has not ended goes on from its state. Assumes nothing.
use Prim.Native.Nat.{ℕ, zero, suc, ◌≤◌}
use native.Mathlib.Nat.{le_refl}
use native.Mathlib.Omega.{arith}
use mathlib.Core.Path.{◌≡◌, refl, ap, ◌∙◌, sym}
use mathlib.Core.Bool.{Bool, true, false, cond}
use mathlib.Core.List.{List, [], ◌∷◌, ◌++◌, append_assoc}
use lib.ListN.{length}
use Rattle.lists.proofs.Bools.{true-false}
use Rattle.layout.specs.Table.{Table}
use Rattle.frames.specs.Frames.{Front, nothing, bad, cut, whole, front, record_of}
use Rattle.frames.proofs.Laws.{nothing-empty, whole_append, front-record}
use Rattle.turns.specs.Turns.{Bench, Turn, running}
use Rattle.records.specs.Records.{turn, has_ended, is_end, before, run_for, run_from, first, run_of}
use Rattle.run_ends.proofs.Runs.{whole-shorter}
use Rattle.replays.specs.Played.{Played, played_on, played_for, played_from, played, Leaves, AnswersAlike}

-- what is printed first, and then what is played
abbrev pub printed : List ℕ → Played → Played
printed l p = record { lines = l ++ p.lines; state = p.state }

either : (t : Bool) (p : Played) → cond t p p ≡ p
either true p = refl
either false p = refl

-- WHAT IS PRINTED IS THE RUN
lines-on : (b : Bench) (f : Front) (go : Bench → List ℕ → Played) (ho : Bench → List ℕ → List ℕ) → ((c : Bench) (r : List ℕ) → (go c r).lines ≡ ho c r) → (played_on b f go).lines ≡ before b f ho
unfolding played_on before
lines-on b nothing go ho h = refl
lines-on b bad go ho h = refl
lines-on b cut go ho h = refl
lines-on b (whole k p r) go ho h = ap ((turn b k p).line ++◌) (h (turn b k p).next r)

lines-for : (n : ℕ) (b : Bench) (s : List ℕ) → (played_for n b s).lines ≡ run_for n b s
unfolding played_for run_for
lines-for zero b s = refl
lines-for (suc n) b s = by_end (has_ended b) (lines-on b (front s) (played_for n) (run_for n) (lines-for n))
  where
    by_end : (t : Bool) → (played_on b (front s) (played_for n)).lines ≡ before b (front s) (run_for n)
        → (cond t (record { lines = []; state = b }) (played_on b (front s) (played_for n))).lines ≡ cond t [] (before b (front s) (run_for n))
    by_end true e = refl
    by_end false e = e

lines_from : (b : Bench) (s : List ℕ) → (played_from b s).lines ≡ run_from b s
unfolding played_from run_from
lines_from b s = lines-for (length s) b s

pub lines-run : (s : List ℕ) → (played s).lines ≡ run_of s
unfolding played run_of
lines-run s = lines_from first s

-- MORE TURNS THAN OCTETS do not matter
for-nothing : (n : ℕ) (b : Bench) → played_for n b [] ≡ record { lines = []; state = b }
unfolding played_for played_on front
for-nothing zero b = refl
for-nothing (suc n) b = either (has_ended b) (record { lines = []; state = b })

on_same : (b : Bench) (go ho : Bench → List ℕ → Played) (f : Front) → ((k : ℕ) (p r : List ℕ) → f ≡ whole k p r → (c : Bench) → go c r ≡ ho c r) → played_on b f go ≡ played_on b f ho
unfolding played_on
on_same b go ho nothing h = refl
on_same b go ho bad h = refl
on_same b go ho cut h = refl
on_same b go ho (whole k p r) h = ap (printed (turn b k p).line) (h k p r refl (turn b k p).next)

for-enough : (n m : ℕ) (b : Bench) (s : List ℕ) → length s ≤ n → length s ≤ m → played_for n b s ≡ played_for m b s
unfolding played_for
for-enough zero m b [] h l = sym (for-nothing m b)
for-enough zero m b (x ∷ s) h l = absurd (omega arith)
for-enough (suc n) zero b [] h l = for-nothing (suc n) b
for-enough (suc n) zero b (x ∷ s) h l = absurd (omega arith)
for-enough (suc n) (suc m) b s h l =
    ap (cond (has_ended b) (record { lines = []; state = b }))
    (on_same b (played_for n) (played_for m) (front s) (λ k p r e c. let q = whole-shorter s e in for-enough n m c r (omega arith) (omega arith)))

-- BY WHAT STANDS AT THE FRONT
pub from_nothing : (b : Bench) → played_from b [] ≡ record { lines = []; state = b }
unfolding played_from
from_nothing b = for-nothing 0 b

from-whole : (b : Bench) (s : List ℕ) {k : ℕ} {p r : List ℕ} → has_ended b ≡ false → front s ≡ whole k p r → played_from b s ≡ printed (turn b k p).line (played_from (turn b k p).next r)
unfolding played_from played_for played_on
from-whole b [] h e = absurd (omega (arith, whole-shorter [] e))
from-whole b (x ∷ s) {k} {p} {r} h e =
    let q = whole-shorter (x ∷ s) e in
    rw (h, e) (ap (printed (turn b k p).line) (for-enough (length s) (length r) (turn b k p).next r (omega arith) (omega arith)))

-- a record, and then octets r
pub from-record : (b : Bench) (k : ℕ) (p r : List ℕ) → has_ended b ≡ false → played_from b (record_of k p ++ r) ≡ printed (turn b k p).line (played_from (turn b k p).next r)
from-record b k p r h = from-whole b (record_of k p ++ r) h (front-record k p r)

-- WHAT FOLLOWS A LOG goes on from its state
module _ (c : List ℕ) where
  Goes : Bench → List ℕ → Played → Type 0
  Goes b s p = has_ended p.state ≡ false → played_from b (s ++ c) ≡ printed p.lines (played_from p.state c)

  on-goes : (n : ℕ) (b : Bench) (s : List ℕ) (f : Front) → front s ≡ f → has_ended b ≡ false → length s ≤ suc n → ((d : Bench) (r : List ℕ) → length r ≤ n → Goes d r (played_for n d r))
      → Goes b s (played_on b f (played_for n))
  unfolding played_on is_end Goes
  on-goes n b s nothing e h l go g = ap (λ (x : List ℕ). played_from b (x ++ c)) (nothing-empty s e)
  on-goes n b s bad e h l go g = absurd (true-false refl g)
  on-goes n b s cut e h l go g = absurd (true-false refl g)
  on-goes n b s (whole k p r) e h l go g =
      let u : Turn = turn b k p in
      let q = whole-shorter s e in
      let rest : Played = played_for n u.next r in
      from-whole b (s ++ c) h (whole_append s c e)
      ∙ ap (printed u.line) (go u.next r (omega arith) g)
      ∙ ap (λ (x : List ℕ). record { lines = x; state = (played_from rest.state c).state }) (sym (append_assoc u.line rest.lines (played_from rest.state c).lines))

  for-goes : (n : ℕ) (b : Bench) (s : List ℕ) → length s ≤ n → Goes b s (played_for n b s)
  unfolding played_for Goes
  for-goes zero b [] l = λ g. refl
  for-goes zero b (x ∷ s) l = absurd (omega arith)
  for-goes (suc n) b s l = by_end (has_ended b) refl (λ h. on-goes n b s (front s) refl h l (for-goes n))
    where
      by_end : (t : Bool) → has_ended b ≡ t → (has_ended b ≡ false → Goes b s (played_on b (front s) (played_for n))) → Goes b s (cond t (record { lines = []; state = b }) (played_on b (front s) (played_for n)))
      by_end true h f g = absurd (true-false h g)
      by_end false h f g = f h g

  from_goes : (b : Bench) (s : List ℕ) → Goes b s (played_from b s)
  unfolding played_from
  from_goes b s = for-goes (length s) b s (le_refl (length s))

  -- what is printed for it
  pub run-goes : (s : List ℕ) (t : Table) → Leaves s t → run_of (s ++ c) ≡ run_of s ++ run_from (running t) c
  unfolding played run_of is_end Goes
  run-goes s t e =
      sym (lines_from first (s ++ c))
      ∙ ap (λ (p : Played). p.lines) (from_goes first s (ap has_ended e))
      ∙ ap (λ (b : Bench). (played_from first s).lines ++ (played_from b c).lines) e
      ∙ rw (lines_from first s, lines_from (running t) c)

-- TWO LOGS THAT LEAVE ONE TABLE answer alike whatever follows
pub answers-alike : (s u : List ℕ) (t : Table) → Leaves s t → Leaves u t → AnswersAlike s u
answers-alike s u t e f = record { later = run_from (running t); whole = λ c. run-goes c s t e; short = λ c. run-goes c u t f }
