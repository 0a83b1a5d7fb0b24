-- What a list of items makes of a machine: the claims of `make`. Each claim is a law of one item in one state, carried along the list.
--   mk s w t                          the machine in the state s with the wait w that runs from t
--   different                         two states with different numbers are not equal
--   wait-step, fire-step              an item in DF_WAIT that does not end the wait, and one that does
--   calc-step, done-step              an item that leaves DF_CALC, or DF_DONE, as it is
--   calc-work, done-work              with no ES_DOWN, DF_CALC and DF_DONE lead to these two only
--   down, up, idle, reached, start    the claims of one item
--   step-wait, run-wait               the wait stays
--   run-append, run-one               a list in two parts
--   stays                             what no item changes, no list of them changes
--   ends                              with no ES_DOWN, from DF_CALC or DF_DONE, CALCULATED ends in DF_DONE
--   waits, calculates, finishes       the claims of a list in DF_WAIT
--   claimed                           all claims, of a machine and every list
-- Assumes nothing.
use Rattle.std.proofs.Common.{◌≡◌, ℕ, Bool, true, false, cond, not, ◌&&◌, T, eqb, leb, ◌⊎◌, List, [], ◌∷◌, ◌++◌, sym, refl, ap, ◌∙◌, subst, inl, inr}
use borrow.Author.Tests.{eqb-false}
use Rattle.fsm.specs.declared.State.{State}
use Rattle.fsm.specs.declared.State.TheVariants.{Init, DfWait, DfCalc, DfDone}
use Rattle.fsm.specs.declared.Event.TheVariants.{EsUp, EsDown, VlanChange, RcvdEs, LostEs, DfTimer, Calculated}
use Rattle.fsm.specs.declared.Machine.{Machine}
use Rattle.fsm.specs.Machine.{state_number, next_state, starts, waited_of, due, drive_of, tick_of}
use Rattle.fsm.specs.Runs.{Item, event, reading, after_item, run, is_event, fires, each, early, upheld, unfinished, settled, Claims}

abbrev mk : State → ℕ → ℕ → Machine
mk s w t = record { state = s; wait = w; since = t }

no : {X : Type 0} → false ≡ true → X
no e = absurd (subst T (sym e) tt)

different : (a b : State) → eqb (state_number a) (state_number b) ≡ false → {X : Type 0} → a ≡ b → X
different a b h e = absurd (eqb-false (state_number a) (state_number b) h (ap state_number e))

not-true : (b : Bool) → not b ≡ true → b ≡ false
not-true true e = sym e
not-true false e = refl

and_split : (a b : Bool) → (a && b) ≡ true → (a ≡ true) × (b ≡ true)
and_split true b e = (refl, e)
and_split false b e = no e

-- ---- one item
module _ (w t : ℕ) where
  wait-step : (x : Item) → early (mk DfWait w t) x ≡ true → after_item (mk DfWait w t) x ≡ mk DfWait w t
  unfolding early upheld fires is_event after_item drive_of next_state starts tick_of due
  wait-step (event EsUp now) e = refl
  wait-step (event EsDown now) e = no e
  wait-step (event VlanChange now) e = refl
  wait-step (event RcvdEs now) e = refl
  wait-step (event LostEs now) e = refl
  wait-step (event DfTimer now) e = no e
  wait-step (event Calculated now) e = refl
  wait-step (reading now) e = rw (not-true (leb w (waited_of now t)) e)

  fire-step : (x : Item) → fires (mk DfWait w t) x ≡ true → after_item (mk DfWait w t) x ≡ mk DfCalc w t
  unfolding fires is_event after_item drive_of next_state starts tick_of due
  fire-step (event EsUp now) e = no e
  fire-step (event EsDown now) e = no e
  fire-step (event VlanChange now) e = no e
  fire-step (event RcvdEs now) e = no e
  fire-step (event LostEs now) e = no e
  fire-step (event DfTimer now) e = refl
  fire-step (event Calculated now) e = no e
  fire-step (reading now) e = rw e

  calc-step : (x : Item) → unfinished x ≡ true → after_item (mk DfCalc w t) x ≡ mk DfCalc w t
  unfolding unfinished upheld is_event after_item drive_of next_state starts tick_of due
  calc-step (event EsUp now) e = refl
  calc-step (event EsDown now) e = no e
  calc-step (event VlanChange now) e = refl
  calc-step (event RcvdEs now) e = refl
  calc-step (event LostEs now) e = refl
  calc-step (event DfTimer now) e = refl
  calc-step (event Calculated now) e = no e
  calc-step (reading now) e = refl

  done-step : (x : Item) → settled x ≡ true → after_item (mk DfDone w t) x ≡ mk DfDone w t
  unfolding settled upheld is_event after_item drive_of next_state starts tick_of due
  done-step (event EsUp now) e = refl
  done-step (event EsDown now) e = no e
  done-step (event VlanChange now) e = no e
  done-step (event RcvdEs now) e = no e
  done-step (event LostEs now) e = no e
  done-step (event DfTimer now) e = refl
  done-step (event Calculated now) e = refl
  done-step (reading now) e = refl

  -- with no ES_DOWN, DF_CALC and DF_DONE lead to these two only
  calc-work : (x : Item) → upheld x ≡ true → (after_item (mk DfCalc w t) x ≡ mk DfCalc w t) ⊎ (after_item (mk DfCalc w t) x ≡ mk DfDone w t)
  unfolding upheld is_event after_item drive_of next_state starts tick_of due
  calc-work (event EsUp now) e = inl refl
  calc-work (event EsDown now) e = no e
  calc-work (event VlanChange now) e = inl refl
  calc-work (event RcvdEs now) e = inl refl
  calc-work (event LostEs now) e = inl refl
  calc-work (event DfTimer now) e = inl refl
  calc-work (event Calculated now) e = inr refl
  calc-work (reading now) e = inl refl

  done-work : (x : Item) → upheld x ≡ true → (after_item (mk DfDone w t) x ≡ mk DfCalc w t) ⊎ (after_item (mk DfDone w t) x ≡ mk DfDone w t)
  unfolding upheld is_event after_item drive_of next_state starts tick_of due
  done-work (event EsUp now) e = inr refl
  done-work (event EsDown now) e = no e
  done-work (event VlanChange now) e = inl refl
  done-work (event RcvdEs now) e = inl refl
  done-work (event LostEs now) e = inl refl
  done-work (event DfTimer now) e = inr refl
  done-work (event Calculated now) e = inr refl
  done-work (reading now) e = inr refl

  calc-done : (now : ℕ) → after_item (mk DfCalc w t) (event Calculated now) ≡ mk DfDone w t
  unfolding after_item drive_of next_state starts
  calc-done now = refl

  done-done : (now : ℕ) → after_item (mk DfDone w t) (event Calculated now) ≡ mk DfDone w t
  unfolding after_item drive_of next_state starts
  done-done now = refl

  down : (s : State) (now : ℕ) → after_item (mk s w t) (event EsDown now) ≡ mk Init w t
  unfolding after_item drive_of next_state starts
  down Init now = refl
  down DfWait now = refl
  down DfCalc now = refl
  down DfDone now = refl

  up : (now : ℕ) → after_item (mk Init w t) (event EsUp now) ≡ mk DfWait w now
  unfolding after_item drive_of next_state starts
  up now = refl

  idle : (x : Item) → is_event EsUp x ≡ false → after_item (mk Init w t) x ≡ mk Init w t
  unfolding is_event after_item drive_of next_state starts tick_of due
  idle (event EsUp now) e = no (sym e)
  idle (event EsDown now) e = refl
  idle (event VlanChange now) e = refl
  idle (event RcvdEs now) e = refl
  idle (event LostEs now) e = refl
  idle (event DfTimer now) e = refl
  idle (event Calculated now) e = refl
  idle (reading now) e = refl

  -- after an item in DF_WAIT or INIT the machine is not done
  tick-not-done : (b : Bool) → (cond {A = Machine} b (mk DfCalc w t) (mk DfWait w t)).state ≡ DfDone → {X : Type 0} → X
  tick-not-done true e = different DfCalc DfDone refl e
  tick-not-done false e = different DfWait DfDone refl e

  tick-since : (b : Bool) → (cond {A = Machine} b (mk DfCalc w t) (mk DfWait w t)).since ≡ t
  tick-since true = refl
  tick-since false = refl

  abbrev Reached : State → Item → Type 0
  Reached s x = (s ≡ DfCalc) × (is_event Calculated x ≡ true)

  reached : (s : State) (x : Item) → (s ≡ DfDone → ⊥) → (after_item (mk s w t) x).state ≡ DfDone → Reached s x
  unfolding is_event after_item drive_of next_state starts tick_of due
  reached DfDone x n e = absurd (n refl)
  reached DfCalc (event EsUp now) n e = different DfCalc DfDone refl e
  reached DfCalc (event EsDown now) n e = different Init DfDone refl e
  reached DfCalc (event VlanChange now) n e = different DfCalc DfDone refl e
  reached DfCalc (event RcvdEs now) n e = different DfCalc DfDone refl e
  reached DfCalc (event LostEs now) n e = different DfCalc DfDone refl e
  reached DfCalc (event DfTimer now) n e = different DfCalc DfDone refl e
  reached DfCalc (event Calculated now) n e = (refl, refl)
  reached DfCalc (reading now) n e = different DfCalc DfDone refl e
  reached DfWait (event EsUp now) n e = different DfWait DfDone refl e
  reached DfWait (event EsDown now) n e = different Init DfDone refl e
  reached DfWait (event VlanChange now) n e = different DfWait DfDone refl e
  reached DfWait (event RcvdEs now) n e = different DfWait DfDone refl e
  reached DfWait (event LostEs now) n e = different DfWait DfDone refl e
  reached DfWait (event DfTimer now) n e = different DfCalc DfDone refl e
  reached DfWait (event Calculated now) n e = different DfWait DfDone refl e
  reached DfWait (reading now) n e = tick-not-done (leb w (waited_of now t)) e
  reached Init (event EsUp now) n e = different DfWait DfDone refl e
  reached Init (event EsDown now) n e = different Init DfDone refl e
  reached Init (event VlanChange now) n e = different Init DfDone refl e
  reached Init (event RcvdEs now) n e = different Init DfDone refl e
  reached Init (event LostEs now) n e = different Init DfDone refl e
  reached Init (event DfTimer now) n e = different Init DfDone refl e
  reached Init (event Calculated now) n e = different Init DfDone refl e
  reached Init (reading now) n e = different Init DfDone refl e

  start : (s : State) (x : Item) → (s ≡ Init → ⊥) → (after_item (mk s w t) x).since ≡ t
  unfolding after_item drive_of starts tick_of due next_state
  start Init x n = absurd (n refl)
  start DfWait (event e now) n = refl
  start DfWait (reading now) n = tick-since (leb w (waited_of now t))
  start DfCalc (event e now) n = refl
  start DfCalc (reading now) n = refl
  start DfDone (event e now) n = refl
  start DfDone (reading now) n = refl

cond-wait : (b : Bool) (m k : Machine) → m.wait ≡ k.wait → (cond {A = Machine} b m k).wait ≡ k.wait
cond-wait true m k e = e
cond-wait false m k e = refl

step-wait : (m : Machine) (x : Item) → (after_item m x).wait ≡ m.wait
unfolding after_item drive_of tick_of
step-wait m (event e now) = refl
step-wait m (reading now) = cond-wait (due m now) (drive_of m DfTimer now) m refl

-- ---- lists
run-append : (m : Machine) (l k : List Item) → run m (l ++ k) ≡ run (run m l) k
unfolding run
run-append m [] k = refl
run-append m (x ∷ l) k = run-append (after_item m x) l k

run-wait : (m : Machine) (l : List Item) → (run m l).wait ≡ m.wait
unfolding run
run-wait m [] = refl
run-wait m (x ∷ l) = run-wait (after_item m x) l ∙ step-wait m x

stays : (m : Machine) (f : Item → Bool) → ((x : Item) → f x ≡ true → after_item m x ≡ m) → (l : List Item) → each f l ≡ true → run m l ≡ m
unfolding run each
stays m f h [] e = refl
stays m f h (x ∷ l) e =
    let p = and_split (f x) (each f l) e in
    ap (λ (n : Machine). run n l) (h x p.0) ∙ stays m f h l p.1

run-one : (m n : Machine) (x : Item) (l : List Item) → after_item m x ≡ n → run m (x ∷ l) ≡ run n l
unfolding run
run-one m n x l e = ap (λ (k : Machine). run k l) e

module _ (w t now : ℕ) (j : List Item) where
  abbrev Ends : State → List Item → Type 0
  Ends s k = run (mk s w t) (k ++ event Calculated now ∷ j) ≡ run (mk DfDone w t) j

  -- what the next machine ends in
  ends_on : (m : Machine) (k : List Item) → (m ≡ mk DfCalc w t) ⊎ (m ≡ mk DfDone w t) → Ends DfCalc k × Ends DfDone k
      → run m (k ++ event Calculated now ∷ j) ≡ run (mk DfDone w t) j
  ends_on m k (inl e) h = ap (λ (n : Machine). run n (k ++ event Calculated now ∷ j)) e ∙ h.0
  ends_on m k (inr e) h = ap (λ (n : Machine). run n (k ++ event Calculated now ∷ j)) e ∙ h.1

  ends : (k : List Item) → each upheld k ≡ true → Ends DfCalc k × Ends DfDone k
  unfolding run each
  ends [] e = (
    run-one (mk DfCalc w t) (mk DfDone w t) (event Calculated now) j (calc-done w t now),
    run-one (mk DfDone w t) (mk DfDone w t) (event Calculated now) j (done-done w t now),
  )
  ends (x ∷ k) e =
      let p = and_split (upheld x) (each upheld k) e in
      let h = ends k p.1 in
      (ends_on (after_item (mk DfCalc w t) x) k (calc-work w t x p.0) h, ends_on (after_item (mk DfDone w t) x) k (done-work w t x p.0) h)

-- ---- the claims of a machine in DF_WAIT
module _ (w t : ℕ) (l : List Item) (quiet : each (early (mk DfWait w t)) l ≡ true) where
  waits : run (mk DfWait w t) l ≡ mk DfWait w t
  waits = stays (mk DfWait w t) (early (mk DfWait w t)) (wait-step w t) l quiet

  fired : (x : Item) (k : List Item) → fires (mk DfWait w t) x ≡ true → run (mk DfWait w t) (l ++ x ∷ k) ≡ run (mk DfCalc w t) k
  fired x k f =
      run-append (mk DfWait w t) l (x ∷ k) ∙ ap (λ (n : Machine). run n (x ∷ k)) waits
      ∙ run-one (mk DfWait w t) (mk DfCalc w t) x k (fire-step w t x f)

  calculates : (x : Item) (k : List Item) → fires (mk DfWait w t) x ≡ true → each unfinished k ≡ true → run (mk DfWait w t) (l ++ x ∷ k) ≡ mk DfCalc w t
  calculates x k f u = fired x k f ∙ stays (mk DfCalc w t) unfinished (calc-step w t) k u

  finishes : (x : Item) (k : List Item) (now : ℕ) (j : List Item) → fires (mk DfWait w t) x ≡ true → each upheld k ≡ true → each settled j ≡ true
      → run (mk DfWait w t) (l ++ x ∷ (k ++ event Calculated now ∷ j)) ≡ mk DfDone w t
  finishes x k now j f u s =
      fired x (k ++ event Calculated now ∷ j) f ∙ (ends w t now j k u).0 ∙ stays (mk DfDone w t) settled (done-step w t) j s

-- what is shown of a machine in a state that is named holds of one whose state is that one
in-state : {a s : State} (P : State → Type 0) → s ≡ a → P a → P s
in-state P e p = subst P (sym e) p

of-machine : (made m : Machine) → m.wait ≡ made.wait → Claims made m
of-machine made m kept =
    let w = m.wait in
    let t = m.since in
    record {
      wait = kept;
      waiting = λ l e. in-state (λ s. each (early (mk s w t)) l ≡ true → run (mk s w t) l ≡ mk s w t) e (waits w t l);
      calculating = λ l x k e. in-state (λ s. each (early (mk s w t)) l ≡ true → fires (mk s w t) x ≡ true → each unfinished k ≡ true
          → run (mk s w t) (l ++ x ∷ k) ≡ mk DfCalc w t) e (λ q f u. calculates w t l q x k f u);
      done = λ l x k now j e. in-state (λ s. each (early (mk s w t)) l ≡ true → fires (mk s w t) x ≡ true → each upheld k ≡ true → each settled j ≡ true
          → run (mk s w t) (l ++ x ∷ (k ++ event Calculated now ∷ j)) ≡ mk DfDone w t) e (λ q f u z. finishes w t l q x k now j f u z);
      down = down w t m.state;
      reached = reached w t m.state;
      up = λ now e. in-state (λ s. after_item (mk s w t) (event EsUp now) ≡ mk DfWait w now) e (up w t now);
      idle = λ x e. in-state (λ s. is_event EsUp x ≡ false → after_item (mk s w t) x ≡ mk s w t) e (idle w t x);
      start = start w t m.state;
    }

pub claimed : (made : Machine) (l : List Item) → Claims made (run made l)
claimed made l = of-machine made (run made l) (run-wait made l)
