-- Laws of taking a block of input record by record. Assumes nothing.
use Prim.Native.Nat.{ℕ, ◌+◌, ◌-◌, ◌≤◌, ◌<◌, min}
use native.Mathlib.Nat.{le_refl, add_comm}
use native.Mathlib.Omega.{arith}
use mathlib.Core.Path.{◌≡◌, refl, ap, ◌∙◌, sym, subst}
use mathlib.Core.Bool.{Bool, true, false, cond, ◌||◌, false≢true}
use mathlib.Core.List.{List, [], ◌++◌, append_assoc, append-nil}
use lib.ListN.{length, take, drop, get_or, set, length-append, length-drop, length-take, drop_of_length-le}
use lib.Seq.{take_at, take_all, drop_at, drop-drop, length-take-le, get_or-append-add, get_or-drop, get_or-take}
use lib.Dec.{ltb, leb}
use borrow.Author.Tests.{lt-ltb, le-ltb, ltb-true, ltb-false, leb-true, leb-false}
use Rattle.octets.specs.Octets.{stored}
use Rattle.octets.proofs.Laws.{Octets, octets-take, octets-drop, stored-fits, stored-front, length-stored, front-next, front-all}
use Rattle.frames.specs.Frames.{Front, nothing, bad, cut, whole, front}
use Rattle.frames.proofs.Laws.{WholeAt, nothing-empty, cut-length}
use Rattle.turns.specs.declared.Phase.{Phase}
use Rattle.turns.specs.declared.Phase.TheVariants.{Ended}
use Rattle.turns.specs.declared.Step.{Step}
use Rattle.run_ends.specs.Parts.{is_part}
use Rattle.run_ends.proofs.Runs.{run-ended, run-whole-at, run-spoilt}
use Rattle.blocks.specs.declared.Progress.{Progress}
use Rattle.answer_lines.specs.AnswerLines.{bad_line, Written}
use Rattle.turns.specs.Turns.{Bench, state_in}
use Rattle.turns.specs.Steps.{Stepped}
use Rattle.records.specs.Records.{turn, is_end, has_ended, run_from}
use Rattle.blocks.specs.Blocks.{stopped, Advanced, Ran, Stopped, kept, last_of, next_in, Why, ended, full, part, BlockTaken}
use Rattle.blocks.specs.declared.Taken.{Taken}
use Rattle.blocks.specs.declared.Next.{Next}
use Rattle.blocks.specs.declared.Next.TheVariants.{Done, Again, Read}
use Rattle.answer_lines.proofs.Laws.{written_none}

-- ---- octets written at a position: those before it and they themselves, and those after

module _ {d : List ℕ} {at : ℕ} {s : List ℕ} {r : ℕ} {e : List ℕ} (w : Written d at s r e) where
  upto : length (take at d ++ s) ≡ r
  upto = simp length-append (rw (length-take-le at d (omega (arith, w.fits))) (sym w.position))

  laid : e ≡ (take at d ++ s) ++ drop r d
  laid = w.buffer ∙ stored-fits d at s w.fits ∙ rw w.position

  written-upto : take r e ≡ take at d ++ s
  written-upto = ap (take r) laid ∙ take_at (take at d ++ s) (drop r d) r upto

  written_after : drop r e ≡ drop r d
  written_after = ap (drop r) laid ∙ drop_at (take at d ++ s) (drop r d) r upto

  pub written-length : length e ≡ length d
  written-length = ap length w.buffer ∙ length-stored d at s

-- the part of the input between two places
pub part_length : (s : List ℕ) (start len : ℕ) → start + len ≤ length s → len < 256 → length (take (start + len - start) (drop start s)) ≤ 255
part_length s start len h l = rw (length-take-le (start + len - start) (drop start s) (simp length-drop (omega arith))) (omega arith)

-- ---- why no record is taken

or-true : (t : Bool) → (t || true) ≡ true
or-true true = refl
or-true false = refl

module _ (b : Bench) (s : List ℕ) (n : ℕ) where
  pub stopped-ended : has_ended b ≡ true → stopped b s n ≡ true
  unfolding stopped
  stopped-ended h = rw h

  pub stopped-room : n < 48 → stopped b s n ≡ true
  unfolding stopped
  stopped-room h = rw (lt-ltb n 48 h) (or-true (has_ended b))

  stopped-part : is_part (front s) ≡ true → stopped b s n ≡ true
  unfolding stopped
  stopped-part h = rw (h, or-true) (or-true (has_ended b))

  pub stopped-nothing : s ≡ [] → stopped b s n ≡ true
  unfolding is_part front
  stopped-nothing e = stopped-part (rw e)

  pub stopped-cut : front s ≡ cut → stopped b s n ≡ true
  unfolding is_part
  stopped-cut e = stopped-part (rw e)

-- ---- one record, or none

module _ (b : Bench) (s : List ℕ) (i : ℕ) (d : List ℕ) (w : ℕ) (h : i ≤ length s) where
  pub advanced-none : (f : Phase) → w ≤ length d → stopped b (drop i s) (length d - w) ≡ true
      → Advanced b s i d w (record { phase = f; used = i; wrote = w }) b d
  advanced-none f l q =
      record { line = []; put = written_none d w l; used = h; forward = le_refl i; run = λ r. refl; still = λ z. q }

  pub advanced-bad : (v : List ℕ) {n : ℕ} {e : List ℕ} → has_ended b ≡ false → front (drop i s) ≡ bad → Written d w bad_line n e
      → Advanced b s i d w (record { phase = Ended; used = length s; wrote = n }) (state_in Ended v) e
  unfolding is_end
  advanced-bad v {n} {e} g f t =
      let c = state_in Ended v in
      record {
        line = bad_line;
        put = t;
        used = le_refl (length s);
        forward = h;
        run = λ r. run-spoilt b (drop i s) r g f ∙ sym (append-nil bad_line) ∙ ap (bad_line ++◌) (sym (run-ended c (drop (length s) s ++ r) refl));
        still = λ z. stopped-ended c (drop (length s) s) (length d - n) refl;
      }

  pub advanced-whole : (k start len : ℕ) (x : Step) (v e : List ℕ) → has_ended b ≡ false → WholeAt s i k start len
      → Stepped d w (turn b k (take (start + len - start) (drop start s))) x v e
      → Advanced b s i d w (record { phase = x.phase; used = start + len; wrote = x.at }) (state_in x.phase v) e
  advanced-whole k start len x v e n f t₀ =
      let u = turn b k (take len (drop start s)) in
      let q : start + len - start ≡ len = omega arith in
      let t : Stepped d w u x v e = subst (λ (m : ℕ). Stepped d w (turn b k (take m (drop start s))) x v e) q t₀ in
      record {
        line = u.line;
        put = t.put;
        used = f.fits;
        forward = omega (arith, f.begins);
        run = λ r. run-whole-at b s r n f ∙ ap (λ (c : Bench). u.line ++ run_from c (drop (start + len) s ++ r)) (sym t.next);
        still = λ z. absurd (omega (arith, f.begins, z));
      }

-- ---- the records of a block

pub ran-none : (b : Bench) (s d : List ℕ) (f : Phase) → Ran b s d (record { phase = f; used = 0; wrote = 0 }) b d
ran-none b s d f = record { used = omega arith; wrote = omega arith; run = λ r. refl; others = refl }

pub ran-next : {b : Bench} {s d : List ℕ} {p : Progress} {b₁ : Bench} {e : List ℕ} {q : Progress} {b₂ : Bench} {f : List ℕ} → length e ≡ length d
    → Ran b s d p b₁ e → Advanced b₁ s p.used e p.wrote q b₂ f → Ran b s d q b₂ f
ran-next {b} {s} {d} {p} {b₁} {e} {q} {b₂} {f} l m a =
    let n = length a.line in
    record {
      used = a.used;
      wrote = omega (arith, a.put.fits, a.put.position, l);
      run = λ r. m.run r
          ∙ ap (take p.wrote e ++◌) (a.run r)
          ∙ sym (append_assoc (take p.wrote e) a.line (run_from b₂ (drop q.used s ++ r)))
          ∙ ap (λ (x : List ℕ). x ++ run_from b₂ (drop q.used s ++ r)) (sym (written-upto a.put));
      others = written_after a.put
          ∙ rw (a.put.position, ← drop-drop n p.wrote e, ← drop-drop n p.wrote d) (ap (drop n) m.others);
    }

-- where the last step took no record, there was a reason
pub ran-stopped : (d : List ℕ) {b : Bench} {s : List ℕ} {i w : ℕ} {e : List ℕ} {q : Progress} {c : Bench} {f : List ℕ} → length e ≡ length d
    → Advanced b s i e w q c f → q.used ≡ i → Stopped s d q c ≡ true
ran-stopped d {b} {s} {i} {w} {e} {q} {c} {f} l a h = sym (ap (λ (n : ℕ). stopped c (drop q.used s) (n - q.wrote)) l) ∙ a.still (sym h)

-- ---- octets moved to the front

pub length-kept : (s : List ℕ) (i n : ℕ) → length (kept s i n) ≡ min n (length s) - i
length-kept s i n = length-drop i (take n s) ∙ ap (λ (m : ℕ). m - i) (length-take n s)

pub kept-none : (s : List ℕ) (i n : ℕ) → min n (length s) ≤ i → kept s i n ≡ []
kept-none s i n h = drop_of_length-le (take n s) {i = i} (rw length-take h)

-- the octet that is moved next has not been overwritten
pub kept_next : (s : List ℕ) (u n i : ℕ) → i < length (kept s u n)
    → set (take i (kept s u n) ++ drop i s) i (get_or (take i (kept s u n) ++ drop i s) (u + i) 0) ≡ take (i + 1) (kept s u n) ++ drop (i + 1) s
kept_next s u n i h =
    let k = kept s u n in
    let l = length-kept s u n in
    let t : length (take i k) ≡ i = length-take-le i k (omega arith) in
    let e : u + i ≡ length (take i k) + u = omega arith in
    let q : get_or (take i k ++ drop i s) (u + i) 0 ≡ get_or k i 0 =
    ap (λ (m : ℕ). get_or (take i k ++ drop i s) m 0) e
    ∙ get_or-append-add (take i k) (drop i s) u 0
    ∙ get_or-drop i s u 0
    ∙ ap (λ (m : ℕ). get_or s m 0) (add_comm i u)
    ∙ sym (get_or-take n s (u + i) 0 (omega arith))
    ∙ sym (get_or-drop u (take n s) i 0) in
    ap (set (take i k ++ drop i s) i) q ∙ front-next s k i (omega arith) h

pub kept-all : (s : List ℕ) (u n i : ℕ) → i ≡ length (kept s u n) → take i (kept s u n) ++ drop i s ≡ stored s 0 (kept s u n)
kept-all s u n i e =
    let l = length-kept s u n in
    front-all s (kept s u n) i (sym e) ∙ rw e (sym (stored-front s (kept s u n) (omega arith)))

pub stored-none : {s k : List ℕ} → k ≡ [] → stored s 0 k ≡ s
stored-none {s} {k} e = ap (stored s 0) e ∙ stored-front s [] (omega arith)

-- ---- a whole block

take-least : (n : ℕ) (s : List ℕ) → take (min n (length s)) s ≡ take n s
take-least n s = go (leb n (length s)) refl
  where
    go : (t : Bool) → leb n (length s) ≡ t → take (min n (length s)) s ≡ take n s
    go true h =
        let l = leb-true n (length s) h in
        let e : min n (length s) ≡ n = omega arith in
        ap (λ (m : ℕ). take m s) e
    go false h = let l = leb-false n (length s) h in take_all (min n (length s)) s (omega arith) ∙ sym (take_all n s (omega arith))

-- what is kept is the last of the octets handed in
kept-last : (s : List ℕ) (i n : ℕ) → i ≤ length (take n s) → kept s i n ≡ last_of (length (kept s i n)) (take n s)
unfolding last_of
kept-last s i n h =
    let l = length-drop i (take n s) in
    let e : i ≡ length (take n s) - length (kept s i n) = omega arith in
    ap (λ (m : ℕ). drop m (take n s)) e

-- what is next, by the tests
module _ (h : Phase) (n : ℕ) where
  pub next-done : is_end h ≡ true → Done ≡ next_in h n
  unfolding next_in
  next-done e = rw e

  pub next-again : is_end h ≡ false → n < 48 → Again ≡ next_in h n
  unfolding next_in
  next-again e l = rw (e, lt-ltb n 48 l)

  pub next-read : is_end h ≡ false → 48 ≤ n → Read ≡ next_in h n
  unfolding next_in
  next-read e l = rw (e, le-ltb n 48 l)

-- what may still become a record is shorter than one
part-short : (s : List ℕ) (f : Front) → Octets s → front s ≡ f → is_part f ≡ true → length s < 259
unfolding is_part
part-short s nothing o e p = let l = ap length (nothing-empty s e) in omega arith
part-short s bad o e p = absurd (false≢true p)
part-short s cut o e p = cut-length s (o 3) e
part-short s (whole k l r) o e p = absurd (false≢true p)

-- why it stopped, by what is next
why-next : (q : Bench) (s : List ℕ) (n : ℕ) → Octets s → stopped q s n ≡ true → Why q s n (next_in q.phase n)
unfolding stopped next_in
why-next q s n o = by_end (has_ended q) refl
  where
    by-room : (t : Bool) → ltb n 48 ≡ t → has_ended q ≡ false → (t || is_part (front s)) ≡ true → Why q s n (cond t Again Read)
    by-room true h e p = full refl e (ltb-true n 48 h)
    by-room false h e p = part refl e (ltb-false n 48 h) p (part-short s (front s) o refl p)

    by_end : (t : Bool) → has_ended q ≡ t → (t || (ltb n 48 || is_part (front s))) ≡ true → Why q s n (cond t Done (cond (ltb n 48) Again Read))
    by_end true h p = ended refl h
    by_end false h p = by-room (ltb n 48) refl h p

pub block-taken : {b : Bench} {s d : List ℕ} {p : Progress} {q : Bench} {e : List ℕ} (n m : ℕ) {k : ℕ} {u : List ℕ} {x : Next} → Octets s → m ≡ min n (length s)
    → Ran b (take m s) d p q e → Stopped (take m s) d p q ≡ true → k ≡ length (kept s p.used m) → u ≡ stored s 0 (kept s p.used m)
    → x ≡ next_in q.phase (length e - p.wrote)
    → BlockTaken b s n d (record { phase = q.phase; left = k; wrote = p.wrote; next = x }) q u e
block-taken {b} {s} {d} {p} {q} {e} n m {k} {u} {x} o h ran stop hk hu hx =
    let i = p.used in
    let t : take m s ≡ take n s = ap (λ (j : ℕ). take j s) h ∙ take-least n s in
    let l = length-kept s i m in
    let room : length e - p.wrote ≡ length d - p.wrote = sym (length-drop p.wrote e) ∙ ap length ran.others ∙ length-drop p.wrote d in
    let front : take k u ≡ kept s i m =
    ap (take k) (hu ∙ stored-front s (kept s i m) (omega arith)) ∙ take_at (kept s i m) (drop (length (kept s i m)) s) k (sym hk) in
    record {
      run = λ r. rw (← t, front) (ran.run r);
      wrote = ran.wrote;
      others = ran.others;
      left = rw (← t) (omega (arith, length-drop i (take m s)));
      block = hu ∙ rw (← t, hk) (ap (stored s 0) (kept-last s i m ran.used));
      why = rw (front, hx, room) (why-next q (kept s i m) (length d - p.wrote) (octets-drop i (take m s) (octets-take m s o)) stop);
    }

-- what is left fits into the block
pub left-within : {b : Bench} {s : List ℕ} {n : ℕ} {d : List ℕ} {p : Taken} {q : Bench} {u e : List ℕ} → BlockTaken b s n d p q u e → p.left ≤ length u
left-within {s = s} {n} {p = p} {u = u} t =
    let l : length u ≡ length s = ap length t.block ∙ length-stored s 0 (last_of p.left (take n s)) in
    omega (arith, t.left, length-take n s)

-- where more is to be read, what is left is shorter than a record
pub left-short : {b : Bench} {s : List ℕ} {n : ℕ} {d : List ℕ} {p : Taken} {q : Bench} {u e : List ℕ} → BlockTaken b s n d p q u e → p.next ≡ Read → p.left < 259
left-short {b} {s} {n} {d} {p} {q} {u} {e} t x = by-why t.why
  where
    by-why : Why q (take p.left u) (length d - p.wrote) p.next → p.left < 259
    by-why (ended y h) = let z : ◌≡◌ {A = ℕ} 0 1 = cc in absurd (omega arith)
    by-why (full y h l) = let z : ◌≡◌ {A = ℕ} 0 1 = cc in absurd (omega arith)
    by-why (part y h l f g) = omega (arith, length-take-le p.left u (left-within t))
