-- The last record that counts: where it stands, that it is whole, and that no record after it counts. Assumes nothing.
use Prim.Native.Nat.{ℕ, zero, suc, ◌+◌, ◌≤◌}
use native.Mathlib.Omega.{arith}
use mathlib.Core.Path.{◌≡◌, refl, ap, ◌∙◌, sym, subst}
use mathlib.Core.Bool.{Bool, true, false, cond, and-eq-true_iff}
use mathlib.Core.List.{List, [], ◌∷◌, ◌++◌}
use lib.ListN.{length, take, drop, length-append, length-drop}
use lib.Seq.{take_at, drop_at, drop-drop}
use lib.Dec.{eqb}
use borrow.Author.Tests.{eqb-true}
use Rattle.lists.specs.Lists.{Every}
use Rattle.lists.proofs.Bools.{cond-by}
use Rattle.frames.specs.Frames.{Front, nothing, bad, cut, whole, front, record_of}
use Rattle.frames.proofs.Laws.{whole-record}
use Rattle.judgement.specs.Judgement.{judged_of, is_bad}
use Rattle.dumps.specs.Dumps.{Place, BenchRecord, Dump, broken, records, led, opened, records_for, records_of, announces, counts, standing, last_among, last_of, last_in}
use Rattle.dumps.specs.Answers.{is_broken, Last}

-- ---- every record of a dump stands where it says

pub record Stands (s : List ℕ) (e : BenchRecord) : Type 0 where
  pub fits : e.at + (4 + length e.payload) ≤ length s
  pub octets : take (4 + length e.payload) (drop e.at s) ≡ record_of e.kind e.payload

-- a property of every record of a dump
abbrev EachOf : (BenchRecord → Type 0) → Dump → Type 0
EachOf P broken = Unit
EachOf P (records l) = Every P l

each-led : (P : BenchRecord → Type 0) (e : BenchRecord) (d : Dump) → P e → EachOf P d → EachOf P (led e d)
unfolding led Every
each-led P e broken h w = tt
each-led P e (records l) h w = (h, w)

stands-whole : (s : List ℕ) (at k : ℕ) (p r : List ℕ) → drop at s ≡ record_of k p ++ r → Stands s (record { at = at; kind = k; payload = p })
stands-whole s at k p r e = record {
  fits = omega (arith, ap length e, length-append p r, length-drop at s);
  octets = ap (take (4 + length p)) e ∙ take_at (record_of k p) r (4 + length p) (omega arith);
}

after-whole : (s : List ℕ) (at k : ℕ) (p r : List ℕ) → drop at s ≡ record_of k p ++ r → drop (at + 4 + length p) s ≡ r
after-whole s at k p r e =
    let n : at + 4 + length p ≡ at + (4 + length p) = omega arith in
    rw n (sym (drop-drop (4 + length p) at s) ∙ ap (drop (4 + length p)) e ∙ drop_at (record_of k p) r (4 + length p) (omega arith))

opened-stand : (s : List ℕ) (at : ℕ) (go : ℕ → List ℕ → Dump) → ((n : ℕ) → EachOf (Stands s) (go n (drop n s)))
    → (f : Front) → front (drop at s) ≡ f → EachOf (Stands s) (opened at f go)
unfolding opened Every
opened-stand s at go h nothing e = tt
opened-stand s at go h bad e = tt
opened-stand s at go h cut e = tt
opened-stand s at go h (whole k p r) e =
    let w = whole-record (drop at s) e in
    cond-by (EachOf (Stands s)) (is_bad (judged_of (eqb at 0) k p)) (λ _. tt) (λ _.
    each-led (Stands s) (record { at = at; kind = k; payload = p }) (go (at + 4 + length p) r) (stands-whole s at k p r w)
    (subst (λ (l : List ℕ). EachOf (Stands s) (go (at + 4 + length p) l)) (after-whole s at k p r w) (h (at + 4 + length p))))

records-stand : (s : List ℕ) (n at : ℕ) → EachOf (Stands s) (records_for n at (drop at s))
unfolding records_for Every
records-stand s zero at = tt
records-stand s (suc n) at = opened-stand s at (records_for n) (λ m. records-stand s n m) (front (drop at s)) refl

-- ---- the last of a list of records

module _ (a : List ℕ) where
  abbrev Silent : BenchRecord → Type 0
  Silent e = counts a e.kind e.payload ≡ false

  data Outcome (l : List BenchRecord) (b : Place) : Type 0 where
    none : Every Silent l → last_among a l b ≡ b → Outcome l b
    one : (earlier : List BenchRecord) (e : BenchRecord) (later : List BenchRecord) → l ≡ earlier ++ e ∷ later
        → counts a e.kind e.payload ≡ true → Every Silent later → last_among a l b ≡ standing e → Outcome l b

  -- one record before the others
  grown : (x : BenchRecord) (l : List BenchRecord) (b : Place) (t : Bool) → counts a x.kind x.payload ≡ t → Outcome l (cond t (standing x) b) → Outcome (x ∷ l) b
  unfolding last_among Every
  grown x l b true c (none w q) = one [] x l refl c w (rw c q)
  grown x l b false c (none w q) = none (c, w) (rw c q)
  grown x l b true c (one i e j d n w q) = one (x ∷ i) e j (ap (x ∷◌) d) n w (rw c q)
  grown x l b false c (one i e j d n w q) = one (x ∷ i) e j (ap (x ∷◌) d) n w (rw c q)

  outcome : (l : List BenchRecord) (b : Place) → Outcome l b
  unfolding last_among Every
  outcome [] b = none tt refl
  outcome (x ∷ l) b = grown x l b (counts a x.kind x.payload) refl (outcome l (cond (counts a x.kind x.payload) (standing x) b))

-- ---- the last record of a dump

abbrev absent : Place
absent = record { number = 9; start = 0; len = 0 }

pub record Found (a s : List ℕ) (p : Place) : Type 0 where
  pub fits : p.start + p.len ≤ length s
  pub last : Last a s p.start (take p.len (drop p.start s))

every-middle : (P : BenchRecord → Type 0) (i : List BenchRecord) (e : BenchRecord) (j : List BenchRecord) → Every P (i ++ e ∷ j) → P e
unfolding Every
every-middle P [] e j h = h.0
every-middle P (x ∷ i) e j h = every-middle P i e j h.1

module _ (a s : List ℕ) where
  found-one : (i : List BenchRecord) (e : BenchRecord) (j : List BenchRecord) → records_of s ≡ records (i ++ e ∷ j) → Stands s e
      → counts a e.kind e.payload ≡ true → Every (Silent a) j → Found a s (standing e)
  unfolding counts
  found-one i e j d w c n =
      let both = (and-eq-true_iff (eqb e.kind 1) (announces a e.payload)).0 c in
      let k : e.kind ≡ 1 = eqb-true e.kind 1 both.0 in
      record {
        fits = w.fits;
        last = record {
          earlier = i;
          payload = e.payload;
          later = j;
          dump = rw (← k) d;
          octets = rw (← k) w.octets;
          counted = both.1;
          none = n;
        };
      }

  found-by : (l : List BenchRecord) → records_of s ≡ records l → Every (Stands s) l → Outcome a l absent → (last_among a l absent).number ≡ 0
      → Found a s (last_among a l absent)
  found-by l d w (none n q) h = absurd (omega (arith, h, ap (λ (p : Place). p.number) q))
  found-by l d w (one i e j g c n q) h =
      subst (Found a s) (sym q) (found-one i e j (d ∙ ap records g) (every-middle (Stands s) i e j (subst (Every (Stands s)) g w)) c n)

  found_in : (d : Dump) → records_of s ≡ d → EachOf (Stands s) d → (last_of a d absent).number ≡ 0 → Found a s (last_of a d absent)
  unfolding last_of
  found_in broken e w h = absurd (omega arith)
  found_in (records l) e w h = found-by l e w (outcome a l absent) h

  -- with the number 0 there is such a record
  pub found : (last_in a s).number ≡ 0 → Found a s (last_in a s)
  unfolding last_in records_of
  found h = found_in (records_of s) refl (records-stand s (length s) 0) h

  -- with 16, and only with it, there is no dump
  number_by : (l : List BenchRecord) → Outcome a l absent → false ≡ eqb (last_among a l absent).number 16
  number_by l (none n q) = rw q
  number_by l (one i e j g c n q) = rw q

  number_in : (d : Dump) → is_broken d ≡ eqb (last_of a d absent).number 16
  unfolding is_broken last_of
  number_in broken = refl
  number_in (records l) = number_by l (outcome a l absent)

  pub broken-number : is_broken (records_of s) ≡ eqb (last_in a s).number 16
  unfolding last_in
  broken-number = number_in (records_of s)
