-- The reading of a dump from left to right comes to its last record. Assumes nothing.
use Prim.Native.Nat.{ℕ, zero, suc, ◌+◌, ◌-◌, ◌≤◌, ◌<◌}
use native.Mathlib.Omega.{arith}
use mathlib.Core.Path.{◌≡◌, refl, ap, ◌∙◌, sym, subst}
use mathlib.Core.Bool.{Bool, true, false, cond}
use mathlib.Core.List.{List, []}
use lib.ListN.{length, take, drop, length-drop, drop_of_length-le}
use lib.Seq.{length-take-le}
use lib.Dec.{eqb}
use Rattle.lists.proofs.Bools.{cond-by}
use Rattle.frames.specs.Frames.{Front, nothing, bad, cut, whole, front, located, frame_at}
use Rattle.frames.proofs.Laws.{WholeAt, frame-told}
use Rattle.judgement.specs.Judgement.{judged_of, is_bad}
use Rattle.dumps.specs.declared.Read.{Read}
use Rattle.dumps.specs.declared.Read.TheVariants.{End, Broken, Passed, Counted}
use Rattle.dumps.specs.Dumps.{Place, BenchRecord, Dump, broken, records, led, opened, records_for, records_of, counts, standing, last_among, last_of, last_in}
use Rattle.dumps.specs.Reads.{record_read, front_read, read_at}

-- ---- what is read at a position, by the answers of `frame_at`

module _ (a s : List ℕ) (at : ℕ) where
  pub read-end : drop at s ≡ [] → End ≡ read_at a s at
  unfolding read_at front_read front
  read-end e = rw e

  pub read-spoilt : front (drop at s) ≡ bad → Broken ≡ read_at a s at
  unfolding read_at front_read
  read-spoilt e = rw e

  pub read-cut : front (drop at s) ≡ cut → Broken ≡ read_at a s at
  unfolding read_at front_read
  read-cut e = rw e

  pub read_whole : (k start len : ℕ) → WholeAt s at k start len
      → record_read a (eqb at 0) k (take (start + len - start) (drop start s)) (start + len) ≡ read_at a s at
  unfolding read_at front_read
  read_whole k start len w =
      let q : start + len - start ≡ len = omega arith in
      let l : length (take len (drop start s)) ≡ len = length-take-le len (drop start s) (rw (length-drop start s) (omega (arith, w.fits))) in
      let m : at + 4 + length (take len (drop start s)) ≡ start + len = omega (arith, l, w.begins) in
      rw (w.stands, q, m)

-- ---- what the reading tells of the dump from that position on

-- a record, and what follows it; t says whether it counts
pub record Passes (a s : List ℕ) (at n : ℕ) (t : Bool) : Type 0 where
  pub kind : ℕ
  pub payload : List ℕ
  pub long : n ≡ at + 4 + length payload
  pub fits : n ≤ length s
  pub counted : counts a kind payload ≡ t
  pub opens : (go : ℕ → List ℕ → Dump) → opened at (front (drop at s)) go ≡ led (record { at = at; kind = kind; payload = payload }) (go n (drop n s))

abbrev ReadSays : List ℕ → List ℕ → ℕ → Read → Type 0
ReadSays a s at End = front (drop at s) ≡ nothing
ReadSays a s at Broken = (go : ℕ → List ℕ → Dump) → opened at (front (drop at s)) go ≡ broken
ReadSays a s at (Passed n) = Passes a s at n false
ReadSays a s at (Counted n) = Passes a s at n true

told-whole : (a s : List ℕ) (at k : ℕ) (p r : List ℕ) → front (drop at s) ≡ whole k p r → ReadSays a s at (record_read a (eqb at 0) k p (at + 4 + length p))
unfolding record_read opened frame_at located
told-whole a s at k p r e =
    let w : WholeAt s at k (at + 4) (length p) = frame-told s at (ap (located at) e) in
    let n = at + 4 + length p in
    let same : whole k p r ≡ whole k (take (length p) (drop (at + 4) s)) (drop n s) = sym e ∙ w.stands in
    let rest : r ≡ drop n s = cc in
    let passes : (t : Bool) → is_bad (judged_of (eqb at 0) k p) ≡ false → counts a k p ≡ t → Passes a s at n t = λ t g h. record {
      kind = k;
      payload = p;
      long = refl;
      fits = w.fits;
      counted = h;
      opens = λ go. rw (e, g, rest);
    } in
    cond-by (ReadSays a s at) (is_bad (judged_of (eqb at 0) k p)) (λ b go. rw (e, b)) (λ g.
    cond-by (ReadSays a s at) (counts a k p) (passes true g) (passes false g))

told-front : (a s : List ℕ) (at : ℕ) (f : Front) → front (drop at s) ≡ f → ReadSays a s at (front_read a at f)
unfolding front_read opened
told-front a s at nothing e = e
told-front a s at bad e = λ go. rw e
told-front a s at cut e = λ go. rw e
told-front a s at (whole k p r) e = told-whole a s at k p r e

pub read_told : (a s : List ℕ) (at : ℕ) {r : Read} → read_at a s at ≡ r → ReadSays a s at r
unfolding read_at
read_told a s at e = subst (ReadSays a s at) e (told-front a s at (front (drop at s)) refl)

-- ---- the loop: from position `at` on, with b the last so far, some number of steps that is enough comes to the whole's

pub record Going (a s : List ℕ) (at : ℕ) (b : Place) : Type 0 where
  pub steps : ℕ
  pub enough : length s ≤ at + steps
  pub same : last_of a (records_for steps at (drop at s)) b ≡ last_in a s

pub going_start : (a s : List ℕ) → Going a s 0 (record { number = 9; start = 0; len = 0 })
unfolding last_in records_of
going_start a s = record { steps = length s; enough = omega arith; same = refl }

module _ (a s : List ℕ) (at : ℕ) (b : Place) where
  ends-for : (f : ℕ) → front (drop at s) ≡ nothing → last_of a (records_for f at (drop at s)) b ≡ b
  unfolding records_for opened last_of last_among
  ends-for zero e = refl
  ends-for (suc f) e = rw e

  pub going_end : Going a s at b → read_at a s at ≡ End → b ≡ last_in a s
  going_end w e = sym (ends-for w.steps (read_told a s at e)) ∙ w.same

  -- the octets end no later than the rules are broken
  none-broken : length s ≤ at → ((go : ℕ → List ℕ → Dump) → opened at (front (drop at s)) go ≡ broken) → ⊥
  unfolding opened front
  none-broken h q =
      let z : records [] ≡ broken = rw (drop_of_length-le s h) at (q (records_for 0)) in
      let c : ◌≡◌ {A = ℕ} 0 1 = cc in
      omega arith

  breaks-for : (f : ℕ) → length s ≤ at + f → ((go : ℕ → List ℕ → Dump) → opened at (front (drop at s)) go ≡ broken)
      → record { number = 16; start = 0; len = 0 } ≡ last_of a (records_for f at (drop at s)) b
  unfolding records_for last_of
  breaks-for zero h q = absurd (none-broken (omega arith) q)
  breaks-for (suc f) h q = rw (q (records_for f))

  pub going-broken : Going a s at b → read_at a s at ≡ Broken → record { number = 16; start = 0; len = 0 } ≡ last_in a s
  going-broken w e = breaks-for w.steps w.enough (read_told a s at e) ∙ w.same

  led-last : (e : BenchRecord) (d : Dump) → last_of a (led e d) b ≡ last_of a d (cond (counts a e.kind e.payload) (standing e) b)
  unfolding led last_of last_among
  led-last e broken = refl
  led-last e (records l) = refl

  goes-for : (n : ℕ) (t : Bool) (f : ℕ) → length s ≤ at + f → last_of a (records_for f at (drop at s)) b ≡ last_in a s → Passes a s at n t
      → Going a s n (cond t (record { number = 0; start = at; len = n - at }) b)
  unfolding records_for
  goes-for n t zero h q p = absurd (omega (arith, p.long, p.fits))
  goes-for n t (suc f) h q p =
      let e : BenchRecord = record { at = at; kind = p.kind; payload = p.payload } in
      let l : n - at ≡ 4 + length p.payload = omega (arith, p.long) in
      record {
        steps = f;
        enough = omega (arith, p.long);
        same = rw (l, ← p.counted) (sym (led-last e (records_for f n (drop n s))) ∙ rw (p.opens (records_for f)) at q);
      }

  module _ (n : ℕ) (w : Going a s at b) where
    pub going-passed : read_at a s at ≡ Passed n → (at < n) × (n ≤ length s) × Going a s n b
    going-passed e =
        let p = read_told a s at e in
        (omega (arith, p.long), p.fits, goes-for n false w.steps w.enough w.same p)

    pub going-counted : read_at a s at ≡ Counted n → (at < n) × (n ≤ length s) × Going a s n (record { number = 0; start = at; len = n - at })
    going-counted e =
        let p = read_told a s at e in
        (omega (arith, p.long), p.fits, goes-for n true w.steps w.enough w.same p)
