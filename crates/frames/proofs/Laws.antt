-- Laws of `specs/Frames.antt`: a front against the octets of a record, what stays when octets follow, how long fronts are, and the answers.
-- Assumes nothing.
use Prim.Native.Nat.{ℕ, ◌+◌, ◌-◌, ◌≤◌, ◌<◌}
use native.Mathlib.Omega.{arith}
use mathlib.Core.Path.{◌≡◌, refl, ap, ◌∙◌, sym, subst}
use mathlib.Core.Bool.{Bool, true, false, cond}
use mathlib.Core.List.{List, [], ◌∷◌, ◌++◌, append_assoc}
use lib.ListN.{length, get_or, take, drop, replicate, length-append, length-drop, length-replicate, take-append-drop}
use lib.Seq.{take-append_seam, drop-append_seam, get_or-drop, length-take-le, drop-drop}
use lib.Dec.{leb, eqb}
use borrow.Author.Tests.{eqb-true, le-leb, leb-true, leb-false}
use Rattle.frames.specs.declared.Frame.{Frame}
use Rattle.frames.specs.declared.Frame.TheVariants.{Nothing, Bad, Cut, Whole}
use Rattle.frames.specs.Frames.{Front, nothing, bad, cut, whole, must, front, located, frame_at, record_of}

-- ---- a front against the octets of a record

-- a record with octets r after it is a whole record, then r
pub front-record : (k : ℕ) (p r : List ℕ) → front (record_of k p ++ r) ≡ whole k p r
unfolding front
front-record k p r =
    rw (le-leb (length p) (length (p ++ r)) (simp length-append (omega arith)), take-append_seam p r, drop-append_seam p r)

-- ---- what the mark's tests tell

-- from a front that is two kinds at once, anything
clash : {X : Type 0} → ◌≡◌ {A = ℕ} 0 1 → X
clash z = absurd (omega arith)

-- a front behind a test that is not bad; behind both tests
must-other : (m a : ℕ) (f g : Front) → must m a f ≡ g → (bad ≡ g → ⊥) → (a ≡ m) × (f ≡ g)
must-other m a f g = by-test (eqb a m) (eqb-true a m)
  where
    by-test : (t : Bool) → (t ≡ true → a ≡ m) → cond t f bad ≡ g → (bad ≡ g → ⊥) → (a ≡ m) × (f ≡ g)
    by-test true h e n = (h refl, e)
    by-test false h e n = absurd (n e)

mark-other : (a b : ℕ) (f g : Front) → must 0xD5 a (must 0x4F b f) ≡ g → (bad ≡ g → ⊥) → (a ≡ 0xD5) × (b ≡ 0x4F) × (f ≡ g)
mark-other a b f g e n =
    let p = must-other 0xD5 a (must 0x4F b f) g e n in
    let q = must-other 0x4F b f g p.1 n in
    (p.0, q.0, q.1)

-- a whole record is the octets of that record, then the rest
pub whole-record : (s : List ℕ) {k : ℕ} {p r : List ℕ} → front s ≡ whole k p r → s ≡ record_of k p ++ r
unfolding front
whole-record [] e = clash (cc)
whole-record (a ∷ []) e = let m = must-other 0xD5 a _ _ e (λ q. clash (cc)) in clash (cc m.1)
whole-record (a ∷ b ∷ []) e = let m = mark-other a b _ _ e (λ q. clash (cc)) in clash (cc m.2)
whole-record (a ∷ b ∷ h ∷ []) e = let m = mark-other a b _ _ e (λ q. clash (cc)) in clash (cc m.2)
whole-record (a ∷ b ∷ h ∷ n ∷ s) {k} {p} {r} e =
    let m = mark-other a b _ _ e (λ q. clash (cc)) in
    by-test (leb n (length s)) (leb-true n (length s)) m.0 m.1 m.2
  where
    by-test : (t : Bool) → (t ≡ true → n ≤ length s) → a ≡ 0xD5 → b ≡ 0x4F → cond t (whole h (take n s) (drop n s)) cut ≡ whole k p r → a ∷ b ∷ h ∷ n ∷ s ≡ record_of k p ++ r
    by-test true m ea eb f =
        let l : length (take n s) ≡ n = length-take-le n s (m refl) in
        cc (take-append-drop n s)
    by-test false m ea eb f = clash (cc)

-- only no octets are nothing
pub nothing-empty : (s : List ℕ) → front s ≡ nothing → s ≡ []
unfolding front
nothing-empty [] e = refl
nothing-empty (a ∷ []) e = let m = must-other 0xD5 a _ _ e (λ q. clash (cc)) in clash (cc m.1)
nothing-empty (a ∷ b ∷ []) e = let m = mark-other a b _ _ e (λ q. clash (cc)) in clash (cc m.2)
nothing-empty (a ∷ b ∷ k ∷ []) e = let m = mark-other a b _ _ e (λ q. clash (cc)) in clash (cc m.2)
nothing-empty (a ∷ b ∷ k ∷ n ∷ s) e = by-test (leb n (length s)) (mark-other a b _ _ e (λ q. clash (cc))).2
  where
    by-test : (t : Bool) → cond t (whole k (take n s) (drop n s)) cut ≡ nothing → a ∷ b ∷ k ∷ n ∷ s ≡ []
    by-test true f = clash (cc)
    by-test false f = clash (cc)

-- ---- what stays when octets follow

-- a whole record stays whole, with the octets that follow at the end of the rest
pub whole_append : (s t : List ℕ) {k : ℕ} {p r : List ℕ} → front s ≡ whole k p r → front (s ++ t) ≡ whole k p (r ++ t)
whole_append s t {k} {p} {r} e =
    ap (λ (l : List ℕ). front (l ++ t)) (whole-record s e)
    ∙ ap front (append_assoc (record_of k p) r t)
    ∙ front-record k p (r ++ t)

either : (t : Bool) → cond t bad bad ≡ bad
either true = refl
either false = refl

-- a wrong first octet, and a wrong second octet, are bad whatever follows
pub no-first : (a : ℕ) (s : List ℕ) → eqb a 0xD5 ≡ false → front (a ∷ s) ≡ bad
unfolding front
no-first a [] h = rw h
no-first a (b ∷ []) h = rw h
no-first a (b ∷ k ∷ []) h = rw h
no-first a (b ∷ k ∷ n ∷ s) h = rw h

pub no_second : (a b : ℕ) (s : List ℕ) → eqb b 0x4F ≡ false → front (a ∷ b ∷ s) ≡ bad
unfolding front
no_second a b [] h = rw h (either (eqb a 0xD5))
no_second a b (k ∷ []) h = rw h (either (eqb a 0xD5))
no_second a b (k ∷ n ∷ s) h = rw h (either (eqb a 0xD5))

-- a bad record stays bad: by the first octet alone, and by both, where the front behind the tests is not bad
stays-bad : (a : ℕ) (f : Front) (t : List ℕ) → (f ≡ bad → ⊥) → must 0xD5 a f ≡ bad → front (a ∷ t) ≡ bad
stays-bad a f t n = by-test (eqb a 0xD5) (no-first a t)
  where
    by-test : (x : Bool) → (x ≡ false → front (a ∷ t) ≡ bad) → cond x f bad ≡ bad → front (a ∷ t) ≡ bad
    by-test true p e = absurd (n e)
    by-test false p e = p refl

mark-stays-bad : (a b : ℕ) (f : Front) (t : List ℕ) → (f ≡ bad → ⊥) → must 0xD5 a (must 0x4F b f) ≡ bad → front (a ∷ b ∷ t) ≡ bad
mark-stays-bad a b f t n = by-test (eqb a 0xD5) (eqb b 0x4F) (no-first a (b ∷ t)) (no_second a b t)
  where
    by-test : (x y : Bool) → (x ≡ false → front (a ∷ b ∷ t) ≡ bad) → (y ≡ false → front (a ∷ b ∷ t) ≡ bad) → cond x (cond y f bad) bad ≡ bad → front (a ∷ b ∷ t) ≡ bad
    by-test true true p q e = absurd (n e)
    by-test true false p q e = q refl
    by-test false y p q e = p refl

pub bad-append : (s t : List ℕ) → front s ≡ bad → front (s ++ t) ≡ bad
unfolding front
bad-append [] t e = clash (cc)
bad-append (a ∷ []) t e = stays-bad a cut t (λ q. clash (cc)) e
bad-append (a ∷ b ∷ []) t e = mark-stays-bad a b cut t (λ q. clash (cc)) e
bad-append (a ∷ b ∷ k ∷ []) t e = mark-stays-bad a b cut (k ∷ t) (λ q. clash (cc)) e
bad-append (a ∷ b ∷ k ∷ n ∷ s) t e = mark-stays-bad a b _ (k ∷ n ∷ s ++ t) (by-test (leb n (length s))) e
  where
    by-test : (x : Bool) → cond x (whole k (take n s) (drop n s)) cut ≡ bad → ⊥
    by-test true q = clash (cc)
    by-test false q = clash (cc)

-- ---- a cut record is a start of a record, and the other way round

-- s is octets, at least one, that some missing octets, at least one, make a record
pub record Begun (s : List ℕ) : Type 0 where
  pub begun : 0 < length s
  pub kind : ℕ
  pub payload : List ℕ
  pub missing : List ℕ
  pub lacks : 0 < length missing
  pub completes : s ++ missing ≡ record_of kind payload
  pub short : get_or s 3 0 < 256 → length payload < 256

-- the start of a record without a payload
begun-head : (s : List ℕ) (k : ℕ) (l : List ℕ) → 0 < length s → 0 < length l → s ++ l ≡ record_of k [] → Begun s
begun-head s k l hs hl e = record { begun = hs; kind = k; payload = []; missing = l; lacks = hl; completes = e; short = λ h. omega arith }

-- what is missing of a payload of n octets, of which s are there
missing_of : ℕ → List ℕ → List ℕ
missing_of n s = replicate (n - length s) 0

length-completed : (n : ℕ) (s : List ℕ) → length s < n → length (s ++ missing_of n s) ≡ n
unfolding missing_of
length-completed n s h = simp (length-append, length-replicate) (omega arith)

pub cut-begun : (s : List ℕ) → front s ≡ cut → Begun s
unfolding front missing_of
cut-begun [] e = clash (cc)
cut-begun (a ∷ []) e =
    let m = must-other 0xD5 a _ _ e (λ q. clash (cc)) in
    begun-head (a ∷ []) 0 (0x4F ∷ 0 ∷ 0 ∷ []) (omega arith) (omega arith) (cc m.0)
cut-begun (a ∷ b ∷ []) e =
    let m = mark-other a b _ _ e (λ q. clash (cc)) in
    begun-head (a ∷ b ∷ []) 0 (0 ∷ 0 ∷ []) (omega arith) (omega arith) (cc (m.0, m.1))
cut-begun (a ∷ b ∷ k ∷ []) e =
    let m = mark-other a b _ _ e (λ q. clash (cc)) in
    begun-head (a ∷ b ∷ k ∷ []) k (0 ∷ []) (omega arith) (omega arith) (cc (m.0, m.1))
cut-begun (a ∷ b ∷ k ∷ n ∷ s) e =
    let m = mark-other a b _ _ e (λ q. clash (cc)) in
    by-test (leb n (length s)) (leb-false n (length s)) m.0 m.1 m.2
  where
    by-test : (t : Bool) → (t ≡ false → length s < n) → a ≡ 0xD5 → b ≡ 0x4F → cond t (whole k (take n s) (drop n s)) cut ≡ cut → Begun (a ∷ b ∷ k ∷ n ∷ s)
    by-test true m ea eb f = clash (cc)
    by-test false m ea eb f =
        let h = m refl in
        let l : length (s ++ missing_of n s) ≡ n = length-completed n s h in
        record { begun = omega arith; kind = k; payload = s ++ missing_of n s; missing = missing_of n s; lacks = simp length-replicate (omega arith); completes = cc; short = λ o. omega arith }

-- ---- how long they are: fewer than 256 octets of payload, fewer than 259 octets of a cut record

pub whole_length : (s : List ℕ) {k : ℕ} {p r : List ℕ} → get_or s 3 0 < 256 → front s ≡ whole k p r → length p < 256
whole_length s o e = omega (arith, ap (λ (l : List ℕ). get_or l 3 0) (whole-record s e))

pub cut-length : (s : List ℕ) → get_or s 3 0 < 256 → front s ≡ cut → length s < 259
cut-length s o e =
    let b = cut-begun s e in
    omega (arith, b.short o, b.lacks, length-append s b.missing, ap length b.completes)

-- ---- what the answer for a position tells

-- a whole record: its payload starts four octets after the position, and all of it is there
pub record WholeAt (s : List ℕ) (at k start len : ℕ) : Type 0 where
  pub begins : start ≡ at + 4
  pub fits : start + len ≤ length s
  pub stands : front (drop at s) ≡ whole k (take len (drop start s)) (drop (start + len) s)

abbrev pub FrameSays : List ℕ → ℕ → Frame → Type 0
FrameSays s at Nothing = drop at s ≡ []
FrameSays s at Bad = front (drop at s) ≡ bad
FrameSays s at Cut = front (drop at s) ≡ cut
FrameSays s at (Whole k start len) = WholeAt s at k start len

whole-at : (s : List ℕ) (at k : ℕ) (p r : List ℕ) → front (drop at s) ≡ whole k p r → WholeAt s at k (at + 4) (length p)
whole-at s at k p r e =
    let w = whole-record (drop at s) e in
    let b : drop (at + 4) s ≡ p ++ r = sym (drop-drop 4 at s) ∙ ap (drop 4) w in
    let l = ap length w in
    let q : take (length p) (drop (at + 4) s) ≡ p = ap (take (length p)) b ∙ take-append_seam p r in
    let o : drop (at + 4 + length p) s ≡ r = sym (drop-drop (length p) (at + 4) s) ∙ ap (drop (length p)) b ∙ drop-append_seam p r in
    record { begins = refl; fits = omega (arith, l, length-append p r, length-drop at s); stands = rw (q, o) e }

told-located : (s : List ℕ) (at : ℕ) (f : Front) → front (drop at s) ≡ f → FrameSays s at (located at f)
unfolding located
told-located s at nothing e = nothing-empty (drop at s) e
told-located s at bad e = e
told-located s at cut e = e
told-located s at (whole k p r) e = whole-at s at k p r e

-- what an answer tells of the octets at its position
pub frame-told : (s : List ℕ) (at : ℕ) {r : Frame} → frame_at s at ≡ r → FrameSays s at r
unfolding frame_at
frame-told s at e = subst (λ (r : Frame). FrameSays s at r) e (told-located s at (front (drop at s)) refl)

-- the lengths at a position
pub whole-at-length : (s : List ℕ) {at k start len : ℕ} → get_or s (at + 3) 0 < 256 → WholeAt s at k start len → len < 256
whole-at-length s {at} {k} {start} {len} o f =
    let l = whole_length (drop at s) (rw get_or-drop o) f.stands in
    rw (length-take-le len (drop start s) (simp length-drop (omega (arith, f.fits)))) at l
