-- Laws of answer lines and of what is written: how long lines are, which line is printed, and octets written into a buffer.
-- Assumes nothing.
use Prim.Native.Nat.{ℕ, ◌+◌, ◌^◌, ◌≤◌, ◌<◌}
use native.Mathlib.Nat.{add-zero}
use native.Mathlib.Omega.{arith}
use mathlib.Core.Path.{◌≡◌, ap, ◌∙◌, sym, subst}
use mathlib.Core.Bool.{true, false}
use mathlib.Core.List.{List, [], ◌∷◌, ◌++◌, append-nil}
use lib.ListN.{length, get_or, length-append, take-append-drop}
use lib.Seq.{take_all}
use lib.Dec.{eqb}
use borrow.Author.Tests.{eq-eqb, ne_eqb, le-leb, lt-leb}
use Rattle.answers.specs.Answers.{Answer}
use Rattle.lists.proofs.Bools.{cond-by}
use Rattle.octets.specs.Octets.{octets_of}
use Rattle.octets.proofs.Laws.{octets-octets, length-octets, elements, take-elements, stored-fits}
use Rattle.address.specs.Address.{octets_in}
use Rattle.address.proofs.Laws.{length-octets-in}
use Rattle.lines.specs.Lines.{decimal, dotted, hex, Put}
use Rattle.lines.proofs.Laws.{put-position, put_all, length-decimal, length-decimal-octet, length-dots, length-hex}
use Rattle.answer_lines.specs.AnswerLines.{line, offset_line, has_offset, read_line, address_text, elected_line, query_line, Written}

-- ---- lines

pub length-line : (c n : ℕ) → n < 256 → length (line c n) ≤ 48
unfolding line
length-line c n h = omega (arith, length-append (decimal n) (10 ∷ []), length-decimal-octet n h)

pub length-offset : (c n p : ℕ) → n < 256 → p < 2 ^ 64 → length (offset_line c n p) ≤ 48
unfolding offset_line
length-offset c n p h l =
    omega (
      arith,
      length-append (decimal n) (32 ∷ decimal p ++ (10 ∷ [])),
      length-append (decimal p) (10 ∷ []),
      length-decimal-octet n h,
      length-decimal 19 p (omega arith),
    )

-- after which numbers an offset is printed
module _ (n : ℕ) where
  pub offset-first : 1 ≤ n → n ≤ 4 → has_offset n ≡ true
  unfolding has_offset
  offset-first h l = rw (le-leb 1 n h, le-leb n 4 l)

  pub offset-6 : n ≡ 6 → has_offset n ≡ true
  unfolding has_offset
  offset-6 e = rw e

  pub offset-13 : n ≡ 13 → has_offset n ≡ true
  unfolding has_offset
  offset-13 e = rw e

  pub no-offset-0 : n < 1 → has_offset n ≡ false
  unfolding has_offset
  no-offset-0 h = rw (lt-leb 1 n h, ne_eqb n 6 (λ z. omega arith), ne_eqb n 13 (λ z. omega arith))

  pub no-offset : 4 < n → (n ≡ 6 → ⊥) → (n ≡ 13 → ⊥) → has_offset n ≡ false
  unfolding has_offset
  no-offset h a b = rw (le-leb 1 n (omega arith), lt-leb n 4 h, ne_eqb n 6 a, ne_eqb n 13 b)

-- which line is that of what was read
pub read-offset : (c n p : ℕ) → has_offset n ≡ true → offset_line c n p ≡ read_line c n p
unfolding read_line
read-offset c n p h = rw h

pub read_none : (c n p : ℕ) → has_offset n ≡ false → line c n ≡ read_line c n p
unfolding read_line
read_none c n p h = rw h

length-text : (f : ℕ) (a : List ℕ) → length a ≡ 4 → length (address_text f a) ≤ 32
unfolding address_text
length-text f a n =
    cond-by (λ (s : List ℕ). length s ≤ 32) (eqb f 6)
    (λ _. omega (arith, length-hex (octets_in a), length-octets-in a))
    (λ _. omega (arith, length-dots (octets_of 4 (get_or a 0 0)) (octets-octets 4 (get_or a 0 0)), length-octets 4 (get_or a 0 0)))

pub length-elected : (f : ℕ) (a : List ℕ) (n : ℕ) → length a ≡ 4 → n < 2 ^ 32 → length (elected_line f a n) ≤ 48
unfolding elected_line
length-elected f a n l h =
    omega (arith, length-append (address_text f a) (32 ∷ decimal n ++ (10 ∷ [])), length-append (decimal n) (10 ∷ []), length-text f a l, length-decimal 9 n (omega arith))

-- which form an address has
pub text-six : (f : ℕ) (a o : List ℕ) → f ≡ 6 → length a ≡ 4 → o ≡ octets_in (get_or a 0 0 ∷ get_or a 1 0 ∷ get_or a 2 0 ∷ get_or a 3 0 ∷ []) → hex o ≡ address_text f a
unfolding address_text
text-six f a o e n q = rw (eq-eqb f 6 e) (ap hex (q ∙ ap octets_in (sym (take-elements 4 0 a (omega arith)) ∙ take_all 4 a (omega arith))))

pub text-four : (f : ℕ) (a o : List ℕ) → (f ≡ 6 → ⊥) → o ≡ octets_of 4 (get_or a 0 0) → dotted (elements 4 0 o) ≡ address_text f a
unfolding address_text
text-four f a o n q = rw (ne_eqb f 6 n) (ap dotted (sym (take-elements 4 0 o (omega (arith, ap length q, length-octets 4 (get_or a 0 0)))) ∙ take_all 4 o (omega (arith, ap length q, length-octets 4 (get_or a 0 0))) ∙ q))

pub query-refused : (r : Answer) → (r.number ≡ 0 → ⊥) → line 113 r.number ≡ query_line r
unfolding query_line
query-refused r h = rw (ne_eqb r.number 0 h)

pub query-accepted : (r : Answer) → r.number ≡ 0 → elected_line r.family r.address r.n ≡ query_line r
unfolding query_line
query-accepted r h = rw (eq-eqb r.number 0 h)

-- ---- octets written into a buffer

-- what is put where there is room is written
pub written : {d : List ℕ} {at : ℕ} {s : List ℕ} {r : ℕ} {e : List ℕ} → Put d at s r e → at + length s ≤ length d → Written d at s r e
written p h = record { fits = h; position = put-position p h; buffer = p.buffer }

-- pieces that are put one after another are written as a whole
pub written_all : {d : List ℕ} {at : ℕ} {s : List ℕ} {r : ℕ} {e t : List ℕ}
    → (at + length s ≤ length d → Put d at s r e) → s ≡ t → at + length t ≤ length d → Written d at t r e
written_all p q h = written (put_all p q h) h

-- the same octets, said otherwise
pub written_as : {d : List ℕ} {at : ℕ} {s t : List ℕ} {r : ℕ} {e : List ℕ} → Written d at s r e → s ≡ t → Written d at t r e
written_as {d} {at} {s} {t} {r} {e} w q = subst (λ (l : List ℕ). Written d at l r e) q w

-- no octets written into a buffer
pub written_none : (d : List ℕ) (at : ℕ) → at ≤ length d → Written d at [] at d
written_none d at h =
    record { fits = omega arith; position = omega arith; buffer = sym (stored-fits d at [] (omega arith) ∙ rw (add-zero, append-nil) (take-append-drop at d)) }
