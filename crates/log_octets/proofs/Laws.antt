-- Laws of `specs/Log.antt`: how long its parts are, one record more, and what each step of the writer leaves. Assumes nothing.
use Prim.Native.Nat.{ℕ, zero, suc, ◌+◌, ◌≤◌, ◌<◌}
use native.Mathlib.Numerals.{add-one}
use native.Mathlib.Omega.{arith}
use mathlib.Core.Path.{◌≡◌, refl, ap, sym, ◌∙◌}
use mathlib.Core.Bool.{true, false}
use mathlib.Core.List.{List, [], ◌∷◌, ◌++◌, append_assoc, append-nil}
use lib.ListN.{length, get_or, take, length-append, take-append-drop}
use lib.Seq.{take-suc, take-length}
use lib.Dec.{eqb}
use borrow.Author.Tests.{ne_eqb, eqb-true, le-ltb, lt-ltb, ltb-false}
use Rattle.lists.proofs.Bools.{cond-by}
use Rattle.lists.proofs.Checks.{refused-at, refused_none, passed}
use Rattle.lists.proofs.Lists.{every_in}
use Rattle.octets.specs.Octets.{stored}
use Rattle.octets.proofs.Laws.{stored-fits, stored-front, stored-stored}
use Rattle.address.specs.Address.{IsAddress, ipv4, ipv6, family_of}
use Rattle.esi.specs.Reserved.{reserved}
use Rattle.esi.specs.Text.{text_of}
use Rattle.esi.proofs.Places.{length-text}
use Rattle.route.specs.Route.{total_of}
use Rattle.route_fields.specs.Fields.{bits_of}
use Rattle.layout.specs.Table.{Entry, no_entry, Table, AddressRight, WellFormed}
use Rattle.layout.proofs.Words.{length-esi}
use Rattle.frames.specs.Frames.{record_of}
use Rattle.log_payloads.specs.Payload.{payload_of}
use Rattle.log_payloads.proofs.Laws.{length-payload}
use Rattle.log_octets.specs.Log.{entry_records, log_of, log_number, log_length, log_written}
use Rattle.log_octets.specs.Steps.{record_length}

-- LENGTHS
pub record-of-family : (r : List ℕ) → IsAddress r → 4 + (total_of (bits_of r) + 8) ≡ record_length (family_of r)
unfolding bits_of family_of total_of record_length
record-of-family r (ipv4 a e) = rw e
record-of-family r (ipv6 a b c d e) = rw e

pub record-most : (r : List ℕ) → IsAddress r → record_length (family_of r) ≤ 49
unfolding record_length family_of
record-most r (ipv4 a e) = rw e (omega arith)
record-most r (ipv6 a b c d e) = rw e (omega arith)

-- ONE RECORD MORE
entries-append : (i : List ℕ) (l m : List Entry) → entry_records i (l ++ m) ≡ entry_records i l ++ entry_records i m
unfolding entry_records
entries-append i [] m = refl
entries-append i (e ∷ l) m = ap (record_of 1 (payload_of i e) ++◌) (entries-append i l m) ∙ sym (append_assoc (record_of 1 (payload_of i e)) (entry_records i l) (entry_records i m))

pub entries_next : (i : List ℕ) (l : List Entry) (k : ℕ) → k < length l → entry_records i (take (k + 1) l) ≡ entry_records i (take k l) ++ record_of 1 (payload_of i (get_or l k no_entry))
unfolding entry_records
entries_next i l k h =
    let more : take (k + 1) l ≡ take k l ++ get_or l k no_entry ∷ [] = rw add-one (take-suc l k no_entry h) in
    ap (entry_records i) more ∙ entries-append i (take k l) (get_or l k no_entry ∷ []) ∙ ap (entry_records i (take k l) ++◌) (append-nil (record_of 1 (payload_of i (get_or l k no_entry))))

pub entries-all : (i : List ℕ) (l : List Entry) (k : ℕ) → k ≡ length l → entry_records i (take k l) ≡ entry_records i l
entries-all i l k e = ap (λ (n : ℕ). entry_records i (take n l)) e ∙ ap (entry_records i) (take-length l)

pub entries_none : (i : List ℕ) (l : List Entry) → entry_records i (take 0 l) ≡ []
unfolding entry_records
entries_none i l = refl

pub length-next : (i : List ℕ) (l : List Entry) (k : ℕ) → length i ≡ 10 → k < length l → IsAddress (get_or l k no_entry).address
    → length (entry_records i (take (k + 1) l)) ≡ length (entry_records i (take k l)) + record_length (family_of (get_or l k no_entry).address)
length-next i l k n h ra =
    let e : Entry = get_or l k no_entry in
    ap length (entries_next i l k h) ∙ length-append (entry_records i (take k l)) (record_of 1 (payload_of i e)) ∙ omega (arith, length-payload i e n ra, record-of-family e.address ra)

pub length-log : (t : Table) → length (log_of t) ≡ 33 + length (entry_records t.esi t.entries)
unfolding log_of
length-log t = omega (arith, length-append (record_of 0 (text_of t.esi)) (entry_records t.esi t.entries), length-text t.esi)

-- the records of some entries are no longer than those of all
pub length_some : (i : List ℕ) (l : List Entry) (k : ℕ) → length (entry_records i (take k l)) ≤ length (entry_records i l)
unfolding entry_records
length_some i [] zero = omega arith
length_some i [] (suc k) = omega arith
length_some i (e ∷ l) zero = omega arith
length_some i (e ∷ l) (suc k) =
    let h = length_some i l k in
    let a = length-append (record_of 1 (payload_of i e)) (entry_records i (take k l)) in
    let b = length-append (record_of 1 (payload_of i e)) (entry_records i l) in
    omega (arith, h, a, b)

-- A RECORD, head and payload
pub record-put : (d x y p : List ℕ) (at k : ℕ) → at + (4 + length p) ≤ length d → x ≡ stored d at (0xD5 ∷ 0x4F ∷ k ∷ length p ∷ []) → y ≡ stored x (at + 4) p → y ≡ stored d at (record_of k p)
record-put d x y p at k h e f = f ∙ ap (λ (z : List ℕ). stored z (at + 4) p) e ∙ stored-stored d at (0xD5 ∷ 0x4F ∷ k ∷ length p ∷ []) p (at + 4) refl (omega arith)

-- THE RECORDS OF ENTRIES: none yet, one more
pub records-none : (i : List ℕ) (l : List Entry) (d : List ℕ) → 33 ≤ length d → d ≡ stored d 33 (entry_records i (take 0 l))
records-none i l d h =
    let e : 33 + length (entry_records i (take 0 l)) ≡ 33 = ap (λ (x : List ℕ). 33 + length x) (entries_none i l) in
    sym (
    stored-fits d 33 (entry_records i (take 0 l)) (omega (arith, e))
    ∙ rw (e, entries_none i l, append-nil) (take-append-drop 33 d))

pub records-put : (i : List ℕ) (l : List Entry) (k : ℕ) (d x y : List ℕ) (at : ℕ) → k < length l → at ≡ 33 + length (entry_records i (take k l)) → 33 + length (entry_records i l) ≤ length d
    → x ≡ stored d 33 (entry_records i (take k l)) → y ≡ stored x at (record_of 1 (payload_of i (get_or l k no_entry))) → y ≡ stored d 33 (entry_records i (take (k + 1) l))
records-put i l k d x y at h e room q f =
    let a : List ℕ = entry_records i (take k l) in
    let rec : List ℕ = record_of 1 (payload_of i (get_or l k no_entry)) in
    let m : length (a ++ rec) ≤ length (entry_records i l) = rw (← entries_next i l k h) (length_some i l (k + 1)) in
    let fits : at + length rec ≤ length d = omega (arith, e, room, m, length-append a rec) in
    f ∙ ap (λ (z : List ℕ). stored z at rec) q ∙ stored-stored d 33 a rec at (sym e) fits ∙ ap (stored d 33) (sym (entries_next i l k h))

-- one entry more: its record has at most 49 octets, and there are at most 64 entries
pub size-more : (t : Table) (k size x : ℕ) → WellFormed t → k < length t.entries → x ≡ record_length (family_of (get_or t.entries k no_entry).address) → size ≡ 33 + length (entry_records t.esi (take k t.entries))
    → (x ≤ 49) × (k < 64) × (size + x ≡ 33 + length (entry_records t.esi (take (k + 1) t.entries)))
size-more t k size x w h e q =
    let is_address : IsAddress (get_or t.entries k no_entry).address = (every_in AddressRight t.entries k no_entry w.addresses h).0 in
    (rw e (record-most _ is_address), omega (arith, h, w.short), omega (arith, q, e, length-next t.esi t.entries k (length-esi t w) h is_address))

-- where its record ends
pub entry-end : (i : List ℕ) (l : List Entry) (k n at : ℕ) → k < length l → n ≡ length (payload_of i (get_or l k no_entry)) → at ≡ 33 + length (entry_records i (take k l))
    → at + (4 + n) ≡ 33 + length (entry_records i (take (k + 1) l))
entry-end i l k n at h e q =
    omega (arith, q, e, ap length (entries_next i l k h), length-append (entry_records i (take k l)) (record_of 1 (payload_of i (get_or l k no_entry))))

-- WHAT THE WRITER ANSWERS: what it tells to have written lies within the buffer
pub length-within : (t : Table) (n : ℕ) → log_length t n ≤ n
unfolding log_length log_number
length-within t n =
    cond-by (λ (m : ℕ). m ≤ n) (eqb (log_number t n) 0) (λ e. ltb-false n (length (log_of t)) (passed _ refl (eqb-true (log_number t n) 0 e)).1.0) (λ _. omega arith)

module _ (t : Table) (d : List ℕ) where
  -- of its answer n and l, and of what the buffer then holds
  abbrev pub Wrote : ℕ → ℕ → List ℕ → Type 0
  Wrote n l x = ((n ≡ log_number t (length d)) × (l ≡ log_length t (length d))) × (x ≡ log_written d t)

  refused : (n : ℕ) → suc n ≡ log_number t (length d) → Wrote (suc n) 0 d
  unfolding log_length log_written
  refused n q = ((q, rw (← q, ne_eqb (suc n) 0 (λ z. omega arith))), rw (← q, ne_eqb (suc n) 0 (λ z. omega arith)))

  pub wrote-reserved : reserved t.esi ≡ true → Wrote 4 0 d
  unfolding log_number
  wrote-reserved h = refused 3 (refused-at 0 _ tt h)

  module _ (re : reserved t.esi ≡ false) where
    pub wrote-short : (n : ℕ) → n ≡ length (log_of t) → length d < n → Wrote 14 0 d
    unfolding log_number
    wrote-short n e h = refused 13 (refused-at 1 _ (re, tt) (lt-ltb (length d) (length (log_of t)) (omega (arith, e, h))))

    pub wrote : (n : ℕ) (text x y : List ℕ) → n ≡ length (log_of t) → n ≤ length d → text ≡ text_of t.esi → x ≡ stored d 0 (record_of 0 text) → y ≡ stored x 33 (entry_records t.esi t.entries) → Wrote 0 n y
    unfolding log_number log_length log_written log_of
    wrote n text x y e h et ex ey =
        let z : 0 ≡ log_number t (length d) = refused_none _ (re, (le-ltb (length d) (length (log_of t)) (omega (arith, e, h)), tt)) in
        let first : List ℕ = record_of 0 (text_of t.esi) in
        let rest : List ℕ = entry_records t.esi t.entries in
        let lf : 0 + length first ≡ 33 = omega (arith, length-text t.esi) in
        let ll : length (first ++ rest) ≤ length d = omega (arith, e, h) in
        let put : y ≡ stored d 0 (first ++ rest) =
        ey ∙ ap (λ (b : List ℕ). stored b 33 rest) (ex ∙ ap (λ (s : List ℕ). stored d 0 (record_of 0 s)) et) ∙ stored-stored d 0 first rest 33 lf (omega (arith, ll, lf, length-append first rest)) in
        ((z, e ∙ rw (← z)), put ∙ stored-front d (first ++ rest) ll ∙ rw (← z))
