-- The last announcement of an address in two dumps (document 02, M-111): what is answered, and what of the dumps comes back.
--   is_broken d          == whether d is no dump
--   holds a s           == whether a record of the octets s counts for the address a
--   last_number a s t    == document 02's number for the address a and the dumps s and t, the checks in their order
--   dump_of a s t        == the dump that the record comes from: the first or, if there is none there, the second
--   PartOf s at n r     == r is the part of s that has n octets from position `at` on: it lies within, has these octets, and stands at that very place
--   Last a s at r       == r is the octets of the record at position `at` of the dump s, which is an announcement and counts for the address a, and no record after it does
--   Answered a s t n r  == the answer: the number n and the part r
--   HandedBack a s t r  == the same of a result: the part, or a refusal, which comes with none
use Rattle.std.specs.Prelude.{ℕ, ◌+◌, ◌≤◌, ◌≡◌, Bool, true, false, cond, not, ◌||◌, ◌&&◌, Result, Ok, Err, List, [], ◌∷◌, ◌++◌, length, take, drop, eqb}
use Rattle.std.specs.Borrow.{Bor}
use Rattle.lists.specs.Lists.{Every}
use Rattle.lists.specs.Checks.{first_refusal}
use Rattle.address.specs.Address.{is_zero}
use Rattle.refusals.specs.Refusals.{address_zero, not_present, bad_record}
use Rattle.refusals.specs.Numbers.{refusal_number}
use Rattle.refusals.specs.declared.Refusal.{Refusal}
use Rattle.frames.specs.Frames.{record_of}
use Rattle.dumps.specs.Dumps.{BenchRecord, Dump, broken, records, records_of, announces, counts, last_in}

-- THE NUMBER
unfoldable pub is_broken : Dump → Bool
is_broken broken = true
is_broken (records l) = false

unfoldable pub holds : List ℕ → List ℕ → Bool
holds a s = eqb (last_in a s).number 0

-- address zero; either dump breaks the rules; neither has such a record
unfoldable pub last_number : List ℕ → List ℕ → List ℕ → ℕ
last_number a s t =
    first_refusal (
    (is_zero a, address_zero)
    ∷ (is_broken (records_of s) || is_broken (records_of t), bad_record)
    ∷ (not (holds a s) && not (holds a t), not_present)
    ∷ []
    )

-- THE PART
unfoldable pub dump_of : List ℕ → Bor (List ℕ) → Bor (List ℕ) → Bor (List ℕ)
dump_of a s t = cond (holds a s.now) s t

pub record PartOf (s : Bor (List ℕ)) (at n : ℕ) (r : Bor (List ℕ)) : Type 0 where
  pub fits : at + n ≤ length s.now
  pub octets : r.now ≡ take n (drop at s.now)
  pub place : r.ref_ptr ≡ (s.ref_ptr.0, at + s.ref_ptr.1)

pub record Last (a s : List ℕ) (at : ℕ) (r : List ℕ) : Type 0 where
  pub earlier : List BenchRecord
  pub payload : List ℕ
  pub later : List BenchRecord
  pub dump : records_of s ≡ records (earlier ++ record { at = at; kind = 1; payload = payload } ∷ later)
  pub octets : r ≡ record_of 1 payload
  pub counted : announces a payload ≡ true
  pub none : Every (λ (e : BenchRecord). counts a e.kind e.payload ≡ false) later

-- with 0 the part is the last such record of its dump; with a refusal it is empty
pub record Answered (a : List ℕ) (s t : Bor (List ℕ)) (n : ℕ) (r : Bor (List ℕ)) : Type 0 where
  pub told : n ≡ last_number a s.now t.now
  pub part : n ≡ 0 → PartOf (dump_of a s t) (last_in a (dump_of a s t).now).start (last_in a (dump_of a s t).now).len r
  pub last : n ≡ 0 → Last a (dump_of a s t).now (last_in a (dump_of a s t).now).start r.now
  pub empty : (n ≡ 0 → ⊥) → r.now ≡ []

abbrev pub HandedBack : List ℕ → Bor (List ℕ) → Bor (List ℕ) → Result (Bor (List ℕ)) Refusal → Type 0
HandedBack a s t (Ok r) = Answered a s t 0 r
HandedBack a s t (Err e) = (refusal_number e ≡ last_number a s.now t.now) × (refusal_number e ≡ 0 → ⊥)
