-- Dumps of bench records (document 02, M-111): a dump is that document's word for a run of records as it was kept. The rules of a record are the bench program's
-- (document 01, "The bench program"): `front` cuts one off, and `judged_of` says what it is.
--   BenchRecord         == a record of a dump: its position, its kind and its payload
--   Dump                == what a run of octets is:
--     broken            ==   no dump: somewhere the rules are broken
--     records l         ==   the records l, one after the other
--   led e d             == the record e, then those of d
--   opened at f go      == what stands from position `at` on, with f at the front; go is what stands from a later position on
--   records_for n at s   == what the octets s are, which stand at position `at`, of at most n records
--   records_of s         == what the octets s are
--   route_in p           == the route octets in the payload p of an announcement: 25 of them or, where octet 20 says 128, 37
--   announces a p       == whether the payload p announces the address a: the route reader accepts its route, and the originator is a
--   counts a k p        == whether a record of kind k with the payload p counts for the address a: it is an announcement, and it announces a
--   Place               == where a record stands: 0, its position and how many octets it has, mark and length included; or a refusal number and zeros
--   place_of r          == that place, where the search answers r
--   standing e          == where the record e stands: its position, and how many octets it has, mark and length included
--   last_among a l b     == where the last of the records l that counts for the address a stands, or b where none does
--   last_of a d b        == the same for a dump, or 16
--   last_in a s          == where the last record of the octets s stands that counts for the address a, or 16 or 9: the refusal comes with no octets
use Rattle.std.specs.Prelude.{ℕ, zero, suc, ◌+◌, Bool, cond, ◌&&◌, Result, Ok, Err, List, [], ◌∷◌, length, get_or, take, eqb}
use Rattle.octets.specs.Octets.{same_numbers}
use Rattle.refusals.specs.Refusals.{not_present, bad_record}
use Rattle.route.specs.Route.{total_of, route_number, route_address}
use Rattle.frames.specs.Frames.{Front, nothing, bad, cut, whole, front}
use Rattle.judgement.specs.Judgement.{judged_of, is_bad}
use Rattle.refusals.specs.Numbers.{refusal_number}
use Rattle.refusals.specs.declared.Refusal.{Refusal}
use Rattle.dumps.specs.declared.Part.{Part}

pub record BenchRecord : Type 0 where
  pub at : ℕ
  pub kind : ℕ
  pub payload : List ℕ

pub data Dump : Type 0 where
  broken : Dump
  records : List BenchRecord → Dump

-- WHAT A RUN OF OCTETS IS
unfoldable pub led : BenchRecord → Dump → Dump
led e broken = broken
led e (records l) = records (e ∷ l)

-- the first record is the one at position 0
unfoldable pub opened : ℕ → Front → (ℕ → List ℕ → Dump) → Dump
opened at nothing go = records []
opened at bad go = broken
opened at cut go = broken
opened at (whole k p r) go =
    cond (is_bad (judged_of (eqb at 0) k p)) broken
    (led (record { at = at; kind = k; payload = p }) (go (at + 4 + length p) r))

unfoldable pub records_for : ℕ → ℕ → List ℕ → Dump
records_for zero at s = records []
records_for (suc n) at s = opened at (front s) (records_for n)

-- a record has at least four octets, so as many records as octets are always enough
unfoldable pub records_of : List ℕ → Dump
records_of s = records_for (length s) 0 s

-- WHICH RECORDS COUNT
abbrev pub route_in : List ℕ → List ℕ
route_in p = take (total_of (get_or p 20 0)) p

unfoldable pub announces : List ℕ → List ℕ → Bool
announces a p = eqb (route_number (route_in p)) 0 && same_numbers (route_address (route_in p)) a

unfoldable pub counts : List ℕ → ℕ → List ℕ → Bool
counts a k p = eqb k 1 && announces a p

-- THE LAST OF THEM
pub record Place : Type 0 where
  pub number : ℕ
  pub start : ℕ
  pub len : ℕ

abbrev pub place_of : Result Part Refusal → Place
place_of (Ok p) = record { number = 0; start = p.start; len = p.len }
place_of (Err r) = record { number = refusal_number r; start = 0; len = 0 }

abbrev pub standing : BenchRecord → Place
standing e = record { number = 0; start = e.at; len = 4 + length e.payload }

unfoldable pub last_among : List ℕ → List BenchRecord → Place → Place
last_among a [] b = b
last_among a (e ∷ l) b = last_among a l (cond (counts a e.kind e.payload) (standing e) b)

unfoldable pub last_of : List ℕ → Dump → Place → Place
last_of a broken b = record { number = bad_record; start = 0; len = 0 }
last_of a (records l) b = last_among a l b

unfoldable pub last_in : List ℕ → List ℕ → Place
last_in a s = last_of a (records_of s) (record { number = not_present; start = 0; len = 0 })
