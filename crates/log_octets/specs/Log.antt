-- A table written out as a run of bench records (document 02, M-112): the text of its identifier first, then one announcement for each entry, in address order. The payload of an announcement is said in `log_payloads`.
--   entry_records i l   == the records of the entries l, one after the other
--   log_of t            == the whole run
--   log_number t n      == the number that the writer answers for a buffer of n octets: 4 for the table of a reserved identifier, 14 for too little room
--   log_length t n      == how many octets it tells to have written: none with a refusal
--   Logged              == what the writer tells: a number, 0 where it is not refused, and how many octets it has written
--   logged_of a         == the same of its answer a
--   log_written d t     == what a buffer holds after the writer, where it held d: only the octets of the run change
use Rattle.std.specs.Prelude.{ℕ, Result, Ok, Err, cond, List, [], ◌∷◌, ◌++◌, length, drop, ltb, eqb}
use Rattle.lists.specs.Checks.{first_refusal}
use Rattle.esi.specs.Reserved.{reserved}
use Rattle.esi.specs.Text.{text_of}
use Rattle.layout.specs.Table.{Entry, Table}
use Rattle.log_payloads.specs.Payload.{payload_of}
use Rattle.frames.specs.Frames.{record_of}
use Rattle.refusals.specs.Refusals.{esi_reserved, buffer_short}
use Rattle.refusals.specs.Numbers.{refusal_number}
use Rattle.refusals.specs.declared.Refusal.{Refusal}

-- an announcement is a record of kind 1, and the text of an identifier one of kind 0
unfoldable pub entry_records : List ℕ → List Entry → List ℕ
entry_records i [] = []
entry_records i (e ∷ l) = record_of 1 (payload_of i e) ++ entry_records i l

unfoldable pub log_of : Table → List ℕ
log_of t = record_of 0 (text_of t.esi) ++ entry_records t.esi t.entries

unfoldable pub log_number : Table → ℕ → ℕ
log_number t n =
    first_refusal (
    (reserved t.esi, esi_reserved)
    ∷ (ltb n (length (log_of t)), buffer_short)
    ∷ []
    )

unfoldable pub log_length : Table → ℕ → ℕ
log_length t n = cond (eqb (log_number t n) 0) (length (log_of t)) 0

unfoldable pub log_written : List ℕ → Table → List ℕ
log_written d t = cond (eqb (log_number t (length d)) 0) (log_of t ++ drop (length (log_of t)) d) d

pub record Logged : Type 0 where
  pub number : ℕ
  pub length : ℕ

abbrev pub logged_of : Result ℕ Refusal → Logged
logged_of (Ok n) = record { number = 0; length = n }
logged_of (Err r) = record { number = refusal_number r; length = 0 }
