-- The bench program's run (document 01, "The bench program"): octets in, octets out. The turns of records by kind are those of `turns`.
--   turn_of j t p       == the turn of a record that is j
--   judged_turn t f k p == the turn of a record of kind k, the first where f says so: the rules of a record are those of `judgement`
--   turn_in h t k p     == the turn of a record of kind k with the payload p in the phase h, upon the table t
--   turn b k p         == the turn of a record of kind k with the payload p in the state b
--   is_end h            == whether h is the last phase
--   has_ended b         == whether the run has ended in the state b
--   before b f go      == what is printed from the state b with f at the front of the input; go is the run on what follows a record
--   run_for n b s       == the run from the state b on the octets s, of at most n records
--   run_from b s        == the run from the state b on the octets s: all that is printed
--   first              == the state at the start
--   run_of s            == the whole output for the input s
--   end_of h s          == what is printed in the phase h where the input ends with the octets s, which are no whole record
--   takes d at p       == whether a record with the payload p is taken with its line at position `at` of a buffer that holds d: there is room for any
--                         line, and the payload has at most 255 octets
use Rattle.std.specs.Prelude.{ℕ, zero, suc, ◌+◌, Bool, true, false, cond, ◌&&◌, List, [], ◌++◌, length, replicate, leb, eqb}
use Rattle.layout.specs.Table.{Table}
use Rattle.table.specs.Table.{fresh_table}
use Rattle.frames.specs.Frames.{Front, nothing, bad, cut, whole, front}
use Rattle.answer_lines.specs.AnswerLines.{bad_line}
use Rattle.turns.specs.declared.Phase.{Phase}
use Rattle.turns.specs.declared.Phase.TheVariants.{Start, Running, Ended}
use Rattle.judgement.specs.declared.Judged.{Judged}
use Rattle.judgement.specs.declared.Judged.TheVariants.{Text, Announcement, Withdrawal, Query, Bad}
use Rattle.judgement.specs.Judgement.{judged_of}
use Rattle.turns.specs.Turns.{Bench, Turn, at_end, bad_turn, text_turn, announce_turn, withdraw_turn, query_turn}

-- WHICH TURN A RECORD'S IS
unfoldable pub turn_of : Judged → Table → List ℕ → Turn
turn_of Text t p = text_turn t p
turn_of Announcement t p = announce_turn t p
turn_of (Withdrawal v) t p = withdraw_turn t v p
turn_of (Query v) t p = query_turn t v p
turn_of Bad t p = bad_turn t

abbrev pub judged_turn : Table → Bool → ℕ → List ℕ → Turn
judged_turn t f k p = turn_of (judged_of f k p) t p

unfoldable pub turn_in : Phase → Table → ℕ → List ℕ → Turn
turn_in Start t k p = judged_turn t true k p
turn_in Running t k p = judged_turn t false k p
turn_in Ended t k p = record { line = []; next = at_end t }

abbrev pub turn : Bench → ℕ → List ℕ → Turn
turn b k p = turn_in b.phase b.table k p

-- THE RUN
unfoldable pub is_end : Phase → Bool
is_end Start = false
is_end Running = false
is_end Ended = true

abbrev pub has_ended : Bench → Bool
has_ended b = is_end b.phase

unfoldable pub before : Bench → Front → (Bench → List ℕ → List ℕ) → List ℕ
before b nothing go = []
before b bad go = bad_line
before b cut go = bad_line
before b (whole k p r) go = (turn b k p).line ++ go (turn b k p).next r

unfoldable pub run_for : ℕ → Bench → List ℕ → List ℕ
run_for zero b s = []
run_for (suc n) b s = cond (has_ended b) [] (before b (front s) (run_for n))

-- a record has at least four octets, so as many turns as octets are always enough
unfoldable pub run_from : Bench → List ℕ → List ℕ
run_from b s = run_for (length s) b s

unfoldable pub first : Bench
first = record { phase = Start; table = (fresh_table (replicate 10 0)).table }

unfoldable pub run_of : List ℕ → List ℕ
run_of s = run_from first s

unfoldable pub end_of : Phase → List ℕ → List ℕ
end_of h s = cond (is_end h) [] (cond (eqb (length s) 0) [] bad_line)

-- WHETHER A RECORD IS TAKEN
unfoldable pub takes : List ℕ → ℕ → List ℕ → Bool
takes d at p = leb (at + 48) (length d) && leb (length p) 255
