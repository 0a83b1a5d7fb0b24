-- The turns of bench records, by kind (document 01, "The bench program"): what is printed, and the state after it.
-- Letters are octets: `a` 97, `p` 112, `w` 119.
--   Bench              == the state of a run: its phase and its table
--   Turn               == what one record does: the line that is printed, and the state after it
--   state_in h w        == the state of the phase h with the table that lies in the words w
--   running t          == the state in which records are carried out upon the table t
--   at_end t            == the state in which nothing more is looked at
--   bad_turn t          == a bad record's turn
--   text_turn t p       == the turn of the first record, the text p (a plate in document 01)
--   announce_turn t p   == the turn of an announcement: the route octets, 25 of them or, where octet 20 says 128, 37, then communities
--   withdraw_turn t v p == the turn of a withdrawal of an address, IPv6 where v says so
--   query_turn t v p    == the turn of a query: the tag, then the ready addresses, IPv6 where v says so
use Rattle.std.specs.Prelude.{ℕ, Bool, cond, List, get_or, take, drop, eqb}
use Rattle.octets.specs.Octets.{number_of}
use Rattle.esi.specs.Text.{read_text}
use Rattle.route.specs.Route.{total_of}
use Rattle.layout.specs.Table.{Table}
use Rattle.layout.specs.Words.{table_in}
use Rattle.table.specs.Table.{fresh_table, announced, withdrawn}
use Rattle.election.specs.Election.{elect_of}
use Rattle.answer_lines.specs.AnswerLines.{line, read_line, bad_line, query_line}
use Rattle.payloads.specs.Payloads.{address_of, addresses_in}
use Rattle.turns.specs.declared.Phase.{Phase}
use Rattle.turns.specs.declared.Phase.TheVariants.{Running, Ended}

pub record Bench : Type 0 where
  pub phase : Phase
  pub table : Table

pub record Turn : Type 0 where
  pub line : List ℕ
  pub next : Bench

-- STATES
abbrev pub state_in : Phase → List ℕ → Bench
state_in h w = record { phase = h; table = table_in w }

abbrev pub running : Table → Bench
running t = record { phase = Running; table = t }

abbrev pub at_end : Table → Bench
at_end t = record { phase = Ended; table = t }

-- TURNS
abbrev pub bad_turn : Table → Turn
bad_turn t = record { line = bad_line; next = at_end t }

-- a refused plate prints its line and ends
unfoldable pub text_turn : Table → List ℕ → Turn
text_turn t p = record {
  line = read_line 112 (read_text p).number (read_text p).offset;
  next = cond (eqb (read_text p).number 0) (running (fresh_table (read_text p).esi).table) (at_end t);
}

unfoldable pub announce_turn : Table → List ℕ → Turn
announce_turn t p =
    let n = total_of (get_or p 20 0) in
    let change = announced t (take n p) (drop n p) in
    record { line = read_line 97 change.number change.offset; next = running change.table }

unfoldable pub withdraw_turn : Table → Bool → List ℕ → Turn
withdraw_turn t v p =
    let change = withdrawn t (address_of v p) in
    record { line = line 119 change.number; next = running change.table }

unfoldable pub query_turn : Table → Bool → List ℕ → Turn
query_turn t v p = record {
  line = query_line (elect_of t.esi t.entries (number_of (take 4 p)) (addresses_in v (drop 4 p)));
  next = running t;
}
