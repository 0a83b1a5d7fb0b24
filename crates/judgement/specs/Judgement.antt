-- The rules of a record (document 01, "The bench program"), for the bench program and for dumps of its records (document 02, M-111): what a record of a run is.
--   announcement_of p, withdrawal_of v p, query_of v p == what a record with the payload p is that should be an announcement, a withdrawal or a query, IPv6 where v
--                     says so: bad where its length is wrong
--   first_of k      == what the first record is, of kind k: the text of an identifier (a plate, in document 01), whatever its payload, or bad
--   later_of k p    == what a record of kind k after the first is
--   judged_of f k p == what a record of kind k is, the first of a run where f says so
--   is_bad j        == whether a record that is j breaks the rules
use Rattle.std.specs.Prelude.{ℕ, ◌-◌, ◌%◌, Bool, true, false, cond, ◌&&◌, List, length, get_or, leb, eqb}
use Rattle.route.specs.Route.{total_of}
use Rattle.payloads.specs.Payloads.{size_of}
use Rattle.judgement.specs.declared.Judged.{Judged}
use Rattle.judgement.specs.declared.Judged.TheVariants.{Text, Announcement, Withdrawal, Query, Bad}

-- an announcement has its route octets at least, a withdrawal one address and no more, a query a tag and whole addresses
unfoldable pub announcement_of : List ℕ → Judged
announcement_of p = cond (leb (total_of (get_or p 20 0)) (length p)) Announcement Bad

unfoldable pub withdrawal_of : Bool → List ℕ → Judged
withdrawal_of v p = cond (eqb (length p) (size_of v)) (Withdrawal v) Bad

unfoldable pub query_of : Bool → List ℕ → Judged
query_of v p = cond (leb 4 (length p) && eqb ((length p - 4) % size_of v) 0) (Query v) Bad

-- the first record is of kind 0,
unfoldable pub first_of : ℕ → Judged
first_of k = cond (eqb k 0) Text Bad

-- and no later one is: these have the kinds 1, 2 and 3, and for IPv6 4 and 5 (document 02, M-105)
unfoldable pub later_of : ℕ → List ℕ → Judged
later_of k p =
    cond (eqb k 1) (announcement_of p)
    (cond (eqb k 2) (withdrawal_of false p)
    (cond (eqb k 3) (query_of false p)
    (cond (eqb k 4) (withdrawal_of true p)
    (cond (eqb k 5) (query_of true p)
    Bad))))

unfoldable pub judged_of : Bool → ℕ → List ℕ → Judged
judged_of f k p = cond f (first_of k) (later_of k p)

unfoldable pub is_bad : Judged → Bool
is_bad Text = false
is_bad Announcement = false
is_bad (Withdrawal v) = false
is_bad (Query v) = false
is_bad Bad = true
