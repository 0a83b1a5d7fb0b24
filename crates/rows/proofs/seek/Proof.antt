-- `seek` meets its contract: the key's place is between `lo` and `hi`, the next look is there, and the looks so far with those that the range takes are those of the
-- whole. Assumes nothing.
use Prim.Native.Nat.{◌+◌, ◌-◌, ◌*◌, ◌≤◌, ◌<◌}
use native.Mathlib.Omega.{arith}
use mathlib.Core.Path.{ap₂, refl, sym, ◌∙◌}
use mathlib.Core.Logic.{⊎_elim}
use mathlib.Core.List.{map}
use borrow.Author.Rules.{rules}
use lib.ListN.{length}
use Rattle.rows.specs.Rows.{rows_in, row_key, middle, looked}
use Rattle.rows.proofs.Looks.{few-from}
use Rattle.rows.proofs.Outcomes.{Going, going-none, going-here, going-right, going-left}
use Rattle.rows.proofs.Rows.{row_fits, rows-length}
use Rattle.rows.proofs.seek.Statement.{statement}
use Rattle.rows.proofs.seek.Tie as tie

abbrev invariant-loop : tie.invariant-loop-lo
invariant-loop s n from to first made key k lo₀ hi₀ look₀ looks₀ lo hi look looks =
    let m = row_key key in
    let all = made + length (looked (to - from) m (map row_key (rows_in (length key) n s)) from first to) in
    Going (length key) n m s all looks lo look hi

abbrev decreases-loop : tie.decreases-loop-lo
decreases-loop s n from to first made key k lo₀ hi₀ look₀ looks₀ lo hi look looks = hi - lo

loop-holds : tie.Need-loop-lo-init invariant-loop decreases-loop
loop-holds c = let start = c.before.before in (start.requires.2, refl, start.requires.3)

-- no more than 65 looks among a number of rows that fits
add-looks : tie.Need-overflow_add-looks invariant-loop decreases-loop
add-looks c =
    let turn = c.before in
    let start = turn.before.before.before in
    let a = start.args in
    let k = length a.key.now in
    let l = map row_key (rows_in k a.n a.s.now) in
    let few = few-from (row_key a.key.now) l (a.to - a.from) 64 a.from a.first a.to start.requires.3 (omega (arith, start.requires.2.2, rows-length k a.n a.s.now, start.ranges.n)) in
    omega (arith, few, start.requires.4, turn.loop-lo.invariant.1)

-- the row that is looked at
fits : (c : tie.In-loop-lo invariant-loop decreases-loop) →
    let turn = c.before in
    let a = turn.args in
    (turn.loop-lo.look < a.n) × (turn.loop-lo.look * length a.key.now + length a.key.now ≤ length a.s.now)
fits c =
    let turn = c.before in
    let start = turn.before.before.before in
    let a = start.args in
    let k = length a.key.now in
    let used : turn.loop-lo.look < a.n = omega (arith, turn.loop-lo.invariant.2 c.loop-lo-test.true, turn.loop-lo.invariant.0.2, rows-length k a.n a.s.now) in
    (used, omega (arith, start.requires.0, row_fits k a.n turn.loop-lo.look used))

returns : tie.Need-returns-in-Equal invariant-loop decreases-loop
returns c =
    let called = c.before in
    let turn = called.before.before in
    let start = turn.before.before.before in
    let a = start.args in
    going-here (length a.key.now) a.n (row_key a.key.now) a.s.now start.requires.1 _ turn.loop-lo.looks turn.loop-lo.lo turn.loop-lo.look turn.loop-lo.hi turn.loop-lo.invariant called.loop-lo-test.true (sym c.in-Equal.is ∙ called.compare-order.ensures)

-- the range that is left lies in the one before
narrower : (c : tie.Joined-order invariant-loop decreases-loop) →
    let turn = c.before.before.before in
    (c.match-order.lo ≤ c.match-order.hi) × (c.match-order.hi ≤ turn.loop-lo.hi) × (c.match-order.hi - c.match-order.lo < turn.loop-lo.hi - turn.loop-lo.lo)
narrower c =
    let called = c.before in
    let turn = called.before.before in
    let w = turn.loop-lo.invariant.2 called.loop-lo-test.true in
    ⊎_elim (λ u. (omega (arith, w, u.lo-is, u.hi-is), omega (arith, w, u.lo-is, u.hi-is), omega (arith, w, u.lo-is, u.hi-is))) (λ u. (omega (arith, w, u.lo-is, u.hi-is), omega (arith, w, u.lo-is, u.hi-is), omega (arith, w, u.lo-is, u.hi-is))) c.match-order.branch-raw

-- and it can be halved
halfway-requires : tie.Need-halfway-look-requires invariant-loop decreases-loop
halfway-requires c κs =
    let turn = c.before.before.before in
    let start = turn.before.before.before in
    let a = start.args in
    let n = narrower c in
    (n.0, omega (arith, n.1, turn.loop-lo.invariant.0.2, rows-length (length a.key.now) a.n a.s.now, start.requires.5))

loop-again : tie.Need-loop-lo-preserved invariant-loop decreases-loop
loop-again c =
    let came = c.before in
    let called = came.before in
    let turn = called.before.before in
    let start = turn.before.before.before in
    let a = start.args in
    let k = length a.key.now in
    let m = row_key a.key.now in
    let v = turn.loop-lo.invariant in
    let t = called.loop-lo-test.true in
    let half = c.halfway-look.ensures in
    ⊎_elim
    (λ u. rw (u.lo-is, u.hi-is) (going-right k a.n m a.s.now start.requires.1 _ turn.loop-lo.looks turn.loop-lo.lo turn.loop-lo.look turn.loop-lo.hi v t (sym u.in-Less.is ∙ called.compare-order.ensures) _ (half ∙ ap₂ middle u.lo-is u.hi-is)))
    (λ u. rw (u.lo-is, u.hi-is) (going-left k a.n m a.s.now start.requires.1 _ turn.loop-lo.looks turn.loop-lo.lo turn.loop-lo.look turn.loop-lo.hi v t (sym u.in-Greater.is ∙ called.compare-order.ensures) _ (half ∙ ap₂ middle u.lo-is u.hi-is)))
    came.match-order.branch-raw

returns-2 : tie.Need-returns invariant-loop decreases-loop
returns-2 c =
    let turn = c.before in
    let start = turn.before.before.before in
    let a = start.args in
    going-none (length a.key.now) a.n (row_key a.key.now) a.s.now start.requires.1 _ turn.loop-lo.looks turn.loop-lo.lo turn.loop-lo.look turn.loop-lo.hi turn.loop-lo.invariant (omega arith)

pub seek_spec : {M : Type 1} → statement M
seek_spec =
    tie.close
    (tie.spec
    invariant-loop
    decreases-loop
    loop-holds
    add-looks
    (λ c. omega (arith, fits c))
    (λ c κs. (fits c).1)
    (λ c. search rules)
    returns
    (λ c. search rules)
    (λ c. omega (arith, fits c.before.before))
    (λ c. search rules)
    halfway-requires
    (λ c. (narrower c.before).2)
    loop-again
    returns-2)
