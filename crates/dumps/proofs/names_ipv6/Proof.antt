-- `names_ipv6` meets its contract: the family, then the words from the last one on. Assumes nothing.
use Prim.Native.Nat.{◌≤◌}
use native.Mathlib.Omega.{arith}
use lib.ListN.{length}
use Rattle.dumps.proofs.Counted.{total-25, total-37}
use Rattle.dumps.proofs.Equal.{six-other, six-fourth, six-third, six-second, six-first}
use Rattle.dumps.proofs.names_ipv6.Statement.{statement}
use Rattle.dumps.proofs.names_ipv6.Tie as tie

shared-slice-read-if1 : tie.Need-bounds-payload-20
shared-slice-read-if1 c = let start = c.before.before in omega (arith, total-25 start.args.payload.now start.requires)

returns : tie.Need-returns-then-payload
returns c = let start = c.before.before.before in six-other start.args.payload.now start.requires _ _ _ _ c.if-payload.true

-- all four words are there
fits : (c : tie.Else-payload) → 37 ≤ length c.args.payload.now
fits c = let start = c.before.before.before in total-37 start.args.payload.now start.requires c.if-payload.false

returns-2 : tie.Need-returns-then-word_at-a
returns-2 c =
    let read = c.before.before in
    let six = read.before in
    let start = six.before.before.before in
    six-fourth start.args.payload.now start.requires _ _ _ _ six.if-payload.false _ read.word_at.ensures c.if-word_at-a.true

returns-3 : tie.Need-returns-then-word_at-a-2
returns-3 c =
    let third = c.before.before in
    let fourth = third.before.before.before in
    let six = fourth.before in
    let start = six.before.before.before in
    six-third start.args.payload.now start.requires _ _ _ _ six.if-payload.false _ fourth.word_at.ensures third.if-word_at-a.false _ third.word_at-2.ensures c.if-word_at-a-2.true

returns-4 : tie.Need-returns-then-word_at-a-3
returns-4 c =
    let second = c.before.before in
    let third = second.before.before.before in
    let fourth = third.before.before.before in
    let six = fourth.before in
    let start = six.before.before.before in
    six-second start.args.payload.now start.requires _ _ _ _ six.if-payload.false _ fourth.word_at.ensures third.if-word_at-a.false _ third.word_at-2.ensures second.if-word_at-a-2.false _ second.word_at-3.ensures c.if-word_at-a-3.true

returns-5 : tie.Need-returns
returns-5 c =
    let first = c.before in
    let second = first.before.before.before in
    let third = second.before.before.before in
    let fourth = third.before.before.before in
    let six = fourth.before in
    let start = six.before.before.before in
    six-first start.args.payload.now start.requires _ _ _ _ six.if-payload.false _ fourth.word_at.ensures third.if-word_at-a.false _ third.word_at-2.ensures second.if-word_at-a-2.false _ _ second.word_at-3.ensures first.if-word_at-a-3.false first.word_at-4.ensures

pub names_ipv6_spec : {M : Type 1} → statement M
names_ipv6_spec =
    tie.close
    (tie.spec
    shared-slice-read-if1
    returns
    (λ c κs. omega (arith, fits c))
    returns-2
    (λ c κs. omega (arith, fits c.before.before.before))
    returns-3
    (λ c κs. omega (arith, fits c.before.before.before.before.before.before))
    returns-4
    (λ c κs. omega (arith, fits c.before.before.before.before.before.before.before.before.before))
    returns-5)
