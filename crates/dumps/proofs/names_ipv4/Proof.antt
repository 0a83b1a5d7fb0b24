-- `names_ipv4` meets its contract: the family, then the last octet, then the word. Assumes nothing.
use native.Mathlib.Omega.{arith}
use Rattle.dumps.proofs.Counted.{total-25}
use Rattle.dumps.proofs.Equal.{four-other, four_same, four-octet}
use Rattle.dumps.proofs.names_ipv4.Statement.{statement}
use Rattle.dumps.proofs.names_ipv4.Tie as tie

shared-slice-read-if1 : tie.Need-bounds-payload-20
shared-slice-read-if1 c = let start = c.before.before in omega (arith, total-25 start.args.payload.now start.requires)

returns : tie.Need-returns-then-payload
returns c = let start = c.before.before.before in four-other start.args.payload.now start.requires _ c.if-payload.true

shared-slice-read-if2 : tie.Need-bounds-payload-24
shared-slice-read-if2 c = let start = c.before.before.before.before in omega (arith, total-25 start.args.payload.now start.requires)

returns-2 : tie.Need-returns-then-payload-word
returns-2 c =
    let read = c.before in
    let start = read.before.before.before.before in
    four-octet start.args.payload.now start.requires start.args.word read.if-payload.false (read.shared_slice_known-3-1.given 24).fits c.if-payload-word.true

word-at-requires : tie.Need-word_at-requires
word-at-requires c κs = let start = c.before.before.before.before.before in omega (arith, total-25 start.args.payload.now start.requires)

returns-3 : tie.Need-returns
returns-3 c =
    let other = c.before.before.before in
    let start = other.before.before.before in
    four_same start.args.payload.now start.requires _ _ other.if-payload.false c.word_at.ensures

pub names_ipv4_spec : {M : Type 1} → statement M
names_ipv4_spec =
    tie.close
    (tie.spec
    shared-slice-read-if1
    returns
    shared-slice-read-if2
    (λ c. omega arith)
    returns-2
    word-at-requires
    returns-3)
