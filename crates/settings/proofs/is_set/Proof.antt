-- `is_set` meets its contract: 0 is not set, and another number is if it is one of the two. Assumes nothing.
use native.Mathlib.Omega.{arith}
use Rattle.settings.specs.Settings.{settings_in}
use Rattle.settings.proofs.Laws.{length-settings, zero-not-set, first-set, second-set}
use Rattle.settings.proofs.is_set.Statement.{statement}
use Rattle.settings.proofs.is_set.Tie as tie

returns : tie.Need-returns-then-algorithm-eq0
returns c = let a = c.args in zero-not-set (settings_in a.s.now) a.algorithm c.if-algorithm-eq0.true

shared-slice-read-if2 : tie.Need-bounds-s-0
shared-slice-read-if2 c = let start = c.before.before in omega (arith, length-settings start.args.s.now start.requires)

returns-2 : tie.Need-returns-then-algorithm-s
unfolding settings_in
returns-2 c =
    let other = c.before.before in
    let a = other.args in
    first-set (settings_in a.s.now) a.algorithm other.if-algorithm-eq0.false c.if-algorithm-s.true

shared-slice-read-result : tie.Need-bounds-s-1
shared-slice-read-result c = let start = c.before.before.before.before in omega (arith, length-settings start.args.s.now start.requires)

returns-3 : tie.Need-returns
unfolding settings_in
returns-3 c =
    let second = c.before in
    let other = second.before.before in
    let a = other.args in
    second-set (settings_in a.s.now) a.algorithm other.if-algorithm-eq0.false second.if-algorithm-s.false

pub is_set_spec : {M : Type 1} → statement M
is_set_spec =
    tie.close
    (tie.spec
    returns
    shared-slice-read-if2
    returns-2
    shared-slice-read-result
    returns-3)
