-- What is read at a position, and what comes of it, by the laws of `Scan`. Assumes nothing.
use Rattle.std.proofs.Common.{sym, ◌∙◌, arith}
use Rattle.dumps.proofs.Scan.{going_start, going_end, going-broken, going-passed, going-counted}
use Rattle.dumps.proofs.last.Goals as goal

pub loop-found-init : goal.loop-found-init
loop-found-init c = record { within = omega arith; going = going_start _ _ }

pub returns-in-End : goal.returns-in-End
returns-in-End c = going_end _ _ _ _ c.loop-found.invariant.going (sym c.read_at-read.ensures ∙ c.in-End.is)

pub returns-in-Broken : goal.returns-in-Broken
returns-in-Broken c = going-broken _ _ _ _ c.loop-found.invariant.going (sym c.read_at-read.ensures ∙ c.in-Broken.is)

pub loop-found-smaller-in-Passed : goal.loop-found-smaller-in-Passed
loop-found-smaller-in-Passed c =
    let w = going-passed _ _ _ _ _ c.loop-found.invariant.going (sym c.read_at-read.ensures ∙ c.in-Passed.is) in
    omega (arith, w.0, w.1)

pub loop-found-preserved-in-Passed : goal.loop-found-preserved-in-Passed
loop-found-preserved-in-Passed c =
    let w = going-passed _ _ _ _ _ c.loop-found.invariant.going (sym c.read_at-read.ensures ∙ c.in-Passed.is) in
    record { within = w.1; going = w.2 }

pub overflow_sub-found : goal.overflow_sub-found
overflow_sub-found c =
    let w = going-counted _ _ _ _ _ c.loop-found.invariant.going (sym c.read_at-read.ensures ∙ c.in-Counted.is) in
    omega (arith, w.0)

pub loop-found-smaller : goal.loop-found-smaller
loop-found-smaller c =
    let w = going-counted _ _ _ _ _ c.loop-found.invariant.going (sym c.read_at-read.ensures ∙ c.in-Counted.is) in
    omega (arith, w.0, w.1)

pub loop-found-preserved : goal.loop-found-preserved
loop-found-preserved c =
    let w = going-counted _ _ _ _ _ c.loop-found.invariant.going (sym c.read_at-read.ensures ∙ c.in-Counted.is) in
    record { within = w.1; going = w.2 }
