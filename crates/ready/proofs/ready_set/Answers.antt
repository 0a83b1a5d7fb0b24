-- The set after each outcome of a lookup, and after the last. The check proves the rest. Assumes nothing.
use Rattle.std.proofs.Common.{arith, refl, ◌∙◌}
use Rattle.layout.specs.Words.{table_in}
use Rattle.ready.proofs.Laws.{ready-none, turn-found, turn-missing, turn_lt, turn-end}
use Rattle.ready.proofs.ready_set.Goals as goal
use Rattle.ready.proofs.ready_set.Goals.{in-Ok, in-Err}

pub loop-i-init : goal.loop-i-init
loop-i-init c = (refl, ready-none (table_in c.args.t.now).entries)

pub with-set-requires : goal.with-set-requires
with-set-requires c =
    omega (arith, turn_lt c.args.t.now c.args.ready.now c.requires c.loop-i._i c.loop-i.start (omega arith) c.loop-i.invariant.0 c.lookup-looked.ensures.found c.lookup-looked.ensures.no_address c.in-Ok.is)

pub overflow_add-first : goal.overflow_add-first
overflow_add-first c = record {
  fits = omega (arith, turn_lt c.args.t.now c.args.ready.now c.requires c.loop-i._i c.loop-i.start (omega arith) c.loop-i.invariant.0 c.lookup-looked.ensures.found c.lookup-looked.ensures.no_address c.in-Ok.is);
}

pub loop-i-preserved : goal.loop-i-preserved
loop-i-preserved c = (
  omega (arith, c.loop-i.invariant.0),
  elim c.match-looked.branch [
    | in-Ok w ↦ w.set-is ∙ w.with-set.ensures ∙ turn-found c.args.t.now c.args.ready.now c.requires c.loop-i._i c.loop-i.start (omega arith) c.loop-i.invariant.0 c.lookup-looked.ensures.found c.lookup-looked.ensures.no_address c.loop-i.invariant.1 w.in-Ok.is
    | in-Err w ↦ w.set-is ∙ turn-missing c.args.t.now c.args.ready.now c.requires c.loop-i._i c.loop-i.start (omega arith) c.loop-i.invariant.0 c.lookup-looked.ensures.found c.loop-i.invariant.1 w.in-Err.is
  ],
)

pub returns : goal.returns
returns c = turn-end c.args.t.now c.args.ready.now c.loop-i._i c.loop-i.set (omega arith) c.loop-i.invariant.1
