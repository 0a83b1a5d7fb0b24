-- In each run, only IPv6 addresses are left after the walk over the IPv4 ones, and none after the second walk. Assumes nothing.
use Rattle.std.proofs.Common.{◌≡◌, ◌+◌, ◌-◌, ◌≤◌, ◌<◌, ◌^◌, ℕ, List, length, get_or}
use Rattle.layout.specs.Table.{no_entry}
use Rattle.layout.specs.Words.{table_in, Valid}
use Rattle.layout.proofs.Words.{narrow-entries}
use Rattle.places.specs.Places.{places, lowest_run, stretch}
use Rattle.place_runs.proofs.Runs.{run-splits}
use Rattle.winner.specs.Steps.{score_of}
use Rattle.winner.proofs.Laws.{score-weight, first-there, walk_ends}
use Rattle.winner.proofs.Runs.{run-there, runs-begin, runs_on, run-begins, run-six, run-over}
use Rattle.winner.proofs.heaviest_by_runs.Goals as goal

-- the run is in use
there : (b : List ℕ) → Valid b → {s f e : ℕ} → s < 2 ^ length (table_in b).entries → (s ≡ 0 → ⊥) → f ≡ get_or (places s) 0 64 → e ≡ get_or (places s) 0 64 + lowest_run (places s) → e ≤ length (table_in b).entries
there b h = run-there (table_in b).entries h.sound.short

pub low_word_at-requires : goal.low_word_at-requires
low_word_at-requires c = (c.requires.0, first-there (table_in c.args.t.now).entries c.requires.0.sound.short c.requires.2 c.requires.1 c.first-at.ensures)

pub loop-left-init : goal.loop-left-init
loop-left-init c =
    let es = (table_in c.args.t.now).entries in
    let d = c.args.digest in
    runs-begin (score_of 1 d) es c.requires.0.sound.short c.requires.2 c.requires.1 c.first-at.ensures (score-weight d _ _ (get_or es c.first-at.result no_entry) c.low_word_at.ensures c.doubled_weight-top.ensures.answer)

pub heaviest_of_run-run4-requires : goal.heaviest_of_run-run4-requires
heaviest_of_run-run4-requires c =
    let b = c.args.t.now in
    let h = c.requires.0 in
    let v = c.loop-left.invariant.0 in
    let u = there b h v.within c.loop-left-test.true c.first.ensures c.run_end-end.ensures in
    (h, u, (v.there, v.scored), run-begins b h c.first.result c.run_end-end.result u)

pub heaviest_of_run-run6-requires : goal.heaviest_of_run-run6-requires
heaviest_of_run-run6-requires c =
    let b = c.args.t.now in
    let h = c.requires.0 in
    let r4 = c.heaviest_of_run-run4 in
    let u = there b h c.loop-left.invariant.0.within c.loop-left-test.true c.first.ensures c.run_end-end.ensures in
    (h, u, r4.ensures.walk.0, run-six b h r4.result.next c.run_end-end.result u r4.ensures.past)

pub loop-left-preserved : goal.loop-left-preserved
loop-left-preserved c =
    let b = c.args.t.now in
    let h = c.requires.0 in
    let es = (table_in b).entries in
    let left = c.loop-left.left in
    let f = c.first.result in
    let e = c.run_end-end.result in
    let n4 = c.heaviest_of_run-run4.result.next in
    let n6 = c.heaviest_of_run-run6.result.next in
    let u = there b h c.loop-left.invariant.0.within c.loop-left-test.true c.first.ensures c.run_end-end.ensures in
    let splits = run-splits (places left) f e c.first.ensures c.run_end-end.ensures c.after_run-left.ensures.places in
    let over = run-over b h n6 e u c.heaviest_of_run-run6.ensures.past in
    runs_on (score_of 1 c.args.digest) es (stretch f (e - f)) (stretch n4 (e - n4)) (stretch n6 (e - n6)) c.loop-left.invariant (c.after_run-left.ensures.less c.loop-left-test.true) splits c.heaviest_of_run-run4.ensures.walk c.heaviest_of_run-run6.ensures.walk over

pub returns : goal.returns
returns c =
    let b = c.args.t.now in
    let h = c.requires.0 in
    walk_ends (table_in b).entries h.sound.short h.sound.rising (narrow-entries b h) 1 c.args.digest c.args.set c.requires.2 c.loop-left.invariant c.loop-left-test.false
