-- After the walk over the IPv4 addresses only IPv6 ones are left, and after the second walk none. Assumes nothing.
use Rattle.std.proofs.Common.{◌≡◌, ◌<◌, ◌^◌, ◌%◌, ◌*◌, ℕ, List, length, get_or}
use Rattle.address.specs.Address.{address_number}
use Rattle.layout.specs.Table.{no_entry}
use Rattle.layout.specs.Words.{table_in, Valid}
use Rattle.layout.proofs.Words.{narrow-entries}
use Rattle.places.specs.Places.{places}
use Rattle.choice.specs.Choice.{best_in, higher}
use Rattle.hrw.specs.Weight.{weight_of}
use Rattle.winner.specs.Winner.{entries_at}
use Rattle.winner.specs.Steps.{score_of, Toward}
use Rattle.winner.proofs.Laws.{Step, score-weight, first-there, walk_begins, walk_through, walk_ends, family-begins, family-six, family-ends}
use Rattle.winner.proofs.heaviest.Goals as goal

-- the walk at its first place
begun : (b : List ℕ) → Valid b → (s d : ℕ) → (s ≡ 0 → ⊥) → s < 2 ^ length (table_in b).entries → {f v r : ℕ} (w : ℕ) → Step s f r
    → w ≡ address_number (get_or (table_in b).entries f no_entry).address % 2 ^ 32 → v ≡ 2 * weight_of w d
    → Toward (best_in (higher (score_of 1 d)) no_entry (entries_at (table_in b).entries (places s))) (score_of 1 d) (table_in b).entries f v r
begun b h s d n within {f} {v} w step e q =
    let es = (table_in b).entries in
    walk_begins es h.sound.short step within (score_of 1 d) (score-weight d w v (get_or es f no_entry) e q)

pub low_word_at-requires : goal.low_word_at-requires
low_word_at-requires c = (c.requires.0, first-there (table_in c.args.t.now).entries c.requires.0.sound.short c.requires.2 c.requires.1 c.first-first.ensures)

pub over_family-v4-requires : goal.over_family-v4-requires
over_family-v4-requires c =
    let a = c.args in
    let step : Step a.set c.first-first.result c.rest.result = record { some = c.requires.1; first = c.first-first.ensures; rest = c.rest.ensures.places; less = c.rest.ensures.less c.requires.1 } in
    let v = (begun a.t.now c.requires.0 a.set a.digest c.requires.1 c.requires.2 _ step c.low_word_at.ensures c.doubled_weight-top.ensures.answer).0 in
    (c.requires.0, v, family-begins a.t.now c.requires.0 v.within)

pub over_family-v6-requires : goal.over_family-v6-requires
over_family-v6-requires c =
    let v4 = c.over_family-v4.ensures in
    (c.requires.0, v4.walk.0, family-six c.args.t.now c.requires.0 v4.walk.0.within v4.past)

pub returns : goal.returns
returns c =
    let a = c.args in
    let h = c.requires.0 in
    let step : Step a.set c.first-first.result c.rest.result = record { some = c.requires.1; first = c.first-first.ensures; rest = c.rest.ensures.places; less = c.rest.ensures.less c.requires.1 } in
    let v = begun a.t.now h a.set a.digest c.requires.1 c.requires.2 _ step c.low_word_at.ensures c.doubled_weight-top.ensures.answer in
    let v6 = c.over_family-v6.ensures in
    let w = walk_through (walk_through v c.over_family-v4.ensures.walk) v6.walk in
    walk_ends (table_in a.t.now).entries h.sound.short h.sound.rising (narrow-entries a.t.now h) 1 a.digest a.set c.requires.2 w (family-ends a.t.now h w.0.within v6.past)
