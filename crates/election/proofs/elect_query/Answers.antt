-- `elect_query` meets its contract: a reserved tag, lengths that are not right, no candidate, and else the answer for the candidate set. The check proves the refusal of a long list. Assumes nothing.
use Rattle.std.proofs.Common.{◌≡◌, sym, ◌∙◌, false, length, ◌≤◌, arith}
use Rattle.tags.specs.Tags.{reserved_tag}
use Rattle.layout.specs.Words.{table_in}
use Rattle.settings.specs.Settings.{settings_in}
use Rattle.ready.specs.Ready.{ready_in}
use Rattle.ready.proofs.Laws.{length-ready}
use Rattle.answers.proofs.Laws.{set-in-use}
use Rattle.election.proofs.Laws.{promised, elects-10, elects-18, elects-12, elects-means}
use Rattle.election.proofs.elect_query.Goals as goal

pub returns-then-is_reserved : goal.returns-then-is_reserved
returns-then-is_reserved c q n g f =
    let a = c.args in
    let s = settings_in a.settings.now in
    let t = table_in a.t.now in
    let list = ready_in a.ready.now in
    promised s q t c.requires.0.sound a.tag list (elects-10 s q t.esi t.entries a.tag list (sym c.is_reserved.ensures ∙ c.if-is_reserved.true))

pub returns-then-not-right : goal.returns-then-not-right
returns-then-not-right c q n g f =
    let a = c.args in
    let s = settings_in a.settings.now in
    let t = table_in a.t.now in
    let list = ready_in a.ready.now in
    let free : reserved_tag a.tag ≡ false = sym c.is_reserved.ensures ∙ c.if-is_reserved.false in
    let short : length list ≤ 64 = omega (arith, length-ready a.ready.now) in
    promised s q t c.requires.0.sound a.tag list (elects-18 s q t.esi t.entries a.tag list free short (g ∙ c.if-not-right.true))

pub returns-then-set-eq0 : goal.returns-then-set-eq0
returns-then-set-eq0 c q n g f =
    let a = c.args in
    let s = settings_in a.settings.now in
    let t = table_in a.t.now in
    let list = ready_in a.ready.now in
    let free : reserved_tag a.tag ≡ false = sym c.is_reserved.ensures ∙ c.if-is_reserved.false in
    let short : length list ≤ 64 = omega (arith, length-ready a.ready.now) in
    elects-12 s q t c.requires.0.sound a.tag list _ c.in_use-u.ensures free short (g ∙ c.if-not-right.false) _ c.candidate_set-set.ensures c.if-set-eq0.true

pub elected_place-at-requires : goal.elected_place-at-requires
elected_place-at-requires c =
    let a = c.args in
    (c.requires.0, c.if-set-eq0.false, set-in-use (table_in a.t.now) c.requires.0.sound _ (ready_in a.ready.now) _ c.candidate_set-set.ensures, c.count-n.ensures.places)

pub returns : goal.returns
returns c q n g f =
    let a = c.args in
    let s = settings_in a.settings.now in
    let t = table_in a.t.now in
    let list = ready_in a.ready.now in
    let free : reserved_tag a.tag ≡ false = sym c.is_reserved.ensures ∙ c.if-is_reserved.false in
    let short : length list ≤ 64 = omega (arith, length-ready a.ready.now) in
    elects-means s q t c.requires.0.sound a.tag list _ c.in_use-u.ensures free short (g ∙ c.if-not-right.false) _ c.candidate_set-set.ensures _ c.if-set-eq0.false
    _ _ _ _ _ n f c.method-m.ensures.by_flow c.method-m.ensures.by_tag c.elected_place-at.ensures (c.named.ensures.answer, c.named.ensures.counted)
