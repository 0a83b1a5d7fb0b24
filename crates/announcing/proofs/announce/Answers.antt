-- `announce` meets its contract: the checks in their order, and then what `admit` answers. Assumes nothing.
use Rattle.std.proofs.Common.{◌≤◌, length, refl, sym, ap, ◌∙◌, arith}
use Rattle.route.specs.Route.{route_esi, told_check}
use Rattle.route.proofs.Laws.{route-length, told-originator}
use Rattle.layout.specs.Words.{table_in}
use Rattle.table.proofs.Calls as calls
use Rattle.table.proofs.Told.{announced-refused, announced-admitted, admitted-offset, list-says}
use Rattle.announcing.proofs.Passed.{passed_on}
use Rattle.announcing.proofs.announce.Goals as goal

pub returns-in_default : goal.returns-in_default
returns-in_default c =
    let b = c.args.t.now in
    let r = c.args.route.now in
    let l = c.args.communities.now in
    let told = announced-refused b c.requires r l _ _ (calls.announced-refused (table_in b) c.requires.sound r l _ _ (sym c.check-checked.ensures.value ∙ ap told_check c.unwrap_err.ensures)) in
    record { answer = told.0; kept = told.1.0; fault = told.1.1 }

pub slice_bounds-same_identifier-end : goal.slice_bounds-same_identifier-end
slice_bounds-same_identifier-end c =
    let r = c.args.route.now in
    let l : 25 ≤ length r = route-length r (told-originator r _ (sym c.check-checked.ensures.value ∙ ap told_check c.in-Ok.is)).0 in
    omega arith

pub returns-then-not-same_identifier : goal.returns-then-not-same_identifier
unfolding route_esi
returns-then-not-same_identifier c =
    let b = c.args.t.now in
    let r = c.args.route.now in
    let l = c.args.communities.now in
    let checked = sym c.check-checked.ensures.value ∙ ap told_check c.in-Ok.is in
    let own = calls.differs (table_in b) c.requires.sound r l _ checked (sym c.same_identifier.ensures ∙ c.if-not-same_identifier.true) in
    let told = announced-refused b c.requires r l 5 0 own in
    record { answer = rw (c.from.ensures.0, c.from.ensures.1) told.0; kept = told.1.0; fault = rw c.from.ensures.1 told.1.1 }

pub returns-in_err-election : goal.returns-in_err-election
unfolding route_esi
returns-in_err-election c =
    let b = c.args.t.now in
    let r = c.args.route.now in
    let l = c.args.communities.now in
    let checked = sym c.check-checked.ensures.value ∙ ap told_check c.in-Ok.is in
    let same = sym c.same_identifier.ensures ∙ c.if-not-same_identifier.false in
    let passed = passed_on c.from_residual.result _ c.from_residual.ensures.1 in
    let told = announced-refused b c.requires r l _ 0 (calls.unread (table_in b) c.requires.sound r l _ checked _ same c.in_err-election.ensures) in
    record { answer = rw (passed.0, passed.1) told.0; kept = told.1.0; fault = rw passed.1 told.1.1 }

pub returns-in_err-admit : goal.returns-in_err-admit
unfolding route_esi
returns-in_err-admit c =
    let b = c.args.t.now in
    let r = c.args.route.now in
    let l = c.args.communities.now in
    let checked = sym c.check-checked.ensures.value ∙ ap told_check c.in-Ok.is in
    let same = sym c.same_identifier.ensures ∙ c.if-not-same_identifier.false in
    let list = c.in_ok-election.ensures in
    let passed = passed_on c.from_residual-in_err-admit.result _ c.from_residual-in_err-admit.ensures.1 in
    let told = announced-admitted b c.requires r l _ _ _ _ (calls.done (table_in b) c.requires.sound r l _ checked _ _ _ same list refl refl refl) (admitted-offset (table_in b) _) (list-says l _ list refl) c.in_err-admit.ensures.answer c.admit.ensures.narrow in
    record { answer = rw (passed.0, passed.1) told.0; kept = told.1.0; fault = rw passed.1 told.1.1 }

pub returns : goal.returns
unfolding route_esi
returns c =
    let b = c.args.t.now in
    let r = c.args.route.now in
    let l = c.args.communities.now in
    let checked = sym c.check-checked.ensures.value ∙ ap told_check c.in-Ok.is in
    let same = sym c.same_identifier.ensures ∙ c.if-not-same_identifier.false in
    let list = c.in_ok-election.ensures in
    let told = announced-admitted b c.requires r l _ _ _ _ (calls.done (table_in b) c.requires.sound r l _ checked _ _ _ same list refl refl refl) (admitted-offset (table_in b) _) (list-says l _ list refl) c.in_ok-admit.ensures.answer c.admit.ensures.narrow in
    record { answer = told.0; kept = told.1.0; fault = told.1.1 }
