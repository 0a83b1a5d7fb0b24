-- Each return is one case of the definition, by the kind of the first entry. Assumes nothing.
use Rattle.std.proofs.Common.{ℕ, ap, arith}
use mathlib.Core.Path.{sym, ◌∙◌}
use Rattle.layout.specs.Words.{table_in}
use Rattle.settings.specs.Settings.{settings_in}
use Rattle.agreement.specs.Steps.{all_of_kind}
use Rattle.agreement.proofs.Laws.{usable-bound, in-use-empty, in-use-unusable, in-use-differs, in-use-agreed}
use Rattle.agreement.proofs.in_use.Goals as goal

pub returns-then-count-eq0 : goal.returns-then-count-eq0
returns-then-count-eq0 c = in-use-empty (settings_in c.args.settings.now) (table_in c.args.t.now).entries (omega arith)

pub returns-then-not-may_agree : goal.returns-then-not-may_agree
returns-then-not-may_agree c =
    in-use-unusable (settings_in c.args.settings.now) (table_in c.args.t.now).entries (omega arith) _ c.kind_at-kind.ensures (sym c.may_agree.ensures ∙ c.if-not-may_agree.true)

pub returns-then-not-all_of_one_kind : goal.returns-then-not-all_of_one_kind
returns-then-not-all_of_one_kind c =
    let es = (table_in c.args.t.now).entries in
    in-use-differs (settings_in c.args.settings.now) es (omega arith) _ c.kind_at-kind.ensures (ap (λ (k : ℕ). all_of_kind k es) c.kind_at-kind.ensures ∙ sym c.all_of_one_kind.ensures ∙ c.if-not-all_of_one_kind.true)

pub overflow_cast-algorithm : goal.overflow_cast-algorithm
overflow_cast-algorithm c = omega (arith, usable-bound (settings_in c.args.settings.now) _ c.requires.1.sound (sym c.may_agree.ensures ∙ c.if-not-may_agree.false))

pub returns : goal.returns
returns c =
    let es = (table_in c.args.t.now).entries in
    in-use-agreed (settings_in c.args.settings.now) es (omega arith) _ c.kind_at-kind.ensures (sym c.may_agree.ensures ∙ c.if-not-may_agree.false)
    (ap (λ (k : ℕ). all_of_kind k es) c.kind_at-kind.ensures ∙ sym c.all_of_one_kind.ensures ∙ c.if-not-all_of_one_kind.false)
