use Rattle.std.proofs.Common.{◌≡◌, ℕ, ◌+◌, ◌<◌, List, ◌∷◌, length, drop, get_or, map, ap, sym, ◌∙◌}
use Rattle.std.proofs.lemmas.List.{drop_all, drop_more}
use Rattle.std.specs.Prelude.{option_copied}
use Rattle.plan_document.proofs.Views.{Entry}
use Rattle.plan_table.specs.Rules.{rule_of}
use Rattle.plan_table.proofs.Looking.{all_looked, looked_at, unfit, without_rule}
use Rattle.plan_table.proofs.look.required_keys.Goals as goal

step : (es : List Entry) (i : ℕ) (e : Entry) → i < length es → e ≡ get_or es i e → drop i es ≡ e ∷ drop (i + 1) es
step es i e within is = drop_more es i e within ∙ ap (λ x. x ∷ drop (i + 1) es) (sym is)

pub returns-in_err-rule : goal.returns-in_err-rule
returns-in_err-rule c =
    c.from_residual.ensures
    ∙ without_rule c.args.rules.now c.args.entries.now _ _ _ _ c.loop-entry.invariant (step _ _ _ c.loop-entry-test.true c.entry-item.is) c.as_str.result.now c.as_str.ensures.value _ c.rule_for.ensures (ap option_copied c.in_err-rule.was)

pub returns-then-not-fits : goal.returns-then-not-fits
returns-then-not-fits c =
    unfit c.args.rules.now c.args.entries.now _ _ _ _ c.loop-entry.invariant (step _ _ _ c.loop-entry-test.true c.entry-item.is) c.as_str.result.now c.as_str.ensures.value _ c.rule_for.ensures c.in_ok-rule.rule.now (ap option_copied c.in_ok-rule.was)
    (sym c.fits.ensures ∙ c.if-not-fits.true)

pub loop-entry-preserved : goal.loop-entry-preserved
loop-entry-preserved c =
    looked_at c.args.rules.now c.args.entries.now _ _ _ _ c.loop-entry.invariant (step _ _ _ c.loop-entry-test.true c.entry-item.is) c.as_str.result.now c.as_str.ensures.value _ c.rule_for.ensures c.in_ok-rule.rule.now (ap option_copied c.in_ok-rule.was)
    c.from-required.result (sym c.fits.ensures ∙ c.if-not-fits.false) c.from-required.ensures

pub returns : goal.returns
returns c = all_looked (map rule_of c.args.rules.now) c.args.entries.now _ _ c.loop-entry.invariant (drop_all c.loop-entry.entry-index c.args.entries.now c.loop-entry-test.false)
