use Rattle.std.proofs.Common.{◌≡◌, Bool, true, false, ◌||◌, refl, ap, sym, subst, ◌∙◌, arith}
use Rattle.plan_document.specs.View.{view}
use Rattle.plan_document.specs.declared.values.Value.{Value, Table}
use Rattle.plan_table.specs.Look.{any_holds}
use Rattle.plan_table.specs.Tables.{has_idle_key, lacks_more}
use Rattle.plan_table.proofs.Fitting.{seen_wrong, seen_fewer, seen_all, none_idle, as_rules, as_many}
use Rattle.plan_table.proofs.look.any_holds.Goals as goal

or_false : (b : Bool) → (b || false) ≡ b
or_false true = refl
or_false false = refl

pub returns-in_default-required_keys : goal.returns-in_default-required_keys
returns-in_default-required_keys c =
    sym
    (ap (λ (v : Value). any_holds c.args.kind (view v)) c.in-Table.is
    ∙ seen_wrong c.args.kind c.in-Table.entries (rw c.as_slice-rows.ensures.value at (c.rises.ensures c.if-not-rises.false)) (as_rules c.rules_of-rules.result.now c.args.kind _ _ c.rules_of-rules.ensures (rw c.as_slice-rows.ensures.value at (sym c.in_default-required_keys.is ∙ c.required_keys.ensures))))

pub returns-then-required-required_count : goal.returns-then-required-required_count
returns-then-required-required_count c =
    let many = as_many c.rules_of-rules.result.now c.args.kind c.rules_of-rules.ensures in
    sym
    (ap (λ (v : Value). any_holds c.args.kind (view v)) c.in-Table.is
    ∙ seen_fewer c.args.kind c.in-Table.entries (rw c.as_slice-rows.ensures.value at (c.rises.ensures c.if-not-rises.false)) c.in-Some.required (as_rules c.rules_of-rules.result.now c.args.kind _ _ c.rules_of-rules.ensures (rw c.as_slice-rows.ensures.value at (sym c.in-Some.is ∙ c.required_keys.ensures)))
    (omega (arith, many, c.required_count.ensures, c.if-required-required_count.true)))

pub returns-then-required-rows : goal.returns-then-required-rows
returns-then-required-rows c =
    let many = as_many c.rules_of-rules.result.now c.args.kind c.rules_of-rules.ensures in
    c.clashes.ensures
    ∙ sym
    (subst (λ (v : Value). any_holds c.args.kind (view v) ≡ (lacks_more c.args.kind (view v) || has_idle_key c.args.kind (view v))) (sym c.in-Table.is)
    (seen_all c.args.kind c.in-Table.entries (rw c.as_slice-rows.ensures.value at (c.rises.ensures c.if-not-rises.false)) c.in-Some.required (as_rules c.rules_of-rules.result.now c.args.kind _ _ c.rules_of-rules.ensures (rw c.as_slice-rows.ensures.value at (sym c.in-Some.is ∙ c.required_keys.ensures)))
    (omega (arith, many, c.required_count.ensures, c.if-required-required_count.false))))

pub returns : goal.returns
returns c =
    let many = as_many c.rules_of-rules.result.now c.args.kind c.rules_of-rules.ensures in
    let keys = as_rules c.rules_of-rules.result.now c.args.kind _ _ c.rules_of-rules.ensures (rw c.as_slice-rows.ensures.value at (sym c.in-Some.is ∙ c.required_keys.ensures)) in
    c.lacks_more.ensures
    ∙ sym
    (subst (λ (v : Value). any_holds c.args.kind (view v) ≡ (lacks_more c.args.kind (view v) || false)) (sym c.in-Table.is)
    (seen_all c.args.kind c.in-Table.entries (rw c.as_slice-rows.ensures.value at (c.rises.ensures c.if-not-rises.false)) c.in-Some.required keys (omega (arith, many, c.required_count.ensures, c.if-required-required_count.false))
    ∙ ap (λ b. lacks_more c.args.kind (view (Table c.in-Table.entries)) || b) (none_idle c.args.kind c.in-Table.entries (rw c.as_slice-rows.ensures.value at (c.rises.ensures c.if-not-rises.false)) c.in-Some.required keys (rw c.as_slice-rows.ensures.value at c.if-required-rows.false)))
    ∙ or_false (lacks_more c.args.kind (view c.args.table.now)))
