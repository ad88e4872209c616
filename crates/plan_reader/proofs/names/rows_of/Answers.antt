use Rattle.std.proofs.Common.{◌≡◌, None, option_map, ap, sym, map, subst, ◌∙◌, false}
use Rattle.std.specs.List.{list_any}
use Rattle.std.proofs.lemmas.List.{take_all}
use Rattle.plan_document.specs.View.{view}
use Rattle.plan_table.specs.Keys.{after_of}
use Rattle.plan_reader.specs.Names.{dependency_numbers, lacks_any, known_numbers}
use Rattle.plan_reader.proofs.Near.{one_of, row_unknown, rows_known, rows_unknown}
use Rattle.plan_reader.proofs.names.rows_of.Goals as goal

pub returns-in-None : goal.returns-in-None
returns-in-None c =
    let names = c.args.names.now in
    let task = c.index-tasks-number.result in
    let found : None ≡ known_numbers names (after_of (view task)) = sym (ap (option_map (λ v. v.items)) c.in-None.is) ∙ c.in_ok-row.ensures.numbers in
    rows_unknown view names c.args.tasks.now
    (one_of (λ v. lacks_any names (after_of (view v))) c.args.tasks.now c.loop-number.number task c.loop-number-test.true c.index-tasks-number.is (row_unknown names _ found))

pub returns : goal.returns
returns c =
    let names = c.args.names.now in
    let whole = take_all _ c.args.tasks.now c.loop-number-test.false in
    rows_known view names c.args.tasks.now _
    (subst (λ vs. list_any (λ v. lacks_any names (after_of (view v))) vs ≡ false) whole c.loop-number.invariant.1.0)
    (c.loop-number.invariant.0 ∙ ap (map (λ v. dependency_numbers names (view v))) whole)
