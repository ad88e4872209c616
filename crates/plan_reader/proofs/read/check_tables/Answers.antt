use Rattle.std.proofs.Common.{ap, option_map}
use Rattle.plan_document.specs.View.{view}
use Rattle.plan_table.specs.declared.refusals.PlanRefusal.TheVariants as refusal
use Rattle.plan_table.specs.Search.{table_refusal}
use Rattle.plan_reader.specs.Search.{twice_refusal, refusal_before}
use Rattle.plan_reader.specs.Reading.{AnswersBy}
use Rattle.plan_reader.proofs.Answering.{sooner, later, refused, passed_on}
use Rattle.plan_reader.proofs.read.check_tables.Goals as goal

pub returns-in_err-check_table-clause-err : goal.returns-in_err-check_table-clause-err
returns-in_err-check_table-clause-err c =
    let d = view c.args.document.now in
    passed_on (AnswersBy (refusal_before d) d) _ _ c.from_residual.ensures.1 (refused d _ (sooner (table_refusal d) _ _ c.in_err-check_table.ensures.err))

pub returns-in_err-projects-clause-err : goal.returns-in_err-projects-clause-err
returns-in_err-projects-clause-err c =
    let d = view c.args.document.now in
    passed_on (AnswersBy (refusal_before d) d) _ _ c.from_residual-in_err-projects.ensures.1
    (refused d _ (later (table_refusal d) _ _ c.in_ok-check_table.ensures.ok (sooner (twice_refusal d) _ _ (sooner _ _ _ c.in_err-projects.ensures.twice))))

pub check_task_names-requires-clause-projects_once : goal.check_task_names-requires-clause-projects_once
check_task_names-requires-clause-projects_once c = ap (option_map (λ p. refusal.Twice p)) c.in_ok-projects.ensures.once
