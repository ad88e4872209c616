use Rattle.std.proofs.Common.{ap, option_map}
use Rattle.plan_document.specs.View.{view}
use Rattle.plan_table.specs.declared.refusals.PlanRefusal.TheVariants as refusal
use Rattle.plan_table.specs.Search.{table_refusal}
use Rattle.plan_reader.specs.Search.{twice_refusal, refusal_before}
use Rattle.plan_reader.specs.Reading.{AnswersBy}
use Rattle.plan_reader.proofs.Answering.{sooner, later, refused, twice_task, passed_on}
use Rattle.plan_reader.proofs.read.check_task_names.Goals as goal

pub returns-in_err-tasks-clause-err : goal.returns-in_err-tasks-clause-err
returns-in_err-tasks-clause-err c =
    let d = view c.args.document.now in
    passed_on (AnswersBy (refusal_before d) d) _ _ c.from_residual.ensures.1
    (refused d _ (later (table_refusal d) _ _ c.requires.formed (sooner (twice_refusal d) _ _ (twice_task d _ c.requires.projects_once c.in_err-tasks.ensures.twice))))

pub check_requirement_names-requires-clause-tasks_once : goal.check_requirement_names-requires-clause-tasks_once
check_requirement_names-requires-clause-tasks_once c = ap (option_map (λ p. refusal.Twice p)) c.in_ok-tasks.ensures.once
