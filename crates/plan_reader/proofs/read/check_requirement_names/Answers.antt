use Rattle.std.proofs.Common.{ap, option_map}
use Rattle.plan_document.specs.View.{view}
use Rattle.plan_table.specs.declared.refusals.PlanRefusal.TheVariants as refusal
use Rattle.plan_table.specs.Search.{table_refusal}
use Rattle.plan_reader.specs.Search.{twice_refusal, refusal_before}
use Rattle.plan_reader.specs.Reading.{AnswersBy}
use Rattle.plan_reader.proofs.Answering.{sooner, later, refused, twice_requirements, none_twice, passed_on}
use Rattle.plan_reader.proofs.read.check_requirement_names.Goals as goal

pub returns-in_err-requirements-clause-err : goal.returns-in_err-requirements-clause-err
returns-in_err-requirements-clause-err c =
    let d = view c.args.document.now in
    passed_on (AnswersBy (refusal_before d) d) _ _ c.from_residual.ensures.1
    (refused d _ (later (table_refusal d) _ _ c.requires.formed (sooner (twice_refusal d) _ _ (twice_requirements d _ c.requires.projects_once c.requires.tasks_once c.in_err-requirements.ensures.twice))))

pub check_named-requires-clause-once : goal.check_named-requires-clause-once
check_named-requires-clause-once c =
    none_twice (view c.args.document.now) c.requires.projects_once c.requires.tasks_once (ap (option_map (λ p. refusal.Twice p)) c.in_ok-requirements.ensures.once)
