use Rattle.std.proofs.Common.{◌++◌, map, ap, sym, ◌∙◌}
use Rattle.std.proofs.lemmas.List.{append-nil}
use Rattle.std.specs.Iterator.Adapters.{zip_first, zip_second}
use Rattle.plan_document.specs.View.{view}
use Rattle.plan_reader.specs.PlanView.{plan_task_view}
use Rattle.plan_reader.specs.Taken.{known_names, task_after}
use Rattle.plan_reader.proofs.Loops.{seen_taken_more}
use Rattle.plan_reader.proofs.TakenTasks.{zip_ended, zip_step}
use Rattle.plan_reader.proofs.parts.known_tasks.Goals as goal

pub returns : goal.returns
returns c =
    let made = map plan_task_view c.loop-task.tasks.items in
    let none = zip_ended (zip_first c.loop-task.task-iterator) (zip_second c.loop-task.task-iterator) c.in-None.ensures.steps in
    sym (append-nil made)
    ∙ ap (λ rest. made ++ map (λ p. task_after (known_names c.args.known.now) c.args.known.now.profiles.now (view p.0) p.1.items) rest) (sym none)
    ∙ c.loop-task.invariant

pub loop-task-preserved : goal.loop-task-preserved
loop-task-preserved c =
    let steps = c.in-Some.ensures.steps in
    seen_taken_more plan_task_view (λ p. task_after (known_names c.args.known.now) c.args.known.now.profiles.now (view p.0) p.1.items) _ _ (c.in-Some.task, c.in-Some.after) _ _ _ _
    (zip_step _ _ _ _ _ _ steps.0.0 steps.1.0) c.in_ok-task_of.ensures c.in_ok-push.ensures.items c.loop-task.invariant
