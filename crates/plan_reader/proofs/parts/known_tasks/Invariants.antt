use Rattle.std.proofs.Common.{◌≡◌, ◌++◌, map}
use Rattle.std.specs.Iterator.Adapters.{zip_first, zip_second}
use Rattle.std.specs.List.{zip}
use Rattle.std.specs.Vec.Iter.{into_iter_items}
use Rattle.plan_document.specs.View.{view}
use Rattle.plan_reader.specs.PlanView.{plan_task_view}
use Rattle.plan_reader.specs.Taken.{known_names, task_after}
use Rattle.plan_reader.proofs.parts.known_tasks.Given as goal

abbrev pub invariant-loop-task : goal.invariant-loop-task
invariant-loop-task l =
    map plan_task_view l.tasks.items
    ++ map (λ p. task_after (known_names l.known) l.known.profiles.now (view p.0) p.1.items) (zip (into_iter_items (zip_first l.task-iterator)) (into_iter_items (zip_second l.task-iterator)))
    ≡ map (λ p. task_after (known_names l.known) l.known.profiles.now (view p.0) p.1.items) (zip l.fn.tables.items l.fn.dependencies.items)
