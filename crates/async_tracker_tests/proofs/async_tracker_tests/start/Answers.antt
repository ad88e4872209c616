use Rattle.std.proofs.Common.{◌<◌, Ok, [], ◌∷◌, length, true, arith, sym, ap, ◌∙◌, subst}
use Rattle.lock_journal.specs.Names.{GraphView, task_of, TaskOf}
use Rattle.coordination.specs.Shown.{Shows}
use Rattle.single_steps.proofs.lemmas.After.{ok_is}
use Rattle.async_tracker_tests.proofs.async_tracker_tests.start.Goals as goal

pub start_task-requires-clause-in_range : goal.start_task-requires-clause-in_range
start_task-requires-clause-in_range g c = subst (λ (k : GraphView). 0 < length k.tasks) (sym c.requires.graph.is) (omega arith)

pub returns-in-Ok-clause-started : goal.returns-in-Ok-clause-started
returns-in-Ok-clause-started g c = λ is.
    subst (λ (k : GraphView). Shows ((task_of k 0).lock ∷ []) true (TaskOf 0 ∷ []) [] c.args.pass.now.sight c.start_task.new.pass.sight) c.requires.graph.is (c.start_task.ensures.shows (c.in-Ok.is ∙ ap Ok (ok_is is)))
