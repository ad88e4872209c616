use Rattle.std.proofs.Common.{◌≡◌, length, take, map}
use Rattle.std.specs.List.{flat_map}
use Rattle.file_access.specs.PageView.{Adds}
use Rattle.lock_journal.specs.Closings.{outcome_in}
use Rattle.plan_reader.specs.PlanView.{plan_task_view}
use Rattle.plan_reader.specs.Units.{task_units}
use Rattle.history_text.specs.Results.{task_marks, tasks_text}
use Rattle.history_text.proofs.results.write_tasks.Given as goal

abbrev pub invariant-loop-index : goal.invariant-loop-index
invariant-loop-index g l = record {
  text : Adds (g.K.Sink.seen l.fn.sink) l.fn.page (g.K.Sink.seen l.sink) l.page (tasks_text (task_marks l.book.state) (outcome_in l.book.history) 0 0 (take l.index (map plan_task_view l.tasks)));
  next : l.next ≡ length (flat_map task_units (take l.index (map plan_task_view l.tasks)));
}
