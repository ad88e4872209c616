use Rattle.std.proofs.Common.{◌≡◌, ◌+◌, take}
use Rattle.std.specs.List.{sum_by}
use Rattle.plan_document.specs.View.{view}
use Rattle.plan_reader.specs.Rows.{task_unit_count}
use Rattle.plan_reader.proofs.limits.room_after_tasks.Given as goal

abbrev pub invariant-loop-task : goal.invariant-loop-task
invariant-loop-task l = l.room + sum_by (λ v. task_unit_count (view v)) (take l.task-index l.tasks) ≡ l.fn.room
