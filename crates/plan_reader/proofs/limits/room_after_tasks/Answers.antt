use Rattle.plan_document.specs.View.{view}
use Rattle.plan_reader.specs.Rows.{task_unit_count}
use Rattle.plan_reader.proofs.Rooms.{too_many}
use Rattle.plan_reader.proofs.limits.room_after_tasks.Goals as goal

pub returns-in_err-room : goal.returns-in_err-room
returns-in_err-room c =
    rw c.from_residual.ensures
    (too_many (λ v. task_unit_count (view v)) c.args.tasks.now c.loop-task.task-index c.task-item.result _ _ c.loop-task-test.true c.task-item.is c.loop-task.invariant c.in_err-room.ensures)
