use Rattle.std.proofs.Common.{◌+◌, ◌∷◌, [], get_or, length, take}
use Rattle.ready_work.specs.TaskSets.{IsSeen}
use Rattle.ready_work.proofs.TaskLooks.{looks_at_then, room_after, seen_next}
use Rattle.ready_work.proofs.Looking.{same_then}
use Rattle.ready_work.proofs.task_sets.TaskSets.look_at_all.Goals as goal

pub look_where_due-requires-clause-room : goal.look_where_due-requires-clause-room
look_where_due-requires-clause-room c = room_after (length c.args.state.now.tasks) c.args.state.now (IsSeen c.args.is_each c.args.self.now.unpassed (take c.loop-task.task-index c.args.tasks.now)) c.args.self.now c.loop-task.self c.loop-task.invariant.0 c.requires.room

pub loop-task-preserved : goal.loop-task-preserved
loop-task-preserved c =
    let tasks = c.args.tasks.now in
    let i = c.loop-task.task-index in
    let each = c.args.is_each in
    let unpassed = c.args.self.now.unpassed in (
      looks_at_then c.args.state.now (IsSeen each unpassed (take i tasks)) (IsSeen each c.loop-task.self.unpassed (get_or tasks i 0 ∷ [])) (IsSeen each unpassed (take (i + 1) tasks)) c.args.self.now c.loop-task.self c.look_where_due.new.self (seen_next each unpassed c.loop-task.self.unpassed tasks i c.loop-task.invariant.0.unpassed c.loop-task-test.true) c.loop-task.invariant.0 c.look_where_due.ensures.tasks,
      same_then c.args.self.now.startable.free c.loop-task.self.startable.free c.look_where_due.new.self.startable.free c.loop-task.invariant.1 c.look_where_due.ensures.free,
    )
