use Rattle.std.proofs.Common.{get_or, take}
use Rattle.std.proofs.lemmas.List.{take_more}
use Rattle.task_ordering.proofs.Reached.{reaches_more}
use Rattle.task_ordering.proofs.reaching.Reach.reach_all.Goals as goal

pub loop-task-preserved : goal.loop-task-preserved
loop-task-preserved c =
    let tasks = c.args.tasks.now in
    let i = c.loop-task.task-index in
    rw (take_more tasks i 0 c.loop-task-test.true) (reaches_more c.args.self.now c.loop-task.self c.reach.new.self (take i tasks) (get_or tasks i 0) c.loop-task.invariant c.in_ok-reach.ensures)
