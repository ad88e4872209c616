use Rattle.task_ordering.specs.Reach.{IsSoundReach, work_left}
use Rattle.task_ordering.proofs.reaching.tasks_to_run.Given as goal

abbrev pub invariant-loop-task : goal.invariant-loop-task
invariant-loop-task l = IsSoundReach l.tasks l.asked l.reach

abbrev pub decreases-loop-task : goal.decreases-loop-task
decreases-loop-task l = work_left l.reach
