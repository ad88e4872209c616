use Rattle.ready_work.specs.TaskSets.{CountsAll}
use Rattle.ready_work.proofs.task_sets.TaskSets.count_all.Given as goal

-- the tasks below this one were counted
abbrev pub invariant-loop-task : goal.invariant-loop-task
invariant-loop-task l = CountsAll l.graph l.state l.task l.fn.self l.self
