use Rattle.std.proofs.Common.{below_more, arith}
use Rattle.task_ordering.proofs.limits.first_stray.Goals as goal

pub loop-task-preserved : goal.loop-task-preserved
loop-task-preserved c = below_more _ _ c.loop-task.invariant (c.names_tasks.ensures.0 c.if-not-names_tasks.false)

pub returns-clause-none : goal.returns-clause-none
returns-clause-none c = λ t lt. c.loop-task.invariant t (omega (arith, lt, c.loop-task-test.false))
