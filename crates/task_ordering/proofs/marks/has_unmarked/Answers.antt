use Rattle.std.proofs.Common.{List, ℕ, subst, arith}
use Rattle.std.specs.List.{All}
use Rattle.std.proofs.lemmas.List.{take_all}
use Rattle.std.proofs.lemmas.List.Elements.{All-more}
use Rattle.task_ordering.specs.Marks.{IsMarked}
use Rattle.task_ordering.proofs.marks.has_unmarked.Goals as goal

pub loop-task-preserved : goal.loop-task-preserved
loop-task-preserved c = All-more (IsMarked c.args.marks.now) c.args.tasks.now c.loop-task.task-index 0 c.loop-task-test.true c.loop-task.invariant c.if-not-marks-task.false

pub returns-clause-none : goal.returns-clause-none
returns-clause-none c = λ _. subst (λ (tasks : List ℕ). All (IsMarked c.args.marks.now) tasks) (take_all c.loop-task.task-index c.args.tasks.now (omega (arith, c.loop-task-test.false))) c.loop-task.invariant
