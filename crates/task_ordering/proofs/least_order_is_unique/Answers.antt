use Rattle.task_ordering.specs.Tasks.{IsBefore, IsToRun}
use Rattle.task_ordering.proofs.Least.{one_least}
use Rattle.task_ordering.proofs.least_order_is_unique.Goals as goal

pub returns : goal.returns
returns c = λ tasks asked. one_least (IsToRun tasks asked) (IsBefore tasks asked)
