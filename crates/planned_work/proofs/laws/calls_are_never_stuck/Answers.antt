use Rattle.planned_work.proofs.Never.{done_never, done_next_never, next_never}
use Rattle.planned_work.proofs.laws.calls_are_never_stuck.Goals as goal

pub returns-clause-next : goal.returns-clause-next
returns-clause-next c = λ old new fits last h. next_never old new fits last h

pub returns-clause-done : goal.returns-clause-done
returns-clause-done c = λ old new gave fits h. done_never old new fits gave h

pub returns-clause-done_next : goal.returns-clause-done_next
returns-clause-done_next c = λ old new gave fits h. done_next_never old new fits gave h
