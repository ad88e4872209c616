-- each worker so far that sleeps still waits, and what was found is so
use Rattle.worker_choices.specs.NextSteps.{StillWait}
use Rattle.worker_choices.specs.NoWork.{IsFound}
use Rattle.worker_choices.proofs.woken.whom_to_wake.Given as goal

abbrev pub invariant-loop-worker : goal.invariant-loop-worker
invariant-loop-worker l = StillWait l.book.graph l.book.state l.queued l.stances l.worker × IsFound l.book.graph l.book.state l.queued l.no_work
