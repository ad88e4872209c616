-- For which workers there was found to be no work.
use Rattle.std.specs.Prelude.{◌≡◌, Bool, true, false}
use Rattle.lock_journal.specs.Names.{GraphView, StateView, can_lease, WorkerId}
use Rattle.worker_choices.specs.NextSteps.{HasNothingToDo}
use Rattle.worker_choices.specs.declared.woken.NoWork.{NoWork}

-- whether it was found of those for which a lease is free, or of those for which none is
abbrev pub covers : NoWork → Bool → Bool
covers found true = found.with_lease
covers found false = found.without_lease

-- no worker for which a lease is free, or none for which none is, has anything to do
abbrev pub NoneHasWork : GraphView → StateView → Bool → Bool → Type 0
NoneHasWork g s queued lease = (w : WorkerId) → can_lease s w ≡ lease → HasNothingToDo g w s queued

-- what was found is so
abbrev pub IsFound : GraphView → StateView → Bool → NoWork → Type 0
IsFound g s queued found = (lease : Bool) → covers found lease ≡ true → NoneHasWork g s queued lease
