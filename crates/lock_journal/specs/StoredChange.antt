-- What a stored change stands for.
use Rattle.std.specs.Prelude.{◌≡◌, true}
use Rattle.resource_lock.specs.Change.{names_only}
use Rattle.resource_lock.specs.declared.changes.Change.{Change}
use Rattle.resource_lock.specs.declared.changes.Change.TheVariants.{Lock, Unlock, Take, Give, Move, Park, Unpark, Enter, Leave}
use Rattle.resource_lock.specs.declared.ids.WorkerId.{WorkerId}
use Rattle.resource_lock.specs.declared.marks.Mark.{Mark}
use Rattle.resource_lock.specs.declared.marks.Mark.TheVariants.{Waiting, Queued, Running, Passed, Failed, Skipped}
use Rattle.resource_lock.specs.declared.marks.MarkId.TheVariants.{Task as TaskOf, Action as ActionOf, Unit as UnitOf}
use Rattle.lock_journal.specs.declared.stored_changes.StoredChange.{StoredChange}
use Rattle.lock_journal.specs.declared.stored_changes.StoredChange.TheVariants as stored
use Rattle.lock_journal.specs.declared.stored_changes.StoredMark.{StoredMark}
use Rattle.lock_journal.specs.declared.stored_changes.StoredMark.TheVariants as marks

-- what is stored of a mark: a worker isn't
abbrev pub stored_mark : Mark → StoredMark
stored_mark Waiting = marks.Waiting
stored_mark Queued = marks.Queued
stored_mark (Running w) = marks.Running
stored_mark Passed = marks.Passed
stored_mark Failed = marks.Failed
stored_mark Skipped = marks.Skipped

-- what is stored of a change
abbrev pub stored_change : Change → StoredChange
stored_change (Lock l) = stored.Lock l
stored_change (Unlock l) = stored.Unlock l
stored_change Take = stored.Take
stored_change Give = stored.Give
stored_change (Move (TaskOf t) from to) = stored.MoveTask (stored_mark from) (stored_mark to) t
stored_change (Move (ActionOf a) from to) = stored.MoveAction (stored_mark from) (stored_mark to) a
stored_change (Move (UnitOf u) from to) = stored.MoveUnit (stored_mark from) (stored_mark to) u
stored_change (Park l) = stored.Park l
stored_change (Unpark l) = stored.Unpark l
stored_change Enter = stored.Enter
stored_change Leave = stored.Leave

-- the mark that is stored so, in an entry of the worker
abbrev pub mark_of_worker : WorkerId → StoredMark → Mark
mark_of_worker w marks.Waiting = Waiting
mark_of_worker w marks.Queued = Queued
mark_of_worker w marks.Running = Running w
mark_of_worker w marks.Passed = Passed
mark_of_worker w marks.Failed = Failed
mark_of_worker w marks.Skipped = Skipped

-- the change that is stored so, in an entry of the worker
abbrev pub change_of_worker : WorkerId → StoredChange → Change
change_of_worker w (stored.Lock l) = Lock l
change_of_worker w (stored.Unlock l) = Unlock l
change_of_worker w stored.Take = Take
change_of_worker w stored.Give = Give
change_of_worker w (stored.MoveTask from to t) = Move (TaskOf t) (mark_of_worker w from) (mark_of_worker w to)
change_of_worker w (stored.MoveAction from to a) = Move (ActionOf a) (mark_of_worker w from) (mark_of_worker w to)
change_of_worker w (stored.MoveUnit from to u) = Move (UnitOf u) (mark_of_worker w from) (mark_of_worker w to)
change_of_worker w (stored.Park l) = Park l
change_of_worker w (stored.Unpark l) = Unpark l
change_of_worker w stored.Enter = Enter
change_of_worker w stored.Leave = Leave

-- where it moves a mark from or to Running, the worker runs it
abbrev pub IsOwnChange : WorkerId → Change → Type 0
IsOwnChange w (Move m from to) = (names_only from w ≡ true) × (names_only to w ≡ true)
IsOwnChange w _ = Unit {0}
