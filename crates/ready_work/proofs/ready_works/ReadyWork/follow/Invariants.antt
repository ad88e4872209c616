use Rattle.std.proofs.Common.{drop}
use Rattle.ready_work.specs.ReadyWork.{IsIndexBut, TouchLock, TouchTask, TouchUnit}
use Rattle.ready_work.proofs.ready_works.ReadyWork.follow.Given as goal

-- what the changes from this one on touch is still to be looked at
abbrev pub invariant-loop-change : goal.invariant-loop-change
invariant-loop-change l = IsIndexBut l.graph l.state (TouchUnit (drop l.change-index l.changes)) (TouchTask (drop l.change-index l.changes)) (TouchLock (drop l.change-index l.changes)) l.self
