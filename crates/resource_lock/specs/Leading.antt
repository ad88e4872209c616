-- Changes of one worker that lead from one state to another.
use Rattle.std.specs.Prelude.{◌≡◌, true, List}
use Rattle.std.specs.List.{AllByRecursion}
use Rattle.resource_lock.specs.StateView.{StateView, IsWorkerOf}
use Rattle.resource_lock.specs.Change.{make_all, can_all, NamesOnly}
use Rattle.resource_lock.specs.Good.{Good}
use Rattle.resource_lock.specs.declared.ids.WorkerId.{WorkerId}
use Rattle.resource_lock.specs.declared.changes.Change.{Change}

-- The state came from the one before, which is good and has the worker, by changes that could each be made in turn.
pub record CameFrom (before s : StateView) (w : WorkerId) (cs : List Change) : Type 0 where
  pub good : Good before
  pub worker : IsWorkerOf before w
  pub named : AllByRecursion (NamesOnly before) cs
  pub possible : can_all before w cs ≡ true
  pub state : s ≡ make_all before w cs
