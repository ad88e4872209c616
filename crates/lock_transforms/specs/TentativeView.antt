-- A state under change by one worker.
use Rattle.std.specs.Prelude.{ℕ, ◌≡◌, ◌+◌, ◌-◌, ◌<◌, ◌≤◌, true, not, ◌&&◌, if◌then◌else◌, List, [], ◌∷◌}
use Rattle.std.specs.Prelude.{◌++◌, length}
use Rattle.std.specs.List.{AllByRecursion}
use Rattle.resource_lock.specs.StateView.{StateView, holding_of, owns}
use Rattle.resource_lock.specs.Trying.{can_own, can_lease}
use Rattle.resource_lock.specs.Change.{make, make_all, can_all, NamesOnly}
use Rattle.resource_lock.specs.GraphView.{GraphView}
use Rattle.resource_lock.specs.Shape.{BelongsTo}
use Rattle.resource_lock.specs.Good.{Good}
use Rattle.resource_lock.specs.Fits.{Fits}
use Rattle.resource_lock.specs.declared.ids.WorkerId.{WorkerId}
use Rattle.resource_lock.specs.declared.ids.LockId.{LockId}
use Rattle.resource_lock.specs.declared.changes.Change.{Change}
use Rattle.resource_lock.specs.declared.changes.Change.TheVariants.{Lock, Unlock, Take, Give}

-- the graph, the state, the worker, the changes made so far, and how many more there is room for
pub record TentativeView : Type 0 where
  pub graph : GraphView
  pub state : StateView
  pub worker : WorkerId
  pub made : List Change
  pub room : ℕ

-- a change made and noted
abbrev pub noted : TentativeView → Change → TentativeView
noted t c = record t { state = make t.state t.worker c; made = t.made ++ c ∷ []; room = t.room - 1 }

-- a lock taken, where the worker can own it and doesn't yet
abbrev pub with_lock : TentativeView → LockId → TentativeView
with_lock t l = if can_own t.state t.worker l && not (owns t.state t.worker l) then noted t (Lock l) else t

-- a lease taken, where the worker can have one and has none
abbrev pub with_lease : TentativeView → TentativeView
with_lease t = if can_lease t.state t.worker && not (holding_of t.state t.worker).lease then noted t Take else t

-- a lock given back, where the worker owns it
abbrev pub without_lock : TentativeView → LockId → TentativeView
without_lock t l = if owns t.state t.worker l then noted t (Unlock l) else t

-- the lease given back, where the worker has one
abbrev pub without_lease : TentativeView → TentativeView
without_lease t = if (holding_of t.state t.worker).lease then noted t Give else t

-- The graph fits, the state is a good one of it, and so is the worker.
pub record IsSoundTentative (t : TentativeView) : Type 0 where
  pub fits : Fits t.graph
  pub belongs : BelongsTo t.graph t.state
  pub worker : t.worker.0 < t.graph.workers
  pub good : Good t.state

-- The changes so far lead from a state to this one.
pub record LeadsTo (before : StateView) (t : TentativeView) : Type 0 where
  pub named : AllByRecursion (NamesOnly before) t.made
  pub possible : can_all before t.worker t.made ≡ true
  pub state : t.state ≡ make_all before t.worker t.made

-- a change noted that was made before
abbrev pub recalled : TentativeView → Change → TentativeView
recalled t c = record t { made = t.made ++ c ∷ []; room = t.room - 1 }

-- changes noted, in order, that were made before
abbrev pub all_recalled : TentativeView → List Change → TentativeView
all_recalled t cs = record t { made = t.made ++ cs; room = t.room - length cs }

-- all but the state stays
abbrev pub with_state : TentativeView → StateView → TentativeView
with_state t s = record t { state = s }

-- the state before, with no change made
abbrev pub taken_back : StateView → TentativeView → TentativeView
taken_back before t = record t { state = before; made = []; room = t.room + length t.made }

-- A transform made its changes, of which there were none before, and nothing else.
pub record Worked (old new : TentativeView) : Type 0 where
  pub graph : new.graph ≡ old.graph
  pub worker : new.worker ≡ old.worker
  pub room : new.room + length new.made ≡ old.room
  pub leads : LeadsTo old.state new

-- no change is under way any more, and the state stays
abbrev pub settled : TentativeView → TentativeView
settled t = record t { made = []; room = t.room + length t.made }

-- all but the room is as before, and that isn't smaller
pub record SameTentative (old new : TentativeView) : Type 0 where
  pub graph : new.graph ≡ old.graph
  pub state : new.state ≡ old.state
  pub worker : new.worker ≡ old.worker
  pub made : new.made ≡ old.made
  pub room : old.room ≤ new.room
