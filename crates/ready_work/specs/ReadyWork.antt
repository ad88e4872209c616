-- The index of what can be done next, and how it follows changes.
use Rattle.std.specs.Prelude.{ℕ, ◌≡◌, ◌≤◌, ◌⊎◌, true, List, [], ◌∷◌, length, map, IfSome}
use Rattle.std.specs.List.{AllByRecursion}
use Rattle.resource_lock.specs.Change.{NamesOnly, can_all, make_all}
use Rattle.resource_lock.specs.Fits.{Fits}
use Rattle.resource_lock.specs.GraphView.{GraphView}
use Rattle.resource_lock.specs.Shape.{BelongsTo}
use Rattle.resource_lock.specs.StateView.{StateView}
use Rattle.resource_lock.specs.declared.changes.Change.{Change}
use Rattle.resource_lock.specs.declared.changes.Change.TheVariants.{Give, Lock, Move, Take, Unlock}
use Rattle.resource_lock.specs.declared.ids.WorkerId.{WorkerId}
use Rattle.resource_lock.specs.declared.marks.Mark.{Mark}
use Rattle.resource_lock.specs.declared.marks.Mark.TheVariants.{Queued, Running}
use Rattle.resource_lock.specs.declared.marks.MarkId.TheVariants.{Task as TaskOf, Unit as UnitOf}
use Rattle.ready_work.specs.Choices.{IsFree, IsOpenUnit, IsQueued}
use Rattle.ready_work.specs.Dependents.{AreDependents}
use Rattle.ready_work.specs.NumberSetView.{room_of}
use Rattle.ready_work.specs.Sets.{IsSetOf, Looks, LooksWhereKept, NoNumber}
use Rattle.ready_work.specs.TaskSets.{AreCounted, AreSetsByCount, AreTaskSets, HasDependencyCounts, HasTaskRoom, MovesTasks}
use Rattle.ready_work.specs.declared.ready_works.ReadyWork.{ReadyWork}

-- the graph fits, the dependents, the counts and the tasks' locks are its own, and there is room for its units, tasks and locks
pub record IsMadeFor (g : GraphView) (ready : ReadyWork) : Type 0 where
  pub fits : Fits g
  pub dependents : AreDependents g ready.dependents
  pub units : g.units ≤ room_of ready.open_units
  pub queued_units : IfSome ready.queued (λ set. g.units ≤ room_of set)
  pub tasks : HasTaskRoom (length g.tasks) ready.tasks
  pub dependency_counts : HasDependencyCounts g ready.tasks
  pub locks : g.locks ≤ room_of ready.tasks.startable.free
  pub task_locks : ready.tasks.startable.locks ≡ map (λ t. t.lock.0) g.tasks

-- The index is that of the graph and the state, with the units that are queued or without them.
pub record IsIndexOf (g : GraphView) (s : StateView) (ready : ReadyWork) : Type 0 where
  pub made : IsMadeFor g ready
  pub open_units : IsSetOf (IsOpenUnit g s) NoNumber ready.open_units
  pub queued : IfSome ready.queued (IsSetOf (IsQueued g s) NoNumber)
  pub tasks : AreTaskSets g s ready.tasks
  pub counted : AreCounted s NoNumber ready.tasks
  pub free : IsSetOf (IsFree g s) NoNumber ready.tasks.startable.free

-- The index is that of the graph and the state by its counts, but for units, tasks and locks that are left open.
pub record IsIndexBut (g : GraphView) (s : StateView) (OpenUnits OpenTasks OpenLocks : ℕ → Type 0) (ready : ReadyWork) : Type 0 where
  pub made : IsMadeFor g ready
  pub open_units : IsSetOf (IsOpenUnit g s) OpenUnits ready.open_units
  pub queued : IfSome ready.queued (IsSetOf (IsQueued g s) OpenUnits)
  pub tasks : AreSetsByCount s OpenTasks ready.tasks
  pub counted : AreCounted s OpenTasks ready.tasks
  pub free : IsSetOf (IsFree g s) OpenLocks ready.tasks.startable.free

-- the unit's mark is moved
abbrev pub TouchesUnit : Change → ℕ → Type 0
TouchesUnit (Move (UnitOf u) from to) k = k ≡ u
TouchesUnit _ k = ⊥

-- the task's mark is moved
abbrev pub TouchesTask : Change → ℕ → Type 0
TouchesTask (Move (TaskOf t) from to) k = k ≡ t
TouchesTask _ k = ⊥

-- the lock is taken or given back
abbrev pub TouchesLock : Change → ℕ → Type 0
TouchesLock (Lock l) k = k ≡ l.0
TouchesLock (Unlock l) k = k ≡ l.0
TouchesLock _ k = ⊥

-- one of the changes does
abbrev pub TouchUnit : List Change → ℕ → Type 0
TouchUnit [] k = ⊥
TouchUnit (c ∷ cs) k = TouchesUnit c k ⊎ TouchUnit cs k

abbrev pub TouchTask : List Change → ℕ → Type 0
TouchTask [] k = ⊥
TouchTask (c ∷ cs) k = TouchesTask c k ⊎ TouchTask cs k

abbrev pub TouchLock : List Change → ℕ → Type 0
TouchLock [] k = ⊥
TouchLock (c ∷ cs) k = TouchesLock c k ⊎ TouchLock cs k

-- what a change touches was looked at
pub record Notes (g : GraphView) (s : StateView) (c : Change) (old new : ReadyWork) : Type 0 where
  pub dependents : new.dependents ≡ old.dependents
  pub open_units : Looks (IsOpenUnit g s) (TouchesUnit c) old.open_units new.open_units
  pub queued : LooksWhereKept (IsQueued g s) (TouchesUnit c) old.queued new.queued
  pub tasks : MovesTasks g s (TouchesTask c) old.tasks new.tasks
  pub free : Looks (IsFree g s) (TouchesLock c) old.tasks.startable.free new.tasks.startable.free

-- The worker could make the changes in turn in the first state, and they led to the second.
pub record Lead (from to : StateView) (w : WorkerId) (changes : List Change) : Type 0 where
  pub named : AllByRecursion (NamesOnly from) changes
  pub possible : can_all from w changes ≡ true
  pub state : to ≡ make_all from w changes

-- The index is that of the state before. The changes led from there to this state of the graph, or they led from this
-- state to there and were taken back.
pub record Follows (g : GraphView) (before : StateView) (w : WorkerId) (changes : List Change) (s : StateView) (ready : ReadyWork) : Type 0 where
  pub belongs : BelongsTo g s
  pub led : Lead before s w changes ⊎ Lead s before w changes
  pub index : IsIndexOf g before ready

-- The index is that of the state before, and the changes led from there to this state of the graph.
pub record FollowsOn (g : GraphView) (before : StateView) (w : WorkerId) (changes : List Change) (s : StateView) (ready : ReadyWork) : Type 0 where
  pub belongs : BelongsTo g s
  pub led : Lead before s w changes
  pub index : IsIndexOf g before ready

-- the changes that make a queued unit run by a worker, and those that end one
abbrev pub claimed_unit : WorkerId → ℕ → List Change
claimed_unit w u = Take ∷ Move (UnitOf u) Queued (Running w) ∷ []

abbrev pub closed_unit : WorkerId → ℕ → Mark → List Change
closed_unit w u to = Move (UnitOf u) (Running w) to ∷ Give ∷ []
