-- What a worker has at each point of a run.
use Rattle.std.specs.Prelude.{ℕ, ◌≡◌, ◌⊎◌, true, false, [], ◌∷◌, All}
use Rattle.lock_journal.specs.Names.{GraphView, task_of, IsFetchOf, task_with, TaskOf, IsEnded}
use Rattle.coordination.specs.Names.{IsSoundBook, HoldsNothing, blocked_shown, claimed_shown, lease_shown, locks_shown, parked_shown}
use Rattle.coordination.specs.declared.rule.Sight.{Sight}
use Rattle.async_tracker.specs.Shows.{IsFree, IsIdleOrParked}

-- The worker runs the task, with its lock and a lease, and nothing else.
pub record RunsTask (t : ℕ) (s : Sight) : Type 0 where
  pub locks : locks_shown s ≡ (task_of s.seen.graph t).lock ∷ []
  pub lease : lease_shown s ≡ true
  pub claimed : claimed_shown s ≡ TaskOf t ∷ []
  pub parked : parked_shown s ≡ []
  pub blocked : blocked_shown s ≡ false

-- The worker runs the task, and has given its lock and the lease back for good.
pub record HasReleasedTask (t : ℕ) (s : Sight) : Type 0 where
  pub locks : locks_shown s ≡ []
  pub lease : lease_shown s ≡ false
  pub claimed : claimed_shown s ≡ TaskOf t ∷ []
  pub parked : parked_shown s ≡ []
  pub blocked : blocked_shown s ≡ false

abbrev pub IsInTask : ℕ → Sight → Type 0
IsInTask t s = RunsTask t s ⊎ HasReleasedTask t s

-- the unit is the fetch of an action of the task
pub record IsFetchIn (g : GraphView) (t u : ℕ) : Type 0 where
  pub action : ℕ
  pub fetch : IsFetchOf g action u
  pub task : task_with g action ≡ t

-- The worker has a free hand: it runs no unit and has no lease, and is idle or parked.
pub record CanHelp (s : Sight) : Type 0 where
  pub free : IsFree s
  pub waits : IsIdleOrParked s

-- The worker saw all tasks ended, and has nothing.
pub record HasFinishedWork (s : Sight) : Type 0 where
  pub sound : IsSoundBook s.seen
  pub ended : All IsEnded s.seen.state.tasks
  pub rests : HoldsNothing s
