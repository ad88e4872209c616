-- The sets of tasks, and how tasks are looked at.
use Rattle.std.specs.Prelude.{ℕ, ◌≡◌, ◌⊎◌, ◌<◌, ◌≤◌, Bool, false, true, not, List, Contains, length, map}
use Rattle.resource_lock.specs.GraphView.{GraphView}
use Rattle.resource_lock.specs.Marks.{has_ended, has_fallen, has_passed}
use Rattle.resource_lock.specs.StateView.{StateView, mark_of}
use Rattle.resource_lock.specs.declared.marks.Mark.TheVariants.{Waiting}
use Rattle.resource_lock.specs.declared.marks.MarkId.TheVariants.{Task as TaskOf}
use Rattle.ready_work.specs.Choices.{CanSkip, IsFree, IsStartable, IsUnended}
use Rattle.ready_work.specs.NumberSetView.{has, room_of}
use Rattle.ready_work.specs.Sets.{IsSetBelow, IsSetOf, Looks, Moves, NoNumber}
use Rattle.ready_work.specs.StartableTasksView.{StartableTasksView}
use Rattle.ready_work.specs.DependencyCounts.{count_of, is_counted, IsOfSize, AreCountsOf, PutsCount}
use Rattle.ready_work.specs.declared.dependency_counts.DependencyCounts.{DependencyCounts}
use Rattle.ready_work.specs.declared.task_sets.TaskSets.{TaskSets}

-- each task has its lock, and no lock is free yet
pub record HasClosedLocks (g : GraphView) (all : StartableTasksView) : Type 0 where
  pub locks : all.locks ≡ map (λ t. t.lock.0) g.tasks
  pub room : g.locks ≤ room_of all.free
  pub closed : (l : ℕ) → has all.free l ≡ false

-- each task has its lock, and the free locks are those that nobody owns
pub record HasLocks (g : GraphView) (s : StateView) (all : StartableTasksView) : Type 0 where
  pub locks : all.locks ≡ map (λ t. t.lock.0) g.tasks
  pub room : g.locks ≤ room_of all.free
  pub free : IsSetOf (IsFree g s) NoNumber all.free

-- there is room for so many tasks
pub record HasTaskRoom (tasks : ℕ) (sets : TaskSets) : Type 0 where
  pub skippable : tasks ≤ room_of sets.skippable
  pub startable : tasks ≤ room_of sets.startable.tasks
  pub unended : tasks ≤ room_of sets.unended
  pub unpassed : IsOfSize tasks sets.unpassed
  pub fallen : IsOfSize tasks sets.fallen

-- sets without a member
pub record AreEmpty (sets : TaskSets) : Type 0 where
  pub skippable : (k : ℕ) → has sets.skippable k ≡ false
  pub startable : (k : ℕ) → has sets.startable.tasks k ≡ false
  pub unended : (k : ℕ) → has sets.unended k ≡ false

-- ---- a task by the counts of those that it comes after

-- it waits, and one that it comes after is counted
pub record CanSkipByCount (s : StateView) (fallen : DependencyCounts) (t : ℕ) : Type 0 where
  pub within : t < length s.tasks
  pub waits : mark_of s (TaskOf t) ≡ Waiting
  pub some : 0 < count_of fallen t

-- it waits, and none that it comes after is counted
pub record IsStartableByCount (s : StateView) (unpassed : DependencyCounts) (t : ℕ) : Type 0 where
  pub within : t < length s.tasks
  pub waits : mark_of s (TaskOf t) ≡ Waiting
  pub none : count_of unpassed t ≡ 0

-- it hasn't ended
pub record IsUnendedIn (s : StateView) (t : ℕ) : Type 0 where
  pub within : t < length s.tasks
  pub unended : has_ended (mark_of s (TaskOf t)) ≡ false

-- it is counted by its mark: where it hasn't passed, and where it failed or was skipped
pub record IsCountedAt (s : StateView) (sets : TaskSets) (t : ℕ) : Type 0 where
  pub unpassed : is_counted sets.unpassed t ≡ not (has_passed (mark_of s (TaskOf t)))
  pub fallen : is_counted sets.fallen t ≡ has_fallen (mark_of s (TaskOf t))

-- each task is, but for those that are left open
pub record AreCounted (s : StateView) (Open : ℕ → Type 0) (sets : TaskSets) : Type 0 where
  pub each : (t : ℕ) → t < length s.tasks → Open t ⊎ IsCountedAt s sets t

-- the counts are those of the graph
pub record HasDependencyCounts (g : GraphView) (sets : TaskSets) : Type 0 where
  pub unpassed : AreCountsOf g sets.unpassed
  pub fallen : AreCountsOf g sets.fallen

-- ---- the sets

-- the sets are those of the state
pub record AreTaskSets (g : GraphView) (s : StateView) (sets : TaskSets) : Type 0 where
  pub skippable : IsSetOf (CanSkip g s) NoNumber sets.skippable
  pub startable : IsSetOf (IsStartable g s) NoNumber sets.startable.tasks
  pub unended : IsSetOf (IsUnended g s) NoNumber sets.unended

-- the sets are those of the state and the counts, but for tasks that are left open
pub record AreSetsByCount (s : StateView) (Open : ℕ → Type 0) (sets : TaskSets) : Type 0 where
  pub skippable : IsSetOf (CanSkipByCount s sets.fallen) Open sets.skippable
  pub startable : IsSetOf (IsStartableByCount s sets.unpassed) Open sets.startable.tasks
  pub unended : IsSetOf (IsUnendedIn s) Open sets.unended

-- the sets are those of the state and the counts below a task, and no further
pub record AreSetsBelow (s : StateView) (n : ℕ) (unpassed fallen : DependencyCounts) (sets : TaskSets) : Type 0 where
  pub skippable : IsSetBelow (CanSkipByCount s fallen) n sets.skippable
  pub startable : IsSetBelow (IsStartableByCount s unpassed) n sets.startable.tasks
  pub unended : IsSetBelow (IsUnendedIn s) n sets.unended
  pub same_unpassed : sets.unpassed ≡ unpassed
  pub same_fallen : sets.fallen ≡ fallen

-- tasks were looked at; the counts are as before
pub record LooksAt (s : StateView) (Seen : ℕ → Type 0) (old new : TaskSets) : Type 0 where
  pub skippable : Looks (CanSkipByCount s old.fallen) Seen old.skippable new.skippable
  pub startable : Looks (IsStartableByCount s old.unpassed) Seen old.startable.tasks new.startable.tasks
  pub unended : Looks (IsUnendedIn s) Seen old.unended new.unended
  pub locks : new.startable.locks ≡ old.startable.locks
  pub unpassed : new.unpassed ≡ old.unpassed
  pub fallen : new.fallen ≡ old.fallen

-- the task stands in the list, where each is looked at or none that it comes after is counted
pub record IsSeen (is_each : Bool) (unpassed : DependencyCounts) (tasks : List ℕ) (t : ℕ) : Type 0 where
  pub listed : Contains tasks t
  pub due : (is_each ≡ true) ⊎ (count_of unpassed t ≡ 0)

-- the tasks below this one are counted by their marks, and nothing else is changed
pub record CountsAll (g : GraphView) (s : StateView) (n : ℕ) (old new : TaskSets) : Type 0 where
  pub same : new ≡ record old { unpassed = new.unpassed; fallen = new.fallen }
  pub unpassed : IsOfSize (length g.tasks) new.unpassed
  pub fallen : IsOfSize (length g.tasks) new.fallen
  pub dependency_counts : HasDependencyCounts g new
  pub counted : (t : ℕ) → t < n → IsCountedAt s new t

-- a task was counted by its mark, and it and those of its dependents for which that matters were looked at
pub record NotesTask (s : StateView) (dependents : List ℕ) (task : ℕ) (old new : TaskSets) : Type 0 where
  pub skippable : Moves (CanSkipByCount s old.fallen) (CanSkipByCount s new.fallen) (λ k. k ≡ task) old.skippable new.skippable
  pub startable : Moves (IsStartableByCount s old.unpassed) (IsStartableByCount s new.unpassed) (λ k. k ≡ task) old.startable.tasks new.startable.tasks
  pub unended : Moves (IsUnendedIn s) (IsUnendedIn s) (λ k. k ≡ task) old.unended new.unended
  pub locks : new.startable.locks ≡ old.startable.locks
  pub unpassed : PutsCount dependents task (not (has_passed (mark_of s (TaskOf task)))) old.unpassed new.unpassed
  pub fallen : PutsCount dependents task (has_fallen (mark_of s (TaskOf task))) old.fallen new.fallen

-- The sets and the counts are right for the state at tasks that were seen, and stay right elsewhere.
pub record MovesTasks (g : GraphView) (s : StateView) (Seen : ℕ → Type 0) (old new : TaskSets) : Type 0 where
  pub skippable : Moves (CanSkipByCount s old.fallen) (CanSkipByCount s new.fallen) Seen old.skippable new.skippable
  pub startable : Moves (IsStartableByCount s old.unpassed) (IsStartableByCount s new.unpassed) Seen old.startable.tasks new.startable.tasks
  pub unended : Moves (IsUnendedIn s) (IsUnendedIn s) Seen old.unended new.unended
  pub locks : new.startable.locks ≡ old.startable.locks
  pub room : (n : ℕ) → HasTaskRoom n old → HasTaskRoom n new
  pub dependency_counts : HasDependencyCounts g old → HasDependencyCounts g new
  pub counted : (t : ℕ) → Seen t → IsCountedAt s new t
  pub still : (t : ℕ) → IsCountedAt s old t → IsCountedAt s new t
