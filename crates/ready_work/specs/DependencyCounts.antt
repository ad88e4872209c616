-- Which tasks are counted, and how many of those that each task comes after are.
use Rattle.std.specs.Prelude.{ℕ, ◌≡◌, ◌≢◌, ◌+◌, ◌<◌, ◌≤◌, Bool, true, false, List, All, count_by, if◌then◌else◌, length, slice_index_or}
use Rattle.resource_lock.specs.GraphView.{GraphView, task_of}
use Rattle.resource_lock.specs.declared.limits.TheConstants.{MAX_AFTER}
use Rattle.ready_work.specs.DependentLists.{times}
use Rattle.ready_work.specs.declared.dependency_counts.DependencyCounts.{DependencyCounts}

abbrev pub is_counted : DependencyCounts → ℕ → Bool
is_counted dependency_counts t = slice_index_or dependency_counts.counted.items t false

-- how many of those that a task comes after are counted
abbrev pub count_of : DependencyCounts → ℕ → ℕ
count_of dependency_counts t = slice_index_or dependency_counts.counts.items t 0

-- it has so many tasks
pub record IsOfSize (n : ℕ) (dependency_counts : DependencyCounts) : Type 0 where
  pub counted : length dependency_counts.counted.items ≡ n
  pub counts : length dependency_counts.counts.items ≡ n

-- the counts are those of the graph
pub record AreCountsOf (g : GraphView) (dependency_counts : DependencyCounts) : Type 0 where
  pub each : (t : ℕ) → count_of dependency_counts t ≡ count_by (is_counted dependency_counts) (task_of g t).after

-- the task is one, its dependents are, and there is room in their counts for it
pub record CanPut (dependents : List ℕ) (task : ℕ) (dependency_counts : DependencyCounts) : Type 0 where
  pub within : task < length dependency_counts.counted.items
  pub in_range : All (λ k. k < length dependency_counts.counts.items) dependents
  pub falls : is_counted dependency_counts task ≡ true → (k : ℕ) → times dependents k ≤ count_of dependency_counts k
  pub rises : is_counted dependency_counts task ≡ false → (k : ℕ) → count_of dependency_counts k + times dependents k ≤ MAX_AFTER

-- what a task adds to the count of one that names it so many times
abbrev pub weight : Bool → ℕ → ℕ
weight counted n = if counted then n else 0

-- the task is counted, or isn't, and the counts of its dependents go with it
pub record PutsCount (dependents : List ℕ) (task : ℕ) (counted : Bool) (old new : DependencyCounts) : Type 0 where
  pub size : length new.counted.items ≡ length old.counted.items
  pub counts_size : length new.counts.items ≡ length old.counts.items
  pub put : is_counted new task ≡ counted
  pub others : (k : ℕ) → k ≢ task → is_counted new k ≡ is_counted old k
  pub counts : (k : ℕ) → count_of new k + weight (is_counted old task) (times dependents k) ≡ count_of old k + weight counted (times dependents k)
