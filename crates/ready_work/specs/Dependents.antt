-- The dependents of each task: the tasks that come after it.
use Rattle.std.specs.Prelude.{ℕ, ◌≡◌, ◌↔◌, length, Contains}
use Rattle.resource_lock.specs.GraphView.{GraphView, task_of}
use Rattle.ready_work.specs.DependentLists.{times}
use Rattle.ready_work.specs.Rank.{Dependencies, after}

-- among the dependents of a task stand exactly the tasks of the graph that come after it, each as often as it names the task
pub record AreDependents (g : GraphView) (all : Dependencies) : Type 0 where
  pub size : length all ≡ length g.tasks
  pub each : (t k : ℕ) → Contains (after all t) k ↔ Contains (task_of g k).after t
  pub as_often : (t k : ℕ) → times (after all t) k ≡ times (task_of g k).after t
