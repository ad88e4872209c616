-- Which graphs fit: all numbers are in range and within the limits, and the tasks' actions and the actions' units are ranges one behind the other.
use Rattle.std.specs.Prelude.{ℕ, ◌≡◌, ◌+◌, ◌<◌, ◌≤◌, List, [], ◌∷◌, length, IfSome}
use Rattle.std.specs.List.{All}
use Rattle.resource_lock.specs.GraphView.{GraphView, action_of}
use Rattle.resource_lock.specs.Ranges.{units_in, IsActionOf}
use Rattle.resource_lock.specs.declared.limits.TheConstants.{MAX_WORKERS, MAX_LEASES, MAX_LOCKS, MAX_TASKS, MAX_UNITS, MAX_ACTIONS_PER_TASK, MAX_AFTER}

-- ranges one behind the other, from n on, the last of which ends before the stop
abbrev pub Follow : {X : Type 0} → (X → ℕ) → (X → ℕ) → ℕ → List X → ℕ → Type 0
Follow first count n [] stop = n ≡ stop
Follow first count n (x ∷ xs) stop = (first x ≡ n) × Follow first count (n + count x) xs stop

pub record Fits (g : GraphView) : Type 0 where
  pub some_worker : 1 ≤ g.workers
  pub few_workers : g.workers ≤ MAX_WORKERS
  pub some_lease : 1 ≤ g.max_leases
  pub few_leases : g.max_leases ≤ MAX_LEASES
  pub few_locks : g.locks ≤ MAX_LOCKS
  pub all_within : IfSome g.all (λ l. l.0 < g.locks)
  pub few_tasks : length g.tasks ≤ MAX_TASKS
  pub few_units : g.units ≤ MAX_UNITS
  pub few_actions : All (λ t. t.actions ≤ MAX_ACTIONS_PER_TASK) g.tasks
  pub few_after : All (λ t. length t.after ≤ MAX_AFTER) g.tasks
  pub locks_within : All (λ t. t.lock.0 < g.locks) g.tasks
  pub after_within : All (λ t. All (λ p. p < length g.tasks) t.after) g.tasks
  pub actions_follow : Follow (λ t. t.first_action) (λ t. t.actions) 0 g.tasks (length g.actions)
  pub units_follow : Follow (λ a. a.first_unit) units_in 0 g.actions g.units
  pub own_task : (a : ℕ) → a < length g.actions → IsActionOf g (action_of g a).task a
  pub some_item : All (λ a. 0 < a.items) g.actions
