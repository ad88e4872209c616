-- The outcomes by the plan alone, where v says what each unit would give.
use Rattle.std.specs.Prelude.{ℕ, zero, suc, ◌-◌, ◌<◌, Bool, true, false, if◌then◌else◌}
use Rattle.std.specs.List.{All, list_all, range_with_len}
use Rattle.resource_lock.specs.declared.marks.Mark.{Mark}
use Rattle.resource_lock.specs.declared.marks.Mark.TheVariants.{Passed, Failed, Skipped}
use Rattle.resource_lock.specs.GraphView.{GraphView, task_of}
use Rattle.resource_lock.specs.Ranges.{actions_of, units_of}
use Rattle.item_actions.specs.declared.outcomes.Outcome.{Outcome}
use Rattle.item_actions.specs.declared.outcomes.Outcome.TheVariants.{Skipped as NotRun}
use Rattle.item_actions.specs.Value.{passes}
use Rattle.lock_transforms.specs.Table.{has_passed}

-- every unit of the action would pass
abbrev pub action_passes : GraphView → (ℕ → Outcome) → ℕ → Bool
action_passes g v a = list_all (λ u. passes (v u)) (units_of g a)

-- every unit of the task would pass
abbrev pub task_passes : GraphView → (ℕ → Outcome) → ℕ → Bool
task_passes g v t = list_all (action_passes g v) (actions_of g t)

-- every unit of the actions before this one in the task would pass
abbrev pub earlier_pass : GraphView → (ℕ → Outcome) → ℕ → ℕ → Bool
earlier_pass g v t a = list_all (action_passes g v) (range_with_len (task_of g t).first_action (a - (task_of g t).first_action))

-- a task's mark by whether each task in its `after` is Passed, and whether each of its units passes
abbrev pub mark_by : Bool → Bool → Mark
mark_by false all_pass = Skipped
mark_by true true = Passed
mark_by true false = Failed

-- A task's mark by the plan. The number says how far one follows `after`, and a task's rank is far enough.
abbrev pub task_outcome : GraphView → (ℕ → Outcome) → ℕ → ℕ → Mark
task_outcome g v zero t = Skipped
task_outcome g v (suc n) t = mark_by (list_all (λ p. has_passed (task_outcome g v n p)) (task_of g t).after) (task_passes g v t)

abbrev pub is_skipped : Mark → Bool
is_skipped Skipped = true
is_skipped _ = false

-- a unit's outcome by the plan: none runs in a skipped task, or behind an action with a unit that fails
abbrev pub unit_outcome : GraphView → (ℕ → Outcome) → ℕ → ℕ → ℕ → ℕ → Outcome
unit_outcome g v n t a u =
    if is_skipped (task_outcome g v n t) then NotRun
    else if earlier_pass g v t a then v u
    else NotRun

-- each task has a rank above those of the tasks that it comes after
abbrev pub AreRanks : GraphView → (ℕ → ℕ) → Type 0
AreRanks g rank = (t : ℕ) → All (λ p. rank p < rank t) (task_of g t).after
