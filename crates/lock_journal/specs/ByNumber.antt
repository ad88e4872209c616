-- The outcomes of units by the plan, each by its number alone.
use Rattle.std.specs.Prelude.{ℕ, ◌+◌, nat_le, nat_lt, Bool, ◌&&◌, List, [], ◌∷◌, if◌then◌else◌}
use Rattle.resource_lock.specs.GraphView.{GraphView}
use Rattle.resource_lock.specs.Ranges.{units_in, task_with}
use Rattle.resource_lock.specs.declared.graphs.GraphAction.{GraphAction}
use Rattle.item_actions.specs.declared.outcomes.Outcome.{Outcome}
use Rattle.lock_journal.specs.Outcomes.{unit_outcome}

-- whether a unit is among an action's
abbrev pub has_unit : ℕ → GraphAction → Bool
has_unit u a = nat_le a.first_unit u && nat_lt u (a.first_unit + units_in a)

-- the number of the first that meets a test, where they are numbered from n on
abbrev pub first_with : (GraphAction → Bool) → ℕ → List GraphAction → ℕ
first_with test n [] = n
first_with test n (a ∷ rest) = if test a then n else first_with test (n + 1) rest

-- the action that a unit belongs to
abbrev pub action_with : GraphView → ℕ → ℕ
action_with g u = first_with (has_unit u) 0 g.actions

-- a unit's outcome by the plan
abbrev pub outcome_by : GraphView → (ℕ → Outcome) → ℕ → ℕ → Outcome
outcome_by g v n u = unit_outcome g v n (task_with g (action_with g u)) (action_with g u) u
