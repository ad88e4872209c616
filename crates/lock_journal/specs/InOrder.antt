-- A task's outcomes as a list: those of its actions in order, of which none runs behind one with a unit that fails.
use Rattle.std.specs.Prelude.{ℕ, Bool, not, ◌&&◌, List, [], ◌∷◌, ◌++◌, map, if◌then◌else◌}
use Rattle.resource_lock.specs.GraphView.{GraphView}
use Rattle.resource_lock.specs.Ranges.{actions_of, units_of}
use Rattle.item_actions.specs.declared.outcomes.Outcome.{Outcome}
use Rattle.item_actions.specs.declared.outcomes.Outcome.TheVariants.{Skipped as NotRun}
use Rattle.lock_journal.specs.Outcomes.{action_passes, task_outcome, is_skipped}

-- those of an action's units, where it runs or not
abbrev pub outcomes_of_action : GraphView → (ℕ → Outcome) → Bool → ℕ → List Outcome
outcomes_of_action g v runs a = map (λ u. if runs then v u else NotRun) (units_of g a)

-- those of several actions, where the first of them runs or not
abbrev pub outcomes_of_actions : GraphView → (ℕ → Outcome) → Bool → List ℕ → List Outcome
outcomes_of_actions g v runs [] = []
outcomes_of_actions g v runs (a ∷ rest) = outcomes_of_action g v runs a ++ outcomes_of_actions g v (runs && action_passes g v a) rest

abbrev pub outcomes_of_task : GraphView → (ℕ → Outcome) → ℕ → ℕ → List Outcome
outcomes_of_task g v n t = outcomes_of_actions g v (not (is_skipped (task_outcome g v n t))) (actions_of g t)

-- the units of several actions
abbrev pub units_of_actions : GraphView → List ℕ → List ℕ
units_of_actions g [] = []
units_of_actions g (a ∷ rest) = units_of g a ++ units_of_actions g rest
