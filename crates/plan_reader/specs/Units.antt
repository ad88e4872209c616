-- The units of a plan, in order, and what each gives.
use Rattle.std.specs.Prelude.{ℕ, List, [], ◌∷◌, ◌++◌, map, length, Option, None, Some, option_and_then, slice_get}
use Rattle.std.specs.List.{flat_map}
use Rattle.item_actions.specs.Files.{Folder, file_of}
use Rattle.item_actions.specs.Value.{act_on, value_of}
use Rattle.item_actions.specs.declared.actions.ItemAction.{ItemAction}
use Rattle.item_actions.specs.declared.outcomes.Outcome.{Outcome}
use Rattle.item_actions.specs.declared.outcomes.Outcome.TheVariants.{Number, Skipped}
use Rattle.daemon_requirements.specs.RequirementsView.{RequirementsView}
use Rattle.plan_reader.specs.PlanView.{WorkView, PlanActionView, PlanTaskView, PlanView, work_view}
use Rattle.plan_reader.specs.declared.units.UnitWork.{UnitWork}
use Rattle.plan_reader.specs.declared.units.UnitWork.TheVariants.{Fetch, Item}

-- a unit: a file, and an action on it, or none where the file is fetched; one that runs in a process has the
-- requirements that its daemon must cover
pub record PlannedUnit : Type 0 where
  pub action : Option ItemAction
  pub file : List ℕ
  pub process : Option RequirementsView

-- a file that is fetched
abbrev pub fetch_unit : List ℕ → PlannedUnit
fetch_unit file = record { action = None; file = file; process = None }

abbrev pub fetch_units : Option (List ℕ) → List PlannedUnit
fetch_units None = []
fetch_units (Some file) = fetch_unit file ∷ []

abbrev pub item_unit : WorkView → PlannedUnit
item_unit w = record { action = Some w.action; file = w.file; process = w.process }

-- a unit as the code has it
abbrev pub unit_view : UnitWork → PlannedUnit
unit_view (Fetch file) = fetch_unit file.now
unit_view (Item work) = item_unit (work_view work.now)

-- an action's: the fetch before the items
abbrev pub action_units : PlanActionView → List PlannedUnit
action_units a = fetch_units a.fetch ++ map item_unit a.items

abbrev pub task_units : PlanTaskView → List PlannedUnit
task_units t = flat_map action_units t.actions

abbrev pub plan_units : PlanView → List PlannedUnit
plan_units p = flat_map task_units p.tasks

-- the requirements that a unit asks for, by its number: those of an item that runs in a process
abbrev pub asked : PlanView → ℕ → Option RequirementsView
asked p u = option_and_then (λ unit. unit.process) (slice_get (plan_units p) u)

-- a fetch gives the number of bytes
abbrev pub act_of : Option ItemAction → List ℕ → Outcome
act_of None bytes = Number (length bytes)
act_of (Some action) bytes = act_on action bytes

abbrev pub value_in : Folder → Option PlannedUnit → Outcome
value_in files None = Skipped
value_in files (Some u) = value_of (act_of u.action) (file_of files u.file)

-- the value of a unit, by its number
abbrev pub unit_value : PlanView → Folder → ℕ → Outcome
unit_value p files u = value_in files (slice_get (plan_units p) u)
