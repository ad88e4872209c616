-- The tests of a plan that look at more than one key, row by row.
use Rattle.std.specs.Prelude.{ℕ, ℤ, pos, negsuc, codes, Bool, false, not, if◌then◌else◌, ◌&&◌, ◌+◌, ◌-◌, nat_lt, nat_le, List, take}
use Rattle.std.specs.Prelude.{length, Option, None, Some, is_some}
use Rattle.std.specs.List.{list_any, sum_by}
use Rattle.std.specs.Option.{option_map_or}
use Rattle.std.specs.Str.{bytes_eq}
use Rattle.toml.specs.Data.{Data}
use Rattle.daemon_requirements.specs.declared.requirement.TheConstants.{MAX_HEAP_MB}
use Rattle.plan_table.specs.declared.refusals.Part.{Part}
use Rattle.plan_table.specs.declared.refusals.Part.TheVariants as part
use Rattle.plan_table.specs.declared.refusals.Which.{Which}
use Rattle.plan_table.specs.declared.refusals.Which.TheVariants.{Projects, Tasks, Units, Requirements, Actions, After, Lists}
use Rattle.plan_table.specs.Forms.{Text}
use Rattle.plan_table.specs.Keys.{projects_of, tasks_of, requirements_of, project_of, after_of, actions_of, wait_of, fetch_of, items_of, isolation_of}
use Rattle.plan_table.specs.Keys.{requirements_name_of, heap_of, args_of, properties_of, variables_of}
use Rattle.plan_reader.specs.declared.limits.TheConstants.{MAX_PROJECTS, MAX_TASKS, MAX_UNITS, MAX_REQUIREMENTS, MAX_ACTIONS_PER_TASK, MAX_AFTER, MAX_LISTED}
use Rattle.plan_reader.specs.declared.rows.Row.{Row}
use Rattle.plan_reader.specs.declared.rows.Row.TheVariants as row
use Rattle.plan_reader.specs.NameNumbers.{has_name}
use Rattle.plan_reader.specs.Names.{NameLists}

-- ---- names that aren't there

abbrev pub lacks_project : List Text → Data → Bool
lacks_project names task = not (has_name names (project_of task))

abbrev pub lacks_task : List Text → Data → Bool
lacks_task names task = list_any (λ name. not (has_name names name)) (after_of task)

-- ---- how an action waits, and where its items run

abbrev pub releases : Data → Bool
releases action = bytes_eq (wait_of action) (codes "release")

-- an action that isn't the last releases the project lock
abbrev pub releases_early : List Data → Bool
releases_early actions = list_any releases (take (length actions - 1) actions)

abbrev pub has_item : (Data → Bool) → Data → Bool
has_item test task = list_any (λ action. list_any test (items_of action)) (actions_of task)

abbrev pub is_class_loader : Data → Bool
is_class_loader item = bytes_eq (isolation_of item) (codes "classloader")

-- ---- too much of something

abbrev pub unit_count : Data → ℕ
unit_count action = length (items_of action) + (if is_some (fetch_of action) then 1 else 0)

abbrev pub task_unit_count : Data → ℕ
task_unit_count task = sum_by unit_count (actions_of task)

abbrev pub plan_unit_count : Data → ℕ
plan_unit_count d = sum_by task_unit_count (tasks_of d)

abbrev pub excess_of_plan : Data → Option Which
excess_of_plan d =
    if nat_lt MAX_PROJECTS (length (projects_of d)) then Some Projects
    else if nat_lt MAX_TASKS (length (tasks_of d)) then Some Tasks
    else if nat_lt MAX_UNITS (plan_unit_count d) then Some Units
    else if nat_lt MAX_REQUIREMENTS (length (requirements_of d)) then Some Requirements
    else None

abbrev pub excess_of_task : Data → Option Which
excess_of_task task =
    if nat_lt MAX_ACTIONS_PER_TASK (length (actions_of task)) then Some Actions
    else if nat_lt MAX_AFTER (length (after_of task)) then Some After
    else None

abbrev pub has_few_lists : Data → Bool
has_few_lists r = nat_le (length (args_of r)) MAX_LISTED && nat_le (length (properties_of r)) MAX_LISTED && nat_le (length (variables_of r)) MAX_LISTED

abbrev pub excess_of_requirements : Data → Option Which
excess_of_requirements r = if has_few_lists r then None else Some Lists

-- what a table of this part has too much of
abbrev pub excess : Part → Data → Option Which
excess part.Plan d = excess_of_plan d
excess part.Project d = None
excess part.Task d = excess_of_task d
excess part.Requirements d = excess_of_requirements d

-- ---- requirements

-- the item asks for requirements that aren't there
abbrev pub asks_unknown : List Text → Data → Bool
asks_unknown names item = option_map_or (λ name. not (has_name names name)) (requirements_name_of item) false

-- from 1 to 65,536 MB
abbrev pub is_heap : ℤ → Bool
is_heap (pos mb) = nat_le 1 mb && nat_le mb MAX_HEAP_MB
is_heap (negsuc n) = false

-- of an item
abbrev pub item_fails : Row → List Text → Data → Bool
item_fails row.ClassLoader names item = is_class_loader item
item_fails row.BadRequirements names item = asks_unknown names item
item_fails _ names item = false

-- ---- the tests

-- the test of a row holds of a table of this part, where these are the names
abbrev pub holds : NameLists → Row → Part → Data → Bool
holds n row.NoSuchProject part.Task t = lacks_project n.projects t
holds n row.NoSuchTask part.Task t = lacks_task n.tasks t
holds n row.ReleaseNotLast part.Task t = releases_early (actions_of t)
holds n row.ClassLoader part.Task t = has_item is_class_loader t
holds n row.TooMany p t = is_some (excess p t)
holds n row.BadRequirements part.Task t = has_item (asks_unknown n.requirements) t
holds n row.BadRequirements part.Requirements t = not (is_heap (heap_of t))
holds n _ _ t = false
