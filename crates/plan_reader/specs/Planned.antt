-- The plan of a document that nothing refuses.
use Rattle.std.specs.Prelude.{ℕ, ℤ, pos, negsuc, codes, if◌then◌else◌, List, map, Option, None, Some, unwrap_or, option_and_then, slice_get, position}
use Rattle.std.specs.Option.{option_map_or}
use Rattle.std.specs.Str.{bytes_eq}
use Rattle.toml.specs.Data.{Data, table, no_members}
use Rattle.item_actions.specs.declared.actions.ItemAction.{ItemAction}
use Rattle.item_actions.specs.declared.action_kinds.ActionKind.{ActionKind}
use Rattle.item_actions.specs.declared.action_kinds.ActionKind.TheVariants as kind
use Rattle.item_actions.specs.Words.{action_kind_of, keep_alive_mode_of}
use Rattle.item_actions.specs.declared.actions.ItemAction.TheVariants.{Lines, Words, Bytes, Longest, Count, Sha256}
use Rattle.item_actions.specs.declared.keep_alive.KeepAlive.{KeepAlive}
use Rattle.item_actions.specs.declared.keep_alive.KeepAlive.TheVariants.{Session}
use Rattle.resource_lock.specs.declared.graphs.Retention.{Retention}
use Rattle.resource_lock.specs.declared.graphs.Retention.TheVariants.{ReleaseAndReacquire}
use Rattle.resource_lock.specs.Words.{retention_of}
use Rattle.daemon_requirements.specs.declared.fields.Pair.{Pair}
use Rattle.daemon_requirements.specs.RequirementsView.{RequirementsView}
use Rattle.plan_table.specs.Forms.{Text, is_needle}
use Rattle.plan_table.specs.Keys.{tasks_of, requirements_of, name_of, project_of, all_projects_of, actions_of, wait_of, fetch_of, items_of}
use Rattle.plan_table.specs.Keys.{do_of, file_of, needle_of}
use Rattle.plan_table.specs.Keys.{isolation_of, requirements_name_of, executable_of, heap_of, args_of, properties_of, variables_of, debug_of, assertions_of}
use Rattle.plan_table.specs.Keys.{encoding_of, keep_alive_of}
use Rattle.plan_reader.specs.PlanView.{WorkView, PlanActionView, PlanTaskView, PlanView}
use Rattle.plan_reader.specs.NameNumbers.{number_of}
use Rattle.plan_reader.specs.Names.{NameLists, names_in, dependency_numbers}

-- ---- requirements

abbrev pub pair_of : Text × Text → Pair
pair_of p = record { name = p.0; value = p.1 }

-- in MB, as it is written
abbrev pub heap_number : ℤ → ℕ
heap_number (pos mb) = mb
heap_number (negsuc n) = 0

-- a document with a word of no mode is refused
abbrev pub mode_named : Text → KeepAlive
mode_named word = unwrap_or (keep_alive_mode_of word) Session

abbrev pub requirements_from : Data → RequirementsView
requirements_from r = record {
  executable = executable_of r;
  heap_mb = heap_number (heap_of r);
  args = args_of r;
  properties = map pair_of (properties_of r);
  variables = map pair_of (variables_of r);
  debug = debug_of r;
  assertions = assertions_of r;
  encoding = encoding_of r;
  keep = mode_named (keep_alive_of r);
}

-- what a table without keys asks for
abbrev pub default_requirements : RequirementsView
default_requirements = requirements_from (table no_members)

abbrev pub all_requirements : Data → List RequirementsView
all_requirements d = map requirements_from (requirements_of d)

-- the one of that name, and the default where no name is given
abbrev pub requirements_named : List Text → List RequirementsView → Option Text → RequirementsView
requirements_named names profiles None = default_requirements
requirements_named names profiles (Some name) = unwrap_or (option_and_then (slice_get profiles) (position (bytes_eq name) names)) default_requirements

-- ---- items

-- what is counted has the form of a needle
abbrev pub needle_action : Text → ItemAction
needle_action needle = if is_needle needle then Count needle else Bytes

abbrev pub action_of_kind : ActionKind → Text → ItemAction
action_of_kind kind.Lines needle = Lines
action_of_kind kind.Words needle = Words
action_of_kind kind.Bytes needle = Bytes
action_of_kind kind.Longest needle = Longest
action_of_kind kind.Count needle = needle_action needle
action_of_kind kind.Sha256 needle = Sha256

-- a document with a word of no action is refused
abbrev pub action_named : Text → Text → ItemAction
action_named word needle = option_map_or (λ kind. action_of_kind kind needle) (action_kind_of word) Bytes

abbrev pub process_of : NameLists → List RequirementsView → Data → Option RequirementsView
process_of names profiles item = if bytes_eq (isolation_of item) (codes "process")
    then Some (requirements_named names.requirements profiles (requirements_name_of item)) else None

abbrev pub work_of : NameLists → List RequirementsView → Data → WorkView
work_of names profiles item = record {
  action = action_named (do_of item) (needle_of item);
  file = file_of item;
  process = process_of names profiles item;
}

-- ---- actions and tasks

-- a document with a word of no retention is refused
abbrev pub retention_named : Text → Retention
retention_named word = unwrap_or (retention_of word) ReleaseAndReacquire

abbrev pub action_of : NameLists → List RequirementsView → Data → PlanActionView
action_of names profiles action = record {
  fetch = fetch_of action;
  retention = retention_named (wait_of action);
  items = map (work_of names profiles) (items_of action);
}

abbrev pub task_of : NameLists → List RequirementsView → Data → PlanTaskView
task_of names profiles t = record {
  name = name_of t;
  project = number_of names.projects (project_of t);
  after = dependency_numbers names.tasks t;
  all_projects = all_projects_of t;
  actions = map (action_of names profiles) (actions_of t);
}

abbrev pub plan_of : Data → PlanView
plan_of d = record {
  projects = (names_in d).projects;
  tasks = map (task_of (names_in d) (all_requirements d)) (tasks_of d);
  requirements = all_requirements d;
}
