-- The tasks of tables that are taken out of their document.
use Rattle.std.specs.Prelude.{ℕ, List, [], map}
use Rattle.toml.specs.Data.{Data}
use Rattle.daemon_requirements.specs.RequirementsView.{RequirementsView}
use Rattle.plan_table.specs.Forms.{Text}
use Rattle.plan_table.specs.Keys.{name_of, project_of, all_projects_of, actions_of}
use Rattle.plan_reader.specs.declared.known.Known.{Known}
use Rattle.plan_reader.specs.NameNumbers.{number_of}
use Rattle.plan_reader.specs.Names.{NameLists}
use Rattle.plan_reader.specs.PlanView.{PlanTaskView}
use Rattle.plan_reader.specs.Planned.{action_of}

-- names of projects and requirements, without those of tasks
abbrev pub named : List Text → List Text → NameLists
named projects requirements = record { projects = projects; tasks = []; requirements = requirements }

abbrev pub known_names : Known → NameLists
known_names k = named k.projects.now k.requirements.now

-- the task of a table, after these tasks
abbrev pub task_after : NameLists → List RequirementsView → Data → List ℕ → PlanTaskView
task_after names profiles t after = record {
  name = name_of t;
  project = number_of names.projects (project_of t);
  after = after;
  all_projects = all_projects_of t;
  actions = map (action_of names profiles) (actions_of t);
}
