-- What stands under each key of a plan's tables, with the defaults.
use Rattle.std.specs.Prelude.{ℤ, pos, codes, Bool, false, List, Option}
use Rattle.toml.specs.Data.{Data, get}
use Rattle.item_actions.specs.declared.keep_alive.KeepAlive.TheVariants.{Session}
use Rattle.item_actions.specs.Words.{keep_alive_word}
use Rattle.resource_lock.specs.declared.graphs.Retention.TheVariants.{ReleaseAndReacquire}
use Rattle.resource_lock.specs.Words.{retention_word}
use Rattle.plan_table.specs.Forms.{Text}
use Rattle.plan_table.specs.Values.{list_at, text_at, texts_at, optional_text_at, text_or, integer_or, boolean_or, pairs_at}

-- ---- the document

abbrev pub projects_of : Data → List Data
projects_of d = list_at (codes "project") d

abbrev pub tasks_of : Data → List Data
tasks_of d = list_at (codes "task") d

abbrev pub requirements_of : Data → List Data
requirements_of d = list_at (codes "requirements") d

-- ---- a project, a task or requirements

abbrev pub name_of : Data → Text
name_of d = text_at (codes "name") d

-- ---- a task

abbrev pub project_of : Data → Text
project_of d = text_at (codes "project") d

abbrev pub after_of : Data → List Text
after_of d = texts_at (codes "after") d

-- whether it asks for all projects
abbrev pub all_projects_of : Data → Bool
all_projects_of d = boolean_or false (get (codes "all_projects") d)

abbrev pub actions_of : Data → List Data
actions_of d = list_at (codes "action") d

-- ---- an action

abbrev pub wait_of : Data → Text
wait_of d = text_or (retention_word ReleaseAndReacquire) (get (codes "wait") d)

abbrev pub fetch_of : Data → Option Text
fetch_of d = optional_text_at (codes "fetch") d

abbrev pub items_of : Data → List Data
items_of d = list_at (codes "item") d

-- ---- an item

abbrev pub do_of : Data → Text
do_of d = text_at (codes "do") d

abbrev pub file_of : Data → Text
file_of d = text_at (codes "file") d

abbrev pub needle_of : Data → Text
needle_of d = text_at (codes "needle") d

abbrev pub isolation_of : Data → Text
isolation_of d = text_or (codes "none") (get (codes "isolation") d)

abbrev pub requirements_name_of : Data → Option Text
requirements_name_of d = optional_text_at (codes "requirements") d

-- ---- requirements

abbrev pub executable_of : Data → Text
executable_of d = text_or (codes "self") (get (codes "executable") d)

-- in MB
abbrev pub heap_of : Data → ℤ
heap_of d = integer_or (pos 512) (get (codes "heap_mb") d)

abbrev pub args_of : Data → List Text
args_of d = texts_at (codes "args") d

abbrev pub properties_of : Data → List (Text × Text)
properties_of d = pairs_at (codes "properties") d

abbrev pub variables_of : Data → List (Text × Text)
variables_of d = pairs_at (codes "variables") d

abbrev pub debug_of : Data → Bool
debug_of d = boolean_or false (get (codes "debug") d)

abbrev pub assertions_of : Data → Bool
assertions_of d = boolean_or false (get (codes "assertions") d)

abbrev pub encoding_of : Data → Text
encoding_of d = text_or (codes "UTF-8") (get (codes "encoding") d)

abbrev pub keep_alive_of : Data → Text
keep_alive_of d = text_or (keep_alive_word Session) (get (codes "keep_alive") d)
