-- The names of a document, and their numbers.
use Rattle.std.specs.Prelude.{ℕ, ◌≡◌, ◌==◌, ◌<◌, ◌≤◌, Bool, not, if◌then◌else◌, List, [], map, length, slice_index, Option, None}
use Rattle.std.specs.Prelude.{Some}
use Rattle.std.specs.List.{list_any}
use Rattle.indexmap.specs.IndexSet.{insert_all}
use Rattle.toml.specs.Data.{Data}
use Rattle.plan_table.specs.Forms.{Text}
use Rattle.plan_table.specs.Keys.{name_of, projects_of, tasks_of, requirements_of, after_of}
use Rattle.plan_reader.specs.declared.names.Names.{Names}
use Rattle.plan_reader.specs.NameNumbers.{has_name, number_of}

pub record NameLists : Type 0 where
  pub projects : List Text
  pub tasks : List Text
  pub requirements : List Text

abbrev pub names_in : Data → NameLists
names_in d = record {
  projects = map name_of (projects_of d);
  tasks = map name_of (tasks_of d);
  requirements = map name_of (requirements_of d);
}

abbrev pub name_lists : Names → NameLists
name_lists n = record { projects = n.projects.now; tasks = n.tasks.now; requirements = n.requirements.now }

-- ---- the tasks that a task comes after

-- each number once, in the order in which they first stand
abbrev pub once : List ℕ → List ℕ
once ns = insert_all (λ m n. m == n) [] ns

-- the numbers of the tasks that a task comes after
abbrev pub dependency_numbers : List Text → Data → List ℕ
dependency_numbers names t = once (map (number_of names) (after_of t))

abbrev pub dependencies_of : Data → List (List ℕ)
dependencies_of d = map (dependency_numbers (names_in d).tasks) (tasks_of d)

-- ---- where each of the names is there

abbrev pub lacks_any : List Text → List Text → Bool
lacks_any names ts = list_any (λ t. not (has_name names t)) ts

abbrev pub known_numbers : List Text → List Text → Option (List ℕ)
known_numbers names ts = if lacks_any names ts then None else Some (once (map (number_of names) ts))

abbrev pub known_rows : List Text → List Data → Option (List (List ℕ))
known_rows names ds = if list_any (λ d. lacks_any names (after_of d)) ds then None else Some (map (dependency_numbers names) ds)

-- ---- marks of numbers, by number

-- of the numbers in range those that are there have the mark, and no number has a later one
pub record AreMarked (marks : List ℕ) (mark : ℕ) (ns : List ℕ) : Type 0 where
  pub not_later : (k : ℕ) → slice_index marks k ≤ mark
  pub exact : (k : ℕ) → k < length marks → (slice_index marks k == mark) ≡ list_any (λ n. k == n) ns
