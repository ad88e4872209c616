-- The units of a plan by their numbers, and what each gives.
use Rattle.std.specs.Prelude.{ℕ, ◌≡◌, true, List, Some, length, option_and_then, slice_get}
use Rattle.std.specs.List.{All}
use Rattle.item_actions.specs.Files.{Folder}
use Rattle.item_actions.specs.Forms.{is_file_name}
use Rattle.item_actions.specs.declared.outcomes.Outcome.{Outcome}
use Rattle.daemon_requirements.specs.RequirementsView.{RequirementsView}
use Rattle.lock_journal.specs.Names.{Fits, GraphView, IsFetchOf, is_item}
use Rattle.plan_reader.specs.PlanView.{WorkView}
use Rattle.plan_reader.specs.Units.{PlannedUnit, fetch_unit, item_unit, value_in}

-- what a unit gives on these files, by its number
abbrev pub given : List PlannedUnit → Folder → ℕ → Outcome
given units files u = value_in files (slice_get units u)

-- the unit's file has the form of a file's name
abbrev pub HasFileName : PlannedUnit → Type 0
HasFileName u = is_file_name u.file ≡ true

-- the unit with this number is a file that is fetched
abbrev pub IsFetched : List PlannedUnit → ℕ → Type 0
IsFetched units u = (file : List ℕ) × (slice_get units u ≡ Some (fetch_unit file))

-- the unit with this number is an item
abbrev pub IsPlannedItem : List PlannedUnit → ℕ → Type 0
IsPlannedItem units u = (w : WorkView) × (slice_get units u ≡ Some (item_unit w))

-- The units are those of the graph, by number: what it has as fetches is fetched, what it has as items are items, and each has the name of a file.
pub record AreUnitsOf (g : GraphView) (units : List PlannedUnit) : Type 0 where
  pub fits : Fits g
  pub count : g.units ≡ length units
  pub fetches : (a u : ℕ) → IsFetchOf g a u → IsFetched units u
  pub items : (u : ℕ) → is_item g u ≡ true → IsPlannedItem units u
  pub named : All HasFileName units

-- the unit with this number is an item in a process, which asks for a daemon that covers these requirements
abbrev pub AsksFor : List PlannedUnit → ℕ → RequirementsView → Type 0
AsksFor units u asked = option_and_then (λ (unit : PlannedUnit). unit.process) (slice_get units u) ≡ Some asked

-- where `asks` says what a unit may ask for, each may ask for what it asks for
abbrev pub AllMayAsk : (ℕ → RequirementsView → Type 0) → List PlannedUnit → Type 0
AllMayAsk asks units = (u : ℕ) (asked : RequirementsView) → AsksFor units u asked → asks u asked
