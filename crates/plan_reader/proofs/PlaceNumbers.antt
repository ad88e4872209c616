-- The numbers of places.
use Rattle.std.proofs.Common.{◌≡◌, ℕ, ◌<◌, ◌≤◌, ◌^◌, true, List, length, map, Some, arith}
use Rattle.std.proofs.lemmas.Bool.{and_parts, leb-true}
use Rattle.std.proofs.lemmas.List.{length-map}
use Rattle.toml.specs.Data.{Data}
use Rattle.plan_table.specs.declared.document.TheConstants.{MAX_PARTS}
use Rattle.plan_table.specs.declared.refusals.Part.{Part}
use Rattle.plan_table.specs.declared.refusals.Part.TheVariants.{Plan, Project, Task, Requirements}
use Rattle.plan_table.specs.Document.{have_numbers, is_numbered}
use Rattle.plan_table.specs.Forms.{Text}
use Rattle.plan_table.specs.Keys.{projects_of, tasks_of, requirements_of, name_of}
use Rattle.plan_table.specs.Search.{places}
use Rattle.plan_reader.specs.NameNumbers.{first_repeat}
use Rattle.plan_reader.proofs.Least.{least_within}

pub few_places : (d : Data) (p : Part) → is_numbered d ≡ true → length (places d p) ≤ MAX_PARTS
few_places d Plan h = omega arith
few_places d Project h = leb-true _ _ (and_parts (have_numbers (projects_of d)) (have_numbers (tasks_of d)) (and_parts _ (have_numbers (requirements_of d)) h).0).0
few_places d Task h = leb-true _ _ (and_parts (have_numbers (projects_of d)) (have_numbers (tasks_of d)) (and_parts _ (have_numbers (requirements_of d)) h).0).1
few_places d Requirements h = leb-true _ _ (and_parts _ (have_numbers (requirements_of d)) h).1

-- a name that stood before has a number that a place can have
pub repeat_within : (d : Data) (p : Part) (names : List Text) (i : ℕ) → is_numbered d ≡ true → names ≡ map name_of (places d p) → first_repeat names ≡ Some i → i < 2 ^ 32
repeat_within d p names i h are e =
    let long : length names ≡ length (places d p) = rw are (length-map (places d p) name_of) in
    omega (arith, long, few_places d p h, (least_within _ 0 (length names) i e).1)
