-- The first place of a plan at which a test holds, and the first test of its tables that holds: the first of the tests, at its first place.
use Rattle.std.specs.Prelude.{ℕ, Bool, ◌||◌, List, [], ◌∷◌, Option, None, option_map}
use Rattle.std.specs.Option.{option_or}
use Rattle.std.specs.List.{list_any, position}
use Rattle.toml.specs.Data.{Data}
use Rattle.plan_table.specs.declared.rules.TableKind.{TableKind}
use Rattle.plan_table.specs.declared.rules.TableKind.TheVariants as kind
use Rattle.plan_table.specs.declared.tables.TableTest.{TableTest}
use Rattle.plan_table.specs.declared.tables.TableTest.TheVariants.{UnknownKey, WrongType, Missing, BadName}
use Rattle.plan_table.specs.declared.refusals.Part.{Part}
use Rattle.plan_table.specs.declared.refusals.Part.TheVariants.{Plan, Project, Task, Requirements}
use Rattle.plan_table.specs.declared.refusals.Place.{Place}
use Rattle.plan_table.specs.declared.refusals.PlanRefusal.{PlanRefusal}
use Rattle.plan_table.specs.declared.refusals.PlanRefusal.TheVariants as refusal
use Rattle.plan_table.specs.Keys.{projects_of, tasks_of, requirements_of, actions_of, items_of}
use Rattle.plan_table.specs.Tables.{holds, tests}

-- ---- the search

-- the first answer that a list gives
abbrev pub first_of : {X Y : Type 0} → (X → Option Y) → List X → Option Y
first_of f [] = None
first_of f (x ∷ xs) = option_or (f x) (first_of f xs)

abbrev pub places : Data → Part → List Data
places d Plan = d ∷ []
places d Project = projects_of d
places d Task = tasks_of d
places d Requirements = requirements_of d

abbrev pub parts : List Part
parts = Plan ∷ Project ∷ Task ∷ Requirements ∷ []

abbrev pub place_at : Part → ℕ → Place
place_at p i = record { part = p; number = i }

abbrev pub first_in : (Part → Data → Bool) → Data → Part → Option Place
first_in test d p = option_map (place_at p) (position (test p) (places d p))

-- the first place at which a test of the tables holds
abbrev pub first_place : (Part → Data → Bool) → Data → Option Place
first_place test d = first_of (first_in test d) parts

-- ---- the tests of tables

abbrev pub in_action : (TableKind → Data → Bool) → Data → Bool
in_action test d = test kind.Action d || list_any (test kind.Item) (items_of d)

-- what stands in an action or an item holds at its task
abbrev pub in_part : (TableKind → Data → Bool) → Part → Data → Bool
in_part test Plan d = test kind.Document d
in_part test Project d = test kind.Project d
in_part test Task d = test kind.Task d || list_any (in_action test) (actions_of d)
in_part test Requirements d = test kind.Requirements d

abbrev pub holds_at : TableTest → Part → Data → Bool
holds_at t = in_part (holds t)

abbrev pub refusal_of : TableTest → Place → PlanRefusal
refusal_of UnknownKey p = refusal.UnknownKey p
refusal_of WrongType p = refusal.WrongType p
refusal_of Missing p = refusal.Missing p
refusal_of BadName p = refusal.BadName p

abbrev pub table_refusal : Data → Option PlanRefusal
table_refusal d = first_of (λ t. option_map (refusal_of t) (first_place (holds_at t) d)) tests
