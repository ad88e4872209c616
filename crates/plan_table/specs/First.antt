-- The order of places and refusals, and which of those that hold is the first.
use Rattle.std.specs.Prelude.{ℕ, ◌≡◌, ◌<◌, Bool, true, false, ◌⊎◌, Option, Some, None, slice_get}
use Rattle.std.specs.Option.{option_map_or}
use Rattle.toml.specs.Data.{Data}
use Rattle.plan_table.specs.declared.refusals.Part.{Part}
use Rattle.plan_table.specs.declared.refusals.Part.TheVariants.{Plan, Project, Task, Requirements}
use Rattle.plan_table.specs.declared.refusals.Place.{Place}
use Rattle.plan_table.specs.declared.refusals.Which.{Which}
use Rattle.plan_table.specs.declared.refusals.Which.TheVariants as which
use Rattle.plan_table.specs.declared.refusals.PlanRefusal.{PlanRefusal}
use Rattle.plan_table.specs.declared.refusals.PlanRefusal.TheVariants as refusal
use Rattle.plan_table.specs.declared.tables.TableTest.TheVariants.{UnknownKey, WrongType, Missing, BadName}
use Rattle.plan_table.specs.Search.{holds_at, places}

-- ---- the order

abbrev pub cause_number : PlanRefusal → ℕ
cause_number refusal.TooLong = 0
cause_number refusal.NotToml = 1
cause_number (refusal.UnknownKey p) = 2
cause_number (refusal.WrongType p) = 3
cause_number (refusal.Missing p) = 4
cause_number (refusal.BadName p) = 5
cause_number (refusal.Twice p) = 6
cause_number (refusal.NoSuchProject p) = 7
cause_number (refusal.NoSuchTask p) = 8
cause_number (refusal.Cycle p) = 9
cause_number (refusal.ReleaseNotLast p) = 10
cause_number (refusal.ClassLoader p) = 11
cause_number (refusal.TooMany w p) = 12
cause_number (refusal.BadRequirements p) = 13

-- the place, and the plan where the whole text is meant
abbrev pub place_of : PlanRefusal → Place
place_of (refusal.UnknownKey p) = p
place_of (refusal.WrongType p) = p
place_of (refusal.Missing p) = p
place_of (refusal.BadName p) = p
place_of (refusal.Twice p) = p
place_of (refusal.NoSuchProject p) = p
place_of (refusal.NoSuchTask p) = p
place_of (refusal.Cycle p) = p
place_of (refusal.ReleaseNotLast p) = p
place_of (refusal.ClassLoader p) = p
place_of (refusal.TooMany w p) = p
place_of (refusal.BadRequirements p) = p
place_of _ = record { part = Plan; number = 0 }

abbrev pub part_number : Part → ℕ
part_number Plan = 0
part_number Project = 1
part_number Task = 2
part_number Requirements = 3

abbrev pub which_number : Which → ℕ
which_number which.Projects = 0
which_number which.Tasks = 1
which_number which.Units = 2
which_number which.Requirements = 3
which_number which.Actions = 4
which_number which.After = 5
which_number which.Lists = 6

-- of what there is too much, where that is the cause
abbrev pub excess_number : PlanRefusal → ℕ
excess_number (refusal.TooMany w p) = which_number w
excess_number _ = 0

-- the places come in the order of parts, and then of numbers
abbrev pub IsEarlier : Place → Place → Type 0
IsEarlier p q = (part_number p.part < part_number q.part) ⊎ ((p.part ≡ q.part) × (p.number < q.number))

-- of one cause the places decide, and of one place what there is too much of
abbrev pub IsNearer : PlanRefusal → PlanRefusal → Type 0
IsNearer a b = IsEarlier (place_of a) (place_of b) ⊎ ((place_of a ≡ place_of b) × (excess_number a < excess_number b))

abbrev pub IsBefore : PlanRefusal → PlanRefusal → Type 0
IsBefore a b = (cause_number a < cause_number b) ⊎ ((cause_number a ≡ cause_number b) × IsNearer a b)

-- ---- the first place

-- something stands there, and the test holds of it
abbrev pub holds_on : Data → Place → (Data → Bool) → Bool
holds_on d p test = option_map_or test (slice_get (places d p.part) p.number) false

abbrev pub Passes : (Part → Data → Bool) → Data → Place → Type 0
Passes test d p = holds_on d p (test p.part) ≡ true

-- it holds there, and at no earlier place
pub record FirstAt (Holds : Place → Type 0) (place : Place) : Type 0 where
  pub here : Holds place
  pub before : (earlier : Place) → IsEarlier earlier place → Holds earlier → ⊥

-- this one is the first at which the test holds, or it holds nowhere
abbrev pub IsFirstPlace : (Part → Data → Bool) → Data → Option Place → Type 0
IsFirstPlace test d None = (p : Place) → Passes test d p → ⊥
IsFirstPlace test d (Some p) = FirstAt (Passes test d) p

-- ---- the first refusal

-- it holds, and none that comes before it does
pub record IsFirst (Holds : PlanRefusal → Type 0) (r : PlanRefusal) : Type 0 where
  pub here : Holds r
  pub before : (earlier : PlanRefusal) → IsBefore earlier r → Holds earlier → ⊥

-- this one is the first, or none holds
abbrev pub IsFirstOf : (PlanRefusal → Type 0) → Option PlanRefusal → Type 0
IsFirstOf Holds None = (r : PlanRefusal) → Holds r → ⊥
IsFirstOf Holds (Some r) = IsFirst Holds r

-- ---- what tables give by themselves

abbrev pub TableHolds : Data → PlanRefusal → Type 0
TableHolds d (refusal.UnknownKey p) = Passes (holds_at UnknownKey) d p
TableHolds d (refusal.WrongType p) = Passes (holds_at WrongType) d p
TableHolds d (refusal.Missing p) = Passes (holds_at Missing) d p
TableHolds d (refusal.BadName p) = Passes (holds_at BadName) d p
TableHolds d _ = ⊥
