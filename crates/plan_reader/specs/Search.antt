-- The first refusal of a plan in which no test of a single key holds.
use Rattle.std.specs.Prelude.{ℕ, List, [], ◌∷◌, map, Option, option_map, unwrap_or, slice_index_or}
use Rattle.std.specs.Option.{option_or}
use Rattle.toml.specs.Data.{Data}
use Rattle.plan_table.specs.declared.refusals.Part.{Part}
use Rattle.plan_table.specs.declared.refusals.Part.TheVariants.{Task}
use Rattle.plan_table.specs.declared.refusals.Place.{Place}
use Rattle.plan_table.specs.declared.refusals.Which.TheVariants.{Units}
use Rattle.plan_table.specs.declared.refusals.PlanRefusal.{PlanRefusal}
use Rattle.plan_table.specs.declared.refusals.PlanRefusal.TheVariants as refusal
use Rattle.plan_table.specs.Keys.{name_of}
use Rattle.plan_table.specs.Search.{first_of, places, parts, place_at, first_place, table_refusal}
use Rattle.plan_reader.specs.declared.rows.Row.{Row}
use Rattle.plan_reader.specs.declared.rows.Row.TheVariants.{NoSuchProject, NoSuchTask, ReleaseNotLast, ClassLoader, TooMany, BadRequirements}
use Rattle.plan_reader.specs.NameNumbers.{first_repeat}
use Rattle.plan_reader.specs.Names.{names_in}
use Rattle.plan_reader.specs.Rows.{excess, holds}

-- ---- a name that stood before

abbrev pub first_twice : Part → List Data → Option Place
first_twice p ds = option_map (place_at p) (first_repeat (map name_of ds))

abbrev pub twice_in : Data → Part → Option PlanRefusal
twice_in d p = option_map (λ place. refusal.Twice place) (first_twice p (places d p))

abbrev pub twice_refusal : Data → Option PlanRefusal
twice_refusal d = first_of (twice_in d) parts

-- ---- the other rows

-- the row's refusal of a table of the document at its place
abbrev pub refusal_of : Row → Data → Place → PlanRefusal
refusal_of NoSuchProject t p = refusal.NoSuchProject p
refusal_of NoSuchTask t p = refusal.NoSuchTask p
refusal_of ReleaseNotLast t p = refusal.ReleaseNotLast p
refusal_of ClassLoader t p = refusal.ClassLoader p
refusal_of TooMany t p = refusal.TooMany (unwrap_or (excess p.part t) Units) p
refusal_of BadRequirements t p = refusal.BadRequirements p

abbrev pub table_at : Data → Place → Data
table_at d p = slice_index_or (places d p.part) p.number d

abbrev pub row_refusal : Data → Row → Option PlanRefusal
row_refusal d r = option_map (λ p. refusal_of r (table_at d p) p) (first_place (holds (names_in d) r) d)

abbrev pub rows_refusal : List Row → Data → Option PlanRefusal
rows_refusal rs d = first_of (row_refusal d) rs

-- ---- before and behind Cycle

abbrev pub rows_before : List Row
rows_before = NoSuchProject ∷ NoSuchTask ∷ []

abbrev pub rows_behind : List Row
rows_behind = ReleaseNotLast ∷ ClassLoader ∷ TooMany ∷ BadRequirements ∷ []

abbrev pub refusal_before : Data → Option PlanRefusal
refusal_before d = option_or (table_refusal d) (option_or (twice_refusal d) (rows_refusal rows_before d))

abbrev pub refusal_behind : Data → Option PlanRefusal
refusal_behind d = rows_refusal rows_behind d

abbrev pub cycle_at : ℕ → PlanRefusal
cycle_at t = refusal.Cycle (place_at Task t)

-- the first task without a rank is refused, if there is one
abbrev pub cycle_refusal : Option ℕ → Option PlanRefusal
cycle_refusal first = option_map cycle_at first
