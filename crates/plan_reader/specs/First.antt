-- When each refusal of a text holds.
use Rattle.std.specs.Prelude.{ℕ, ◌≡◌, ◌<◌, Bool, true, false, not, nat_lt, List, [], map, length, slice_index_or, Option, Some, None, MatchOption}
use Rattle.std.specs.Prelude.{Ok, Err}
use Rattle.toml.specs.Data.{Data}
use Rattle.item_actions.specs.Value.{max_file_bytes}
use Rattle.ready_work.specs.Rank.{Ranked}
use Rattle.plan_table.specs.declared.refusals.Part.{Part}
use Rattle.plan_table.specs.declared.refusals.Part.TheVariants as part
use Rattle.plan_table.specs.declared.refusals.Place.{Place}
use Rattle.plan_table.specs.declared.refusals.Which.{Which}
use Rattle.plan_table.specs.declared.refusals.Which.TheVariants as which
use Rattle.plan_table.specs.declared.refusals.PlanRefusal.{PlanRefusal}
use Rattle.plan_table.specs.declared.refusals.PlanRefusal.TheVariants as refusal
use Rattle.plan_table.specs.Document.{document_of}
use Rattle.plan_table.specs.First.{holds_on, TableHolds}
use Rattle.plan_table.specs.Forms.{Text}
use Rattle.plan_table.specs.Keys.{projects_of, tasks_of, requirements_of, name_of, actions_of, after_of}
use Rattle.plan_table.specs.Search.{places}
use Rattle.plan_reader.specs.declared.limits.TheConstants.{MAX_PROJECTS, MAX_TASKS, MAX_UNITS, MAX_REQUIREMENTS, MAX_ACTIONS_PER_TASK, MAX_AFTER}
use Rattle.plan_reader.specs.declared.rows.Row.{Row}
use Rattle.plan_reader.specs.declared.rows.Row.TheVariants as row
use Rattle.plan_reader.specs.Names.{names_in, dependencies_of}
use Rattle.plan_reader.specs.Reading.{Answer}
use Rattle.plan_reader.specs.Rows.{plan_unit_count, has_few_lists, holds}

-- an earlier one of the names is the same
abbrev pub IsTwice : List Text → ℕ → Type 0
IsTwice names n = (i : ℕ) × (i < n) × (n < length names) × (slice_index_or names i [] ≡ slice_index_or names n [])

-- two tables of one sort have this name, the second of them at the place
abbrev pub HasTwice : Data → Place → Type 0
HasTwice d p = IsTwice (map name_of (places d p.part)) p.number

-- the task at the place has no rank
abbrev pub HasNoRank : Data → Place → Type 0
HasNoRank d p = (p.part ≡ part.Task) × (p.number < length (tasks_of d)) × (Ranked (dependencies_of d) p.number → ⊥)

-- the row's test holds of the table at the place
abbrev pub row_holds : Data → Row → Place → Bool
row_holds d r p = holds_on d p (holds (names_in d) r p.part)

-- a table of this part has more of it than it may have
abbrev pub passes_limit : Which → Part → Data → Bool
passes_limit which.Projects part.Plan d = nat_lt MAX_PROJECTS (length (projects_of d))
passes_limit which.Tasks part.Plan d = nat_lt MAX_TASKS (length (tasks_of d))
passes_limit which.Units part.Plan d = nat_lt MAX_UNITS (plan_unit_count d)
passes_limit which.Requirements part.Plan d = nat_lt MAX_REQUIREMENTS (length (requirements_of d))
passes_limit which.Actions part.Task t = nat_lt MAX_ACTIONS_PER_TASK (length (actions_of t))
passes_limit which.After part.Task t = nat_lt MAX_AFTER (length (after_of t))
passes_limit which.Lists part.Requirements r = not (has_few_lists r)
passes_limit _ _ d = false

-- of a document
abbrev pub DocumentHolds : Data → PlanRefusal → Type 0
DocumentHolds d (refusal.Twice p) = HasTwice d p
DocumentHolds d (refusal.NoSuchProject p) = row_holds d row.NoSuchProject p ≡ true
DocumentHolds d (refusal.NoSuchTask p) = row_holds d row.NoSuchTask p ≡ true
DocumentHolds d (refusal.Cycle p) = HasNoRank d p
DocumentHolds d (refusal.ReleaseNotLast p) = row_holds d row.ReleaseNotLast p ≡ true
DocumentHolds d (refusal.ClassLoader p) = row_holds d row.ClassLoader p ≡ true
DocumentHolds d (refusal.TooMany w p) = holds_on d p (passes_limit w p.part) ≡ true
DocumentHolds d (refusal.BadRequirements p) = row_holds d row.BadRequirements p ≡ true
DocumentHolds d r = TableHolds d r

-- of a text
abbrev pub TextHolds : List ℕ → PlanRefusal → Type 0
TextHolds bytes refusal.TooLong = max_file_bytes < length bytes
TextHolds bytes refusal.NotToml = document_of bytes ≡ None
TextHolds bytes r = MatchOption (document_of bytes) ⊥ (λ d. DocumentHolds d r)

-- the refusal of an answer, if it is one
abbrev pub refusal_in : Answer → Option PlanRefusal
refusal_in (Ok plan) = None
refusal_in (Err r) = Some r
