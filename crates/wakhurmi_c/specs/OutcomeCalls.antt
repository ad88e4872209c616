-- What became of tasks and units, as it is told.
use Rattle.std.specs.Prelude.{ℕ, ◌≡◌, ◌==◌, ◌⊎◌, ◌≤◌, ◌<◌, Option, Some, None, length, if◌then◌else◌}
use Rattle.lock_journal.specs.Names.{mark_of, TaskOf, BookView}
use Rattle.lock_journal.specs.Closings.{outcome_of}
use Rattle.planned_work.specs.Numbers.{IsUnitAt}
use Rattle.planned_work.specs.Outcomes.{ended_as, ended_by}
use Rattle.planned_work.specs.declared.numbers.Numbered.{Numbered}
use Rattle.wakhurmi_c.specs.PlanNumbers.{NOBODY, ended_of}
use Rattle.wakhurmi_c.specs.declared.plan_answers.PlanAnswer.{PlanAnswer}
use Rattle.wakhurmi_c.specs.declared.plan_answers.PlanAnswer.TheVariants.{Done, BadNumber}
use Rattle.wakhurmi_c.specs.declared.plan_answers.PlanOutcome.{PlanOutcome}

-- the item of this number, or none for that of the fetch
abbrev pub item_asked : ℕ → Option ℕ
item_asked n = if n == NOBODY then None else Some n

-- what became of the task is told, or there is no such task
abbrev pub TellsTask : BookView → ℕ → PlanOutcome → PlanAnswer → Type 0
TellsTask book t o Done = ended_of o ≡ ended_by (mark_of book.state (TaskOf t))
TellsTask book t o BadNumber = length book.graph.tasks ≤ t
TellsTask book t o _ = ⊥

-- no unit is there, or the book gave entries away
abbrev pub IsUntold : BookView → Numbered → Type 0
IsUntold book place = (0 < book.given) ⊎ ((u : ℕ) → IsUnitAt book.graph u place → ⊥)

-- what became of the unit at the place is told, or it can't be
abbrev pub TellsUnit : BookView → Numbered → PlanOutcome → PlanAnswer → Type 0
TellsUnit book place o Done = (u : ℕ) × IsUnitAt book.graph u place × (ended_of o ≡ ended_as (outcome_of book.state book.history u))
TellsUnit book place o BadNumber = IsUntold book place
TellsUnit book place o _ = ⊥
