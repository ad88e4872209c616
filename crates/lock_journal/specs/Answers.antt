-- The outcomes that a history gives, where the value of each unit is known.
use Rattle.std.specs.Prelude.{ℕ, List, ◌∷◌}
use Rattle.std.specs.List.{AllByRecursion}
use Rattle.resource_lock.specs.declared.ids.WorkerId.{WorkerId}
use Rattle.item_actions.specs.declared.outcomes.Outcome.{Outcome}
use Rattle.item_actions.specs.declared.outcomes.Outcome.TheVariants.{Fault, NoMemory}
use Rattle.item_actions.specs.Value.{IsHonest}
use Rattle.lock_journal.specs.Closings.{closings}
use Rattle.lock_transforms.specs.Entry.{Entry}
use Rattle.lock_journal.specs.ClosedBy.{closed_by}

-- a unit that the history closed with Fault or NoMemory has that, and any other its value
abbrev pub answer_by : List Outcome → Outcome → Outcome
answer_by (Fault ∷ os) value = Fault
answer_by (NoMemory ∷ os) value = NoMemory
answer_by _ value = value

abbrev pub answers : (ℕ → Outcome) → List Entry → ℕ → Outcome
answers value h u = answer_by (closings h u) (value u)

-- each closing entry of the worker is honest
abbrev pub IsHonestWorker : (ℕ → Outcome) → List Entry → WorkerId → Type 0
IsHonestWorker value h w = AllByRecursion (λ d. IsHonest d.outcome (value d.unit)) (closed_by w h)
