-- The heaps of the daemons that are busy or idle, at each moment.
use Rattle.std.specs.Prelude.{◌≤◌, ℕ, ⊤, List, [], ◌∷◌, ◌++◌}
use Rattle.daemon_manager.specs.declared.events.Event.{Event}
use Rattle.memory_budget.specs.Heaps.{held}

-- from each of these events on, behind the earlier ones, no more than this is held
abbrev pub StaysWithinAfter : ℕ → List Event → List Event → Type 0
StaysWithinAfter budget_mb earlier [] = ⊤
StaysWithinAfter budget_mb earlier (e ∷ later) = (held (earlier ++ e ∷ []) ≤ budget_mb) × StaysWithinAfter budget_mb (earlier ++ e ∷ []) later

-- at each moment the heaps of the daemons that are busy or idle are at most the budget
abbrev pub StaysWithin : ℕ → List Event → Type 0
StaysWithin budget_mb events = StaysWithinAfter budget_mb [] events

-- each budget that is at least this, and within which the old events stay, the new ones stay within too
abbrev pub KeepsWithin : ℕ → List Event → List Event → Type 0
KeepsWithin least_mb old new = (budget_mb : ℕ) → least_mb ≤ budget_mb → StaysWithin budget_mb old → StaysWithin budget_mb new
