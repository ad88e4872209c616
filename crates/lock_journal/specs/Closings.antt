-- What the closing entries of a history say of a unit.
use Rattle.std.specs.Prelude.{ℕ, ◌<◌, ◌==◌, if◌then◌else◌, List, [], ◌∷◌, ◌++◌, Option, None, Some}
use Rattle.resource_lock.specs.StateView.{StateView, mark_of}
use Rattle.resource_lock.specs.declared.changes.Change.{Change}
use Rattle.resource_lock.specs.declared.marks.Mark.{Mark}
use Rattle.resource_lock.specs.declared.marks.Mark.TheVariants.{Passed, Failed, Skipped}
use Rattle.resource_lock.specs.declared.marks.MarkId.TheVariants.{Unit as UnitOf}
use Rattle.item_actions.specs.declared.outcomes.Outcome.{Outcome}
use Rattle.item_actions.specs.declared.outcomes.Outcome.TheVariants as outcomes
use Rattle.lock_transforms.specs.Entry.{Entry}
use Rattle.lock_transforms.specs.declared.entries.Closed.{Closed}
use Rattle.lock_transforms.specs.declared.entries.Kind.{Kind}
use Rattle.lock_transforms.specs.declared.entries.Kind.TheVariants.{Close, Unblock}

-- the outcome that an entry of this kind gives a unit
abbrev pub closing_of : ℕ → Kind → List Outcome
closing_of u (Close d) = if d.unit == u then d.outcome ∷ [] else []
closing_of u (Unblock (Some d)) = if d.unit == u then d.outcome ∷ [] else []
closing_of u _ = []

-- the closing that the kind carries
abbrev pub closed_of : Kind → List Closed
closed_of (Close d) = d ∷ []
closed_of (Unblock (Some d)) = d ∷ []
closed_of _ = []

-- the unit that it closes, where it closes one, is among the first n
abbrev pub ClosesWithin : ℕ → Kind → Type 0
ClosesWithin n (Close d) = d.unit < n
ClosesWithin n (Unblock (Some d)) = d.unit < n
ClosesWithin n _ = Unit {0}

abbrev pub where_finished : Option (List Change) → List Outcome → List Outcome
where_finished None os = []
where_finished (Some cs) os = os

-- the outcomes in the closing entries of a unit, in order
abbrev pub closings : List Entry → ℕ → List Outcome
closings [] u = []
closings (e ∷ h) u = where_finished e.changes (closing_of u e.kind) ++ closings h u

abbrev pub last_or : Outcome → List Outcome → Outcome
last_or o [] = o
last_or o (p ∷ os) = last_or p os

-- a unit's outcome by the history: that of its closing entry, or Skipped where it has none
abbrev pub outcome_in : List Entry → ℕ → Outcome
outcome_in h u = last_or outcomes.Skipped (closings h u)

abbrev pub outcome_where : Mark → Outcome → Option Outcome
outcome_where Passed o = Some o
outcome_where Failed o = Some o
outcome_where Skipped o = Some outcomes.Skipped
outcome_where _ o = None

-- a unit's outcome, or none where its mark hasn't ended
abbrev pub outcome_of : StateView → List Entry → ℕ → Option Outcome
outcome_of s h u = outcome_where (mark_of s (UnitOf u)) (outcome_in h u)
