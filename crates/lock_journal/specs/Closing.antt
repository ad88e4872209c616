-- How a unit was closed.
use Rattle.std.specs.Prelude.{ℕ, ◌≡◌, ◌≢◌, ◌⊎◌, List, [], ◌∷◌}
use Rattle.resource_lock.specs.declared.marks.Mark.{Mark}
use Rattle.resource_lock.specs.declared.marks.Mark.TheVariants.{Passed, Failed}
use Rattle.resource_lock.specs.declared.marks.MarkId.TheVariants.{Unit as UnitOf}
use Rattle.resource_lock.specs.GraphView.{GraphView}
use Rattle.resource_lock.specs.StateView.{mark_of}
use Rattle.item_actions.specs.declared.outcomes.Outcome.TheVariants.{Skipped as NotRun}
use Rattle.item_actions.specs.Value.{passes}
use Rattle.lock_journal.specs.Closings.{closings, outcome_in}
use Rattle.lock_transforms.specs.Entry.{Entry, replay}
use Rattle.lock_transforms.specs.Table.{has_passed, mark_from}

-- the mark of a unit whose work was done
abbrev pub IsDone : Mark → Type 0
IsDone m = (m ≡ Passed) ⊎ (m ≡ Failed)

-- One entry closed the unit, with an outcome of work that was done, and this gave the mark.
pub record IsClosedOnce (g : GraphView) (h : List Entry) (u : ℕ) : Type 0 where
  pub once : closings h u ≡ outcome_in h u ∷ []
  pub ran : outcome_in h u ≢ NotRun
  pub mark : mark_of (replay g h) (UnitOf u) ≡ mark_from (outcome_in h u)
  pub passed : has_passed (mark_of (replay g h) (UnitOf u)) ≡ passes (outcome_in h u)
