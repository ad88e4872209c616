-- The steps of workers whose items wait in the book.
use Rattle.std.specs.Prelude.{◌≡◌, ◌≢◌, ◌<◌, ◌≤◌, ◌⊎◌, ℕ, false, Option, Some, length}
use Rattle.lock_journal.specs.Names.{GraphView, StateView, mark_of, WorkerId, Queued, UnitOf, IsDisabled, IsUnmet, is_enabled, Kind, BookView}
use Rattle.lock_transforms.specs.declared.entries.Kind.TheVariants as kinds
use Rattle.coordination.specs.Decisions.{HasFailedIn, IsToWaitIn}
use Rattle.coordination.specs.declared.rule.Sight.{Sight}
use Rattle.async_tracker.specs.declared.work_steps.WorkStep.{WorkStep}
use Rattle.async_tracker.specs.declared.work_steps.WorkStep.TheVariants.{Start, Skip, Claim, Resume, Fetch, Submit, Park, End}

abbrev pub kind_of_work : WorkStep → Kind
kind_of_work (Start t) = kinds.Start t
kind_of_work (Skip t) = kinds.Skip t
kind_of_work (Claim u) = kinds.Claim u
kind_of_work (Resume a) = kinds.Resume a
kind_of_work (Fetch u) = kinds.Block (Some u)
kind_of_work (Submit a) = kinds.Submit a
kind_of_work (Park a) = kinds.Park a
kind_of_work (End t) = kinds.End t

-- at most how many locks more its worker has behind it: that of the task which it starts
abbrev pub more_locks_of : WorkStep → ℕ
more_locks_of (Start t) = 1
more_locks_of _ = 0

-- where a step fails, as its transform does
abbrev pub FailsAt : WorkStep → GraphView → WorkerId → StateView → Type 0
FailsAt (Start t) g w s = is_enabled g s w (kinds.Start t) ≡ false
FailsAt (Skip t) g w s = is_enabled g s w (kinds.Skip t) ≡ false
FailsAt (Claim u) g w s = mark_of s (UnitOf u) ≢ Queued
FailsAt _ g w s = ⊥

-- where it asks to be run again
abbrev pub RetriesAt : WorkStep → GraphView → WorkerId → StateView → Type 0
RetriesAt (Start t) g w s = length g.tasks ≤ t
RetriesAt (Skip t) g w s = length g.tasks ≤ t
RetriesAt (Claim u) g w s = u < g.units → (mark_of s (UnitOf u) ≡ Queued) × (is_enabled g s w (kinds.Claim u) ≡ false)
RetriesAt (Resume a) g w s = IsDisabled (kinds.Resume a) g w s
RetriesAt (Fetch u) g w s = IsUnmet (kinds.Block (Some u)) g w s
RetriesAt (Submit a) g w s = IsDisabled (kinds.Submit a) g w s
RetriesAt (Park a) g w s = IsDisabled (kinds.Park a) g w s
RetriesAt (End t) g w s = IsDisabled (kinds.End t) g w s

-- The entry of this answer's step failed, or wasn't allowed yet, in the very book of which the answer was given.
abbrev pub IsRefused : {A : Type 0} → (WorkerId → BookView → A → Type 0) → (A → Option WorkStep) → A → Sight → Sight → Type 0
IsRefused answers step_of a old new = HasFailedIn answers step_of kind_of_work FailsAt old new a ⊎ IsToWaitIn answers step_of RetriesAt old new a
