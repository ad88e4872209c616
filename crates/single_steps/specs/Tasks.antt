-- Where a task can't be skipped.
use Rattle.std.specs.Prelude.{ℕ, ◌≡◌, false}
use Rattle.lock_journal.specs.Names.{can_all, GraphView, StateView, WorkerId, list_of, Skip}
use Rattle.ready_work.specs.Choices.{CanSkip}

-- where the task waits and comes after one that failed or was skipped, a mark of its actions or units can't be skipped
abbrev pub CannotSkip : ℕ → GraphView → WorkerId → StateView → Type 0
CannotSkip t g w s = CanSkip g s t → can_all s w (list_of g s w (Skip t)) ≡ false
