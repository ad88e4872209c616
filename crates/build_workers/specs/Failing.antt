-- How many daemons failed beside the units that weren't worked out.
use Rattle.std.specs.Prelude.{ℕ, ◌+◌, ◌≤◌, List, sum_by}
use Rattle.lock_journal.specs.Names.{Entry, Closed, closed_by, WorkerId}
use Rattle.coordination.specs.declared.rule.Sight.{Sight}
use Rattle.daemon_manager.specs.Counts.{TallyView}
use Rattle.item_work.specs.Tallying.{one_if_unreal}

-- how many of these units ended as a fault or without memory
abbrev pub unreal_in : List Closed → ℕ
unreal_in closed = sum_by (λ d. one_if_unreal d.outcome) closed

-- how many such units a worker closed
abbrev pub unreal_by : WorkerId → List Entry → ℕ
unreal_by w entries = unreal_in (closed_by w entries)

-- In a part of a run a worker gave no more daemons back as failed than it closed units as a fault or without memory.
abbrev pub FailsForEach : Sight → Sight → TallyView → TallyView → Type 0
FailsForEach old new mine mine' = mine'.failed + unreal_by old.worker old.seen.history ≤ mine.failed + unreal_by old.worker new.seen.history
