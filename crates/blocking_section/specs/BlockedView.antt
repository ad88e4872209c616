-- What a worker gave back when it entered a blocking section.
use Rattle.std.specs.Prelude.{ℕ, List, Option}
use Rattle.lock_journal.specs.Names.{LockId, WorkerId}
use Rattle.coordination.specs.Shown.{locks_shown}
use Rattle.blocking_section.specs.declared.blocked.Blocked.TheInside.{Inside}

-- the worker, the fetch that the section is for, if it is for one, and the locks, by rising number
pub record BlockedView : Type 0 where
  pub worker : WorkerId
  pub unit : Option ℕ
  pub locks : List LockId

abbrev pub blocked_view : Inside → BlockedView
blocked_view b = record { worker = b.worker; unit = b.unit; locks = locks_shown b.before.value.sight }
