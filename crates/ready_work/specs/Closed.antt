-- The lock that keeps its tasks from a start.
use Rattle.std.specs.Prelude.{Option, None, if◌then◌else◌}
use Rattle.std.specs.List.{list_any}
use Rattle.resource_lock.specs.StateView.{StateView, is_owned}
use Rattle.resource_lock.specs.declared.ids.LockId.{LockId}

-- the all-projects lock, where somebody owns a lock
abbrev pub closed_lock : StateView → Option LockId
closed_lock s = if list_any is_owned s.owners then s.all else None
