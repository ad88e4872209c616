-- The changes of a history's last entry.
use Rattle.std.specs.Prelude.{◌-◌, List, [], length, Option, None, Some, slice_get}
use Rattle.resource_lock.specs.declared.changes.Change.{Change}
use Rattle.lock_transforms.specs.Entry.{Entry}

-- the changes that were made; where it failed, none
abbrev pub made_where_finished : Option (List Change) → List Change
made_where_finished None = []
made_where_finished (Some changes) = changes

abbrev pub made_by : Option Entry → List Change
made_by None = []
made_by (Some e) = made_where_finished e.changes

-- the changes of the last entry; where it failed, or there is no entry, none
abbrev pub last_changes : List Entry → List Change
last_changes history = made_by (slice_get history (length history - 1))
