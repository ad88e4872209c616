-- The changes that an iterator has left.
use Rattle.std.specs.Prelude.{List, map}
use Rattle.resource_lock.specs.declared.changes.Change.{Change}
use Rattle.lock_journal.specs.StoredChange.{change_of_worker}
use Rattle.lock_journal.specs.declared.shown_changes.Changes.{Changes}
use Rattle.lock_journal.specs.declared.shown_changes.Left.{Left}
use Rattle.lock_journal.specs.declared.shown_changes.Left.TheVariants.{Stored, Given}

-- those that are stored of an entry of the worker, or those that are given
abbrev pub left_of : Left → List Change
left_of (Stored w changes) = map (change_of_worker w) changes.now
left_of (Given changes) = changes.now

-- the changes that are still to come, in order
abbrev pub changes_left : Changes → List Change
changes_left changes = left_of changes.left
