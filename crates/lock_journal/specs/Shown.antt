-- What a shown entry stands for.
use Rattle.std.specs.Prelude.{None, Some, if◌then◌else◌}
use Rattle.lock_transforms.specs.Entry.{Entry, entry}
use Rattle.lock_journal.specs.Changes.{changes_left}
use Rattle.lock_journal.specs.declared.shown_entries.Shown.{Shown}

-- the entry of its worker and kind, with its changes unless it failed
abbrev pub entry_shown : Shown → Entry
entry_shown s = entry s.worker s.kind (if s.failed then None else Some (changes_left s.changes))
