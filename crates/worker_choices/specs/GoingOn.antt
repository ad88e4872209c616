-- Which entries can let another worker go on.
use Rattle.std.specs.Prelude.{◌-◌, Bool, false, List, length, Option, None, Some, slice_get}
use Rattle.std.specs.List.{list_any}
use Rattle.lock_journal.specs.Names.{Change, Entry, lets_go_on}

-- one of the changes does so; a failed entry has none
abbrev pub any_lets_go_on : Option (List Change) → Bool
any_lets_go_on None = false
any_lets_go_on (Some changes) = list_any lets_go_on changes

abbrev pub entry_lets_go_on : Option Entry → Bool
entry_lets_go_on None = false
entry_lets_go_on (Some e) = any_lets_go_on e.changes

-- the last entry of the history does so
abbrev pub last_lets_go_on : List Entry → Bool
last_lets_go_on history = entry_lets_go_on (slice_get history (length history - 1))
