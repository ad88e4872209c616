-- What the fields of a `Reached` stand for, and what holds of them.
use Rattle.std.specs.Prelude.{ℕ, ◌+◌, None, length}
use Rattle.lock_journal.specs.Names.{TentativeView, IsRoomFor}
use Rattle.history_check.specs.AdmitterView.{AdmitterView}

-- the state of so many entries, none of which is kept
abbrev pub reached_view : TentativeView → ℕ → AdmitterView
reached_view t entries = record { graph = t.graph; state = t.state; entries = entries; kept = None }

-- No change is under way, and there is room for the changes of any entry once those that are noted are forgotten.
pub record IsBetweenEntries (t : TentativeView) : Type 0 where
  pub room : IsRoomFor t.graph (t.room + length t.made)
