-- A history, as the book sees it.
use Rattle.std.specs.Prelude.{ℕ, ◌≡◌, ◌≤◌, List, ◌++◌, length, drop}
use Rattle.lock_transforms.specs.Entry.{Entry}
use Rattle.lock_journal.specs.SegmentView.{SegmentView}

-- the entries in order, how many of them were given away, how many units they can close, and how many more entries and changes there is room for
pub record HistoryView : Type 0 where
  pub entries : List Entry
  pub given : ℕ
  pub units : ℕ
  pub spare_entries : ℕ
  pub spare_changes : ℕ

-- the entries that were given away, and behind them a segment
abbrev pub history_of : List Entry → SegmentView → HistoryView
history_of past kept = record {
  entries = past ++ kept.entries;
  given = kept.before;
  units = kept.units;
  spare_entries = kept.spare_entries;
  spare_changes = kept.spare_changes;
}

-- all but the spares is as before, and they aren't smaller
pub record SameHistory (old new : HistoryView) : Type 0 where
  pub entries : new.entries ≡ old.entries
  pub given : new.given ≡ old.given
  pub units : new.units ≡ old.units
  pub spare_entries : old.spare_entries ≤ new.spare_entries
  pub spare_changes : old.spare_changes ≤ new.spare_changes

-- The segment got the entries that were kept, and none is kept. The rooms of the two changed places.
pub record GivesAway (old new : HistoryView) (segment segment' : SegmentView) : Type 0 where
  pub entries : new.entries ≡ old.entries
  pub given : new.given ≡ length old.entries
  pub before : segment'.before ≡ old.given
  pub cut : segment'.entries ≡ drop old.given old.entries
  pub units : new.units ≡ segment.units
  pub units' : segment'.units ≡ old.units
  pub spare_entries : new.spare_entries ≡ segment.spare_entries
  pub spare_changes : new.spare_changes ≡ segment.spare_changes
