-- Entries one after another, as contracts see them.
use Rattle.std.specs.Prelude.{ℕ, ◌≡◌, ◌≤◌, List, []}
use Rattle.lock_transforms.specs.Entry.{Entry}

-- how many entries come before, the entries in order, how many units they can close, and how many more entries and changes there is room for
pub record SegmentView : Type 0 where
  pub before : ℕ
  pub entries : List Entry
  pub units : ℕ
  pub spare_entries : ℕ
  pub spare_changes : ℕ

-- all but the spares is as before, and they aren't smaller
pub record SameSegment (old new : SegmentView) : Type 0 where
  pub before : new.before ≡ old.before
  pub entries : new.entries ≡ old.entries
  pub units : new.units ≡ old.units
  pub spare_entries : old.spare_entries ≤ new.spare_entries
  pub spare_changes : old.spare_changes ≤ new.spare_changes

-- no entries, of as many units, with no less room
pub record IsCleared (old new : SegmentView) : Type 0 where
  pub before : new.before ≡ 0
  pub entries : new.entries ≡ []
  pub units : new.units ≡ old.units
  pub spare_entries : old.spare_entries ≤ new.spare_entries
  pub spare_changes : old.spare_changes ≤ new.spare_changes

-- the same behind so many entries
pub record IsBegunBehind (before : ℕ) (old new : SegmentView) : Type 0 where
  pub before_is : new.before ≡ before
  pub entries : new.entries ≡ old.entries
  pub units : new.units ≡ old.units
  pub spare_entries : new.spare_entries ≡ old.spare_entries
  pub spare_changes : new.spare_changes ≡ old.spare_changes
