-- What the fields of a `Segment` stand for, and what holds of them.
use Rattle.std.specs.Prelude.{ℕ, ◌≡◌, ◌≤◌, ◌-◌, length, min, vec_capacity, vec_len, slice_index_or}
use Rattle.lock_journal.specs.SegmentView.{SegmentView}
use Rattle.lock_journal.specs.StoredEntry.{AreStored, KeepEarlier, entries_from, place_in}
use Rattle.lock_journal.specs.declared.segments.Segment.TheInside.{Inside}
use Rattle.lock_journal.specs.declared.segments.TheConstants.{MOST_BEFORE, NOWHERE}
use Rattle.lock_journal.specs.declared.stored_entries.TheConstants.{MOST_PLACES}

abbrev pub segment_view : Inside → SegmentView
segment_view h = record {
  before = h.before;
  entries = entries_from h.changes.items h.closings.items h.stored.items;
  units = vec_len h.closed_at;
  spare_entries = min (vec_capacity h.stored - vec_len h.stored) h.closings.spare;
  spare_changes = min (vec_capacity h.changes - vec_len h.changes) (MOST_PLACES - vec_len h.changes);
}

-- Each entry's changes and closing are stored. Of each unit it is kept where its last closing stands, and in each entry
-- where that of the unit which it closes stood before. Each change and each closing has a place, and not too many entries come before.
pub record IsSoundSegment (h : Inside) : Type 0 where
  pub stored : AreStored (length h.changes.items) (length h.closings.items) h.stored.items
  pub closed : (u : ℕ) → slice_index_or h.closed_at.items u NOWHERE ≡ place_in h.closings.items h.stored.items u NOWHERE
  pub earlier : (u : ℕ) → KeepEarlier h.closings.items h.stored.items u NOWHERE
  pub few_changes : vec_len h.changes ≤ MOST_PLACES
  pub few_closings : length h.closings.items ≤ MOST_PLACES
  pub few : h.before ≤ MOST_BEFORE
