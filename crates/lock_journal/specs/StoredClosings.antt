-- What the fields of `StoredClosings` stand for, and what holds of them.
use Rattle.std.specs.Prelude.{ℕ, ◌≤◌, ◌-◌, List, length, map, min, vec_capacity, vec_len}
use Rattle.lock_transforms.specs.declared.entries.Closed.{Closed}
use Rattle.lock_journal.specs.StoredClosing.{AreDigestsFrom, closing_from}
use Rattle.lock_journal.specs.declared.stored_closings.StoredClosings.TheInside.{Inside}
use Rattle.lock_journal.specs.declared.stored_entries.TheConstants.{MOST_PLACES}

-- the closings in order, and how many more there is room for
pub record ClosingsView : Type 0 where
  pub items : List Closed
  pub spare : ℕ

abbrev pub closings_view : Inside → ClosingsView
closings_view c = record {
  items = map (closing_from c.digests.items) c.stored.items;
  spare = min (min (vec_capacity c.stored - vec_len c.stored) (MOST_PLACES - vec_len c.stored))
      (min (vec_capacity c.digests - vec_len c.digests) (MOST_PLACES - vec_len c.digests));
}

-- The digests are those of the closings, in their order. Each closing and each digest has a place.
pub record AreSoundClosings (c : Inside) : Type 0 where
  pub digests : AreDigestsFrom 0 (length c.digests.items) c.stored.items
  pub few : vec_len c.stored ≤ MOST_PLACES
  pub few_digests : vec_len c.digests ≤ MOST_PLACES
