-- For which units daemons are reserved.
use Rattle.std.specs.Prelude.{ℕ, List, All, IsSomeAnd, slice_get}
use Rattle.daemon_requirements.specs.Covers.{Covers}
use Rattle.daemon_requirements.specs.RequirementsView.{RequirementsView}
use Rattle.daemon_manager.specs.Events.{started}
use Rattle.daemon_manager.specs.declared.events.Event.{Event}
use Rattle.daemon_manager.specs.declared.events.Event.TheVariants.{Started, Reserved, Released, Failed, Stopped}

-- `asks` says what the unit with a number may ask for
module _ (asks : ℕ → RequirementsView → Type 0) where
  -- a daemon that was started with these requirements covers what the unit may ask for
  abbrev pub CoversFor : ℕ → RequirementsView → Type 0
  CoversFor unit requirements = (asked : RequirementsView) × asks unit asked × Covers requirements asked

  -- an event that reserves a daemon is for a unit whose demand it covers, where the daemons were started with these requirements
  abbrev pub IsAskedFor : List RequirementsView → Event → Type 0
  IsAskedFor made_for (Started d requirements) = Unit {0}
  IsAskedFor made_for (Reserved d unit) = IsSomeAnd (slice_get made_for d) (CoversFor unit)
  IsAskedFor made_for (Released d) = Unit {0}
  IsAskedFor made_for (Failed d) = Unit {0}
  IsAskedFor made_for (Stopped d) = Unit {0}

  -- each daemon was reserved for units alone that may ask for it
  abbrev pub AreAskedFor : List Event → Type 0
  AreAskedFor events = All (IsAskedFor (started events)) events
