-- How many daemons were reserved and how many failed, and each worker's part in this.
use Rattle.std.specs.Prelude.{◌+◌, ℕ, List, sum_by}
use Rattle.daemon_manager.specs.declared.events.Event.{Event}
use Rattle.daemon_manager.specs.declared.events.Event.TheVariants.{Started, Reserved, Released, Failed, Stopped}

-- 1 for an event that reserves a daemon
abbrev pub one_if_reserved : Event → ℕ
one_if_reserved (Started d requirements) = 0
one_if_reserved (Reserved d unit) = 1
one_if_reserved (Released d) = 0
one_if_reserved (Failed d) = 0
one_if_reserved (Stopped d) = 0

-- 1 for an event that says that a daemon failed
abbrev pub one_if_failed : Event → ℕ
one_if_failed (Started d requirements) = 0
one_if_failed (Reserved d unit) = 0
one_if_failed (Released d) = 0
one_if_failed (Failed d) = 1
one_if_failed (Stopped d) = 0

-- how often a daemon was reserved
abbrev pub reservations : List Event → ℕ
reservations events = sum_by one_if_reserved events

-- how many daemons failed
abbrev pub failures : List Event → ℕ
failures events = sum_by one_if_failed events

-- how many daemons a worker reserved, and how many it gave back as failed
pub record TallyView : Type 0 where
  pub reserved : ℕ
  pub failed : ℕ

abbrev pub and_reserved : TallyView → TallyView
and_reserved tally = record tally { reserved = tally.reserved + 1 }

abbrev pub and_failed : TallyView → TallyView
and_failed tally = record tally { failed = tally.failed + 1 }

-- what the tallies have that came together, and how many parts of the whole they are
pub record TalliesView : Type 0 where
  pub parts : ℕ
  pub reserved : ℕ
  pub failed : ℕ
