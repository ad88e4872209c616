-- All events, with room for more.
use Rattle.std.specs.Prelude.{◌≡◌, ◌+◌, ◌≤◌, ℕ, List, [], ◌∷◌, ◌++◌, length, Some, slice_get, sum_by}
use Rattle.daemon_requirements.specs.RequirementsView.{RequirementsView}
use Rattle.daemon_manager.specs.declared.events.Event.{Event}
use Rattle.daemon_manager.specs.declared.events.Event.TheVariants.{Started, Reserved}
use Rattle.daemon_manager.specs.declared.events.DaemonState.{DaemonState}
use Rattle.daemon_manager.specs.declared.events.DaemonState.TheVariants.{Busy, Idle, Failed as HasFailed, Stopped as IsStopped}
use Rattle.daemon_manager.specs.declared.event_log.Daemon.{Daemon}
use Rattle.daemon_manager.specs.Events.{pool, started, state_after}

pub record EventLogView : Type 0 where
  pub events : List Event
  -- how many daemons are busy
  pub busy : ℕ
  -- how many more events fit with no allocation
  pub room : ℕ

-- 1 for a daemon that is busy
abbrev pub one_if_busy : DaemonState → ℕ
one_if_busy Busy = 1
one_if_busy Idle = 0
one_if_busy HasFailed = 0
one_if_busy IsStopped = 0

-- what is kept of a daemon: where its start stands among the events, and what it does
pub record IsKept (events : List Event) (d : ℕ) (daemon : Daemon) : Type 0 where
  pub requirements : RequirementsView
  pub start : slice_get events daemon.started ≡ Some (Started d requirements)
  pub now : pool events d ≡ Some (record { requirements = requirements; state = daemon.state })

pub record IsEventLog (events : List Event) (daemons : List Daemon) (busy_count : ℕ) : Type 0 where
  pub count : length daemons ≡ length (started events)
  pub kept : (d : ℕ) (daemon : Daemon) → slice_get daemons d ≡ Some daemon → IsKept events d daemon
  pub busy : busy_count ≡ sum_by (λ daemon. one_if_busy daemon.state) daemons

-- one more event, of a daemon that did this before
pub record Notes (old new : EventLogView) (event : Event) (before : DaemonState) : Type 0 where
  pub events : new.events ≡ old.events ++ event ∷ []
  pub busy : new.busy + one_if_busy before ≡ old.busy + one_if_busy (state_after event)
  pub room : old.room ≤ new.room + 1

-- the next daemon was started and reserved, and there is room for so many more events
pub record NotesStart (old new : EventLogView) (requirements : RequirementsView) (unit more d : ℕ) : Type 0 where
  pub next : d ≡ length (started old.events)
  pub events : new.events ≡ old.events ++ Started d requirements ∷ Reserved d unit ∷ []
  pub busy : new.busy ≡ old.busy + 1
  pub room : more ≤ new.room

-- nothing changed but that there may be more room
pub record OnlyMoreRoom (old new : EventLogView) : Type 0 where
  pub events : new.events ≡ old.events
  pub busy : new.busy ≡ old.busy
  pub room : old.room ≤ new.room
