-- A pool: all that happened, and the links to the idle daemons.
use Rattle.std.specs.Prelude.{◌≡◌, ◌+◌, ◌≤◌, ℕ, Bool, true, List, length, map, All, Some}
use Rattle.daemon_requirements.specs.RequirementsView.{RequirementsView}
use Rattle.daemon_manager.specs.declared.events.Event.{Event}
use Rattle.daemon_manager.specs.declared.events.DaemonState.TheVariants.{Busy, Idle}
use Rattle.daemon_manager.specs.declared.idle.IdleDaemon.{IdleDaemon}
use Rattle.daemon_manager.specs.declared.idle.TheConstants.{MAX_IDLE_DAEMONS}
use Rattle.daemon_manager.specs.declared.reserved.Reserved.{Reserved}
use Rattle.daemon_manager.specs.Events.{pool, idle, IsLegal}
use Rattle.daemon_manager.specs.EventLogView.{EventLogView}

pub record PoolView (L : Type 0) : Type 0 where
  pub events : List Event
  -- the idle daemons with their links, in the order of their release
  pub idle : List (IdleDaemon L)

module _ {L : Type 0} (made_for : L → RequirementsView) where
  -- the events are legal, the idle daemons are those of the events, and each link is made for what its daemon was
  -- started with
  pub record IsPool (p : PoolView L) : Type 0 where
    pub legal : IsLegal p.events
    pub numbers : map (λ i. i.daemon) p.idle ≡ idle p.events
    pub links : All (λ i. pool p.events i.daemon ≡ Some (record { requirements = made_for i.link; state = Idle })) p.idle
    pub few : length p.idle ≤ MAX_IDLE_DAEMONS

  -- the reserved daemon is this pool's: it is busy here, and its link is made for what it was started with
  abbrev pub IsOf : PoolView L → Reserved L → Type 0
  IsOf p r = pool p.events r.daemon ≡ Some (record { requirements = made_for r.link; state = Busy })

-- nothing failed on the links of the idle daemons, and no reply is due on them
abbrev pub AreSettled : {L : Type 0} → (L → Bool) → List (IdleDaemon L) → Type 0
AreSettled settled daemons = All (λ i. settled i.link ≡ true) daemons

-- what a pool keeps beside what contracts see: there is room for the events that its daemons may still need, two of
-- each busy one and one of each idle one
abbrev pub HasRoom : EventLogView → ℕ → Type 0
HasRoom event_log idle_count = event_log.busy + event_log.busy + idle_count ≤ event_log.room
