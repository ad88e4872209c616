-- What the calls of a pool change.
use Rattle.std.specs.Prelude.{◌≡◌, ◌⊎◌, ◌<◌, ℕ, List, [], ◌∷◌, ◌++◌, length, All, Option, Some, None}
use Rattle.daemon_requirements.specs.RequirementsView.{RequirementsView}
use Rattle.daemon_requirements.specs.Covers.{Covers}
use Rattle.daemon_manager.specs.declared.events.Event.TheVariants.{Started, Reserved as ReservedFor, Released, Failed, Stopped}
use Rattle.daemon_manager.specs.declared.idle.IdleDaemon.{IdleDaemon}
use Rattle.daemon_manager.specs.declared.idle.TheConstants.{MAX_IDLE_DAEMONS}
use Rattle.daemon_manager.specs.declared.reserved.Reserved.{Reserved}
use Rattle.daemon_manager.specs.Events.{started}
use Rattle.daemon_manager.specs.PoolView.{PoolView, IsOf}

module _ {L : Type 0} where
  -- the daemon with its link, as a pool keeps it
  abbrev pub idle_daemon : Reserved L → IdleDaemon L
  idle_daemon r = record { daemon = r.daemon; link = r.link }

  -- the first idle daemon was stopped
  pub record StopsIdle (old new : PoolView L) (link : L) : Type 0 where
    pub daemon : ℕ
    pub first : old.idle ≡ record { daemon = daemon; link = link } ∷ new.idle
    pub events : new.events ≡ old.events ++ Stopped daemon ∷ []

  -- the first idle daemon was stopped, or none was idle
  abbrev pub StopsOrNot : PoolView L → PoolView L → Option L → Type 0
  StopsOrNot old new None = (old.idle ≡ []) × (new ≡ old)
  StopsOrNot old new (Some link) = StopsIdle old new link

module _ {L : Type 0} (made_for : L → RequirementsView) where
  -- the last idle daemon that covers what is asked was reserved for the unit
  pub record Reserves (old new : PoolView L) (asked : RequirementsView) (unit : ℕ) (r : Reserved L) : Type 0 where
    pub before : List (IdleDaemon L)
    pub after : List (IdleDaemon L)
    pub chosen : old.idle ≡ before ++ idle_daemon r ∷ after
    pub covers : Covers (made_for r.link) asked
    pub last : All (λ i. ¬ Covers (made_for i.link) asked) after
    pub left : new.idle ≡ before ++ after
    pub events : new.events ≡ old.events ++ ReservedFor r.daemon unit ∷ []
    pub for_unit : r.unit ≡ unit
    pub own : IsOf made_for new r

  -- no idle daemon covers what is asked, and nothing changes
  pub record FindsNone (old new : PoolView L) (asked : RequirementsView) : Type 0 where
    pub none : All (λ i. ¬ Covers (made_for i.link) asked) old.idle
    pub same : new ≡ old

  abbrev pub ReservesOrNot : PoolView L → PoolView L → RequirementsView → ℕ → Option (Reserved L) → Type 0
  ReservesOrNot old new asked unit None = FindsNone old new asked
  ReservesOrNot old new asked unit (Some r) = Reserves old new asked unit r

  -- the next daemon was started with these requirements, and reserved for the unit
  pub record Adopts (old new : PoolView L) (given : L) (requirements : RequirementsView) (unit : ℕ) (r : Reserved L) : Type 0 where
    pub next : r.daemon ≡ length (started old.events)
    pub link : r.link ≡ given
    pub for_unit : r.unit ≡ unit
    pub idle : new.idle ≡ old.idle
    pub events : new.events ≡ old.events ++ Started r.daemon requirements ∷ ReservedFor r.daemon unit ∷ []
    pub own : IsOf made_for new r

  -- the daemon is the last idle one
  pub record Keeps (old new : PoolView L) (r : Reserved L) (result : Option L) : Type 0 where
    pub few : length old.idle < MAX_IDLE_DAEMONS
    pub idle : new.idle ≡ old.idle ++ idle_daemon r ∷ []
    pub events : new.events ≡ old.events ++ Released r.daemon ∷ []
    pub none : result ≡ None

  -- the daemon is the last idle one, and the first one, as one too many was idle, was stopped
  pub record KeepsAndStops (old new : PoolView L) (r : Reserved L) (result : Option L) : Type 0 where
    pub full : length old.idle ≡ MAX_IDLE_DAEMONS
    pub first : IdleDaemon L
    pub idle : old.idle ++ idle_daemon r ∷ [] ≡ first ∷ new.idle
    pub events : new.events ≡ old.events ++ Released r.daemon ∷ Stopped first.daemon ∷ []
    pub stopped : result ≡ Some first.link

  -- the value isn't this pool's: nothing changes, and the link comes back
  pub record RefusesRelease (old new : PoolView L) (r : Reserved L) (result : Option L) : Type 0 where
    pub other : ¬ IsOf made_for old r
    pub same : new ≡ old
    pub link : result ≡ Some r.link

  abbrev pub Releases : PoolView L → PoolView L → Reserved L → Option L → Type 0
  Releases old new r result =
      (IsOf made_for old r × (Keeps old new r result ⊎ KeepsAndStops old new r result)) ⊎ RefusesRelease old new r result

  -- the daemon failed its unit
  pub record Fails (old new : PoolView L) (r : Reserved L) : Type 0 where
    pub own : IsOf made_for old r
    pub idle : new.idle ≡ old.idle
    pub events : new.events ≡ old.events ++ Failed r.daemon ∷ []

  abbrev pub FailsOrNot : PoolView L → PoolView L → Reserved L → L → Type 0
  FailsOrNot old new r result = (result ≡ r.link) × (Fails old new r ⊎ ((¬ IsOf made_for old r) × (new ≡ old)))
