-- What a list of events says of the daemons that it names.
use Rattle.std.specs.Prelude.{◌≡◌, ◌⊎◌, ◌<◌, ◌==◌, ℕ, ⊤, Bool, List, [], ◌∷◌, ◌++◌, length, Contains, Option, Some}
use Rattle.std.specs.Prelude.{None, IsSomeAnd, slice_get, fold, if◌then◌else◌}
use Rattle.std.specs.List.{filter_map, list_any}
use Rattle.daemon_requirements.specs.RequirementsView.{RequirementsView}
use Rattle.daemon_manager.specs.declared.events.Event.{Event}
use Rattle.daemon_manager.specs.declared.events.Event.TheVariants.{Started, Reserved, Released, Failed, Stopped}
use Rattle.daemon_manager.specs.declared.events.DaemonState.{DaemonState}
use Rattle.daemon_manager.specs.declared.events.DaemonState.TheVariants.{Busy, Idle, Failed as HasFailed, Stopped as IsStopped}
use Rattle.daemon_manager.specs.declared.idle.TheConstants.{MAX_IDLE_DAEMONS}

-- the number of the daemon that an event is about
abbrev pub daemon_of : Event → ℕ
daemon_of (Started d requirements) = d
daemon_of (Reserved d unit) = d
daemon_of (Released d) = d
daemon_of (Failed d) = d
daemon_of (Stopped d) = d

abbrev pub is_about : ℕ → Event → Bool
is_about d e = daemon_of e == d

-- what the daemon does from an event about it on
abbrev pub state_after : Event → DaemonState
state_after (Started d requirements) = Busy
state_after (Reserved d unit) = Busy
state_after (Released d) = Idle
state_after (Failed d) = HasFailed
state_after (Stopped d) = IsStopped

-- what the daemon does: what the last event about it says
abbrev pub state_of : List Event → ℕ → Option DaemonState
state_of events d = fold (λ state e. if is_about d e then Some (state_after e) else state) None events

abbrev pub started_with : Event → Option RequirementsView
started_with (Started d requirements) = Some requirements
started_with (Reserved d unit) = None
started_with (Released d) = None
started_with (Failed d) = None
started_with (Stopped d) = None

-- what the daemons were started with, in the order of their start
abbrev pub started : List Event → List RequirementsView
started events = filter_map started_with events

pub record DaemonView : Type 0 where
  pub requirements : RequirementsView
  pub state : DaemonState

abbrev pub daemon_view : Option RequirementsView → Option DaemonState → Option DaemonView
daemon_view (Some requirements) (Some state) = Some (record { requirements = requirements; state = state })
daemon_view _ _ = None

-- the daemon with a number, if one was started
abbrev pub pool : List Event → ℕ → Option DaemonView
pool events d = daemon_view (slice_get (started events) d) (state_of events d)

-- the daemons that were released and of which no later event speaks, in the order of their release
abbrev pub idle : List Event → List ℕ
idle [] = []
idle (Released d ∷ later) = if list_any (is_about d) later then idle later else d ∷ idle later
idle (Started d requirements ∷ later) = idle later
idle (Reserved d unit ∷ later) = idle later
idle (Failed d ∷ later) = idle later
idle (Stopped d ∷ later) = idle later

-- no daemon is idle
abbrev pub NoneIdle : List Event → Type 0
NoneIdle events = idle events ≡ []

abbrev pub IsBusy : List Event → ℕ → Type 0
IsBusy events d = IsSomeAnd (pool events d) (λ daemon. daemon.state ≡ Busy)

-- the last of these events started the daemon
abbrev pub IsJustStarted : List Event → ℕ → Type 0
IsJustStarted events d = (before : List Event) × (requirements : RequirementsView) × (events ≡ before ++ Started d requirements ∷ [])

-- the first of these events is such
abbrev pub IsFirstEvent : (Event → Type 0) → List Event → Type 0
IsFirstEvent P [] = ⊥
IsFirstEvent P (e ∷ later) = P e

abbrev pub IsReservationOf : ℕ → Event → Type 0
IsReservationOf d (Reserved e unit) = e ≡ d
IsReservationOf d _ = ⊥

-- the first daemon of an order is stopped
abbrev pub StopsFirst : List ℕ → Event → Type 0
StopsFirst order (Stopped d) = slice_get order 0 ≡ Some d
StopsFirst order _ = ⊥

-- an event may stand between these
abbrev pub MayStand : List Event → Event → List Event → Type 0
MayStand earlier (Started d requirements) later = (d ≡ length (started earlier)) × IsFirstEvent (IsReservationOf d) later
MayStand earlier (Reserved d unit) later = Contains (idle earlier) d ⊎ IsJustStarted earlier d
MayStand earlier (Released d) later =
    IsBusy earlier d × (MAX_IDLE_DAEMONS < length (idle (earlier ++ Released d ∷ [])) → IsFirstEvent (StopsFirst (idle (earlier ++ Released d ∷ []))) later)
MayStand earlier (Failed d) later = IsBusy earlier d
MayStand earlier (Stopped d) later = slice_get (idle earlier) 0 ≡ Some d

-- each of the events may stand where it does, behind the earlier ones
abbrev pub AreLegalAfter : List Event → List Event → Type 0
AreLegalAfter earlier [] = ⊤
AreLegalAfter earlier (e ∷ later) = MayStand earlier e later × AreLegalAfter (earlier ++ e ∷ []) later

-- each event may stand where it does
abbrev pub IsLegal : List Event → Type 0
IsLegal events = AreLegalAfter [] events
