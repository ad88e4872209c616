-- The memory of daemons: the heaps that they were started with, in MB.
use Rattle.std.specs.Prelude.{◌+◌, ℕ, zero, suc, Bool, true, false, List, length, Option, Some, None, sum_by, if◌then◌else◌}
use Rattle.daemon_requirements.specs.RequirementsView.{RequirementsView}
use Rattle.daemon_manager.specs.declared.events.DaemonState.{DaemonState}
use Rattle.daemon_manager.specs.declared.events.DaemonState.TheVariants.{Busy, Idle, Failed, Stopped}
use Rattle.daemon_manager.specs.declared.events.Event.{Event}
use Rattle.daemon_manager.specs.declared.idle.IdleDaemon.{IdleDaemon}
use Rattle.daemon_manager.specs.Events.{DaemonView, pool, started}

-- a daemon has its memory while it is busy or idle
abbrev pub has_memory : DaemonState → Bool
has_memory Busy = true
has_memory Idle = true
has_memory Failed = false
has_memory Stopped = false

abbrev pub is_busy : DaemonState → Bool
is_busy Busy = true
is_busy Idle = false
is_busy Failed = false
is_busy Stopped = false

-- the heap of a daemon, where it does such
abbrev pub heap_where : (DaemonState → Bool) → Option DaemonView → ℕ
heap_where does None = 0
heap_where does (Some daemon) = if does daemon.state then daemon.requirements.heap_mb else 0

-- the sum of f over the numbers below n
abbrev pub sum_below : (ℕ → ℕ) → ℕ → ℕ
sum_below f zero = 0
sum_below f (suc n) = sum_below f n + f n

-- the heaps of the started daemons that do such
abbrev pub heaps_where : (DaemonState → Bool) → List Event → ℕ
heaps_where does events = sum_below (λ d. heap_where does (pool events d)) (length (started events))

-- the memory that daemons have: the heaps of those that are busy or idle
abbrev pub held : List Event → ℕ
held events = heaps_where has_memory events

-- the heaps of the busy daemons
abbrev pub busy_heaps : List Event → ℕ
busy_heaps events = heaps_where is_busy events

-- the heaps of idle daemons, whose links tell what they were started with
abbrev pub idle_heaps : {L : Type 0} → (L → RequirementsView) → List (IdleDaemon L) → ℕ
idle_heaps made_for daemons = sum_by (λ i. (made_for i.link).heap_mb) daemons
