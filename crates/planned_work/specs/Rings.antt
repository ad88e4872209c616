-- Whom a call wakes.
use Rattle.std.specs.Prelude.{◌≡◌, ◌||◌, Bool, true, false, Option, Some, None}
use Rattle.resource_lock.specs.declared.ids.WorkerId.{WorkerId}
use Rattle.worker_choices.specs.declared.woken.Woken.{Woken}
use Rattle.worker_choices.specs.declared.woken.Woken.TheVariants as woken
use Rattle.coordination.specs.Planned.{HasEndedTryOf}
use Rattle.worker_notes.specs.SleepAndWake.{wakes_nobody}
use Rattle.coordination.specs.declared.rule.Sight.{Sight}
use Rattle.planned_work.specs.declared.rings.Rings.{Rings}

abbrev pub no_rings : Rings
no_rings = record { first = wakes_nobody; later = wakes_nobody }

abbrev pub one_of : Woken → Option WorkerId
one_of (woken.One w) = Some w
one_of woken.Nobody = None
one_of woken.All = None

abbrev pub is_all : Woken → Bool
is_all woken.All = true
is_all woken.Nobody = false
is_all (woken.One w) = false

abbrev pub all_rung : Rings → Bool
all_rung r = is_all r.first.workers || is_all r.later.workers

abbrev pub takers_rung : Rings → Bool
takers_rung r = r.first.transforms || r.later.transforms

-- Those that the end of the call's hold woke. Before it and behind it somebody looked, or each sleeper still waited. A call without a
-- hold wakes nobody.
abbrev pub WakesBy : Bool → Sight → Rings → Type 0
WakesBy true new rings = HasEndedTryOf new rings.first rings.later
WakesBy false new rings = rings ≡ no_rings
