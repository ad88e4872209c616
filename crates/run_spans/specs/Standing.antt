-- For whom a subject holds in a state.
use Rattle.std.specs.Prelude.{ℕ, ◌<◌, ◌^◌, Bool, true, false, Option, None, Some}
use Rattle.lock_journal.specs.Names.{StateView, holding_of, owner_of, mark_of, has_parked, WorkerId, Mark, IsRunning, TaskOf, ActionOf, UnitOf}
use Rattle.run_spans.specs.declared.subjects.Subject.{Subject}
use Rattle.run_spans.specs.declared.subjects.Subject.TheVariants.{Lease, Blocked, Owned, Parked, Running}

abbrev pub if_so : Bool → WorkerId → Option WorkerId
if_so true w = Some w
if_so false w = None

abbrev pub runner : Mark → Option WorkerId
runner (IsRunning w) = Some w
runner _ = None

abbrev pub holder_in : StateView → Subject → Option WorkerId
holder_in s (Lease w) = if_so (holding_of s w).lease w
holder_in s (Blocked w) = if_so (holding_of s w).blocked w
holder_in s (Owned l) = owner_of s l
holder_in s (Parked w l) = if_so (has_parked s w l) w
holder_in s (Running m) = runner (mark_of s m)

-- the numbers of a subject: that of a worker that parks, and the other
abbrev pub parker_of : Subject → ℕ
parker_of (Parked w l) = w.0
parker_of _ = 0

abbrev pub number_of : Subject → ℕ
number_of (Lease w) = w.0
number_of (Blocked w) = w.0
number_of (Owned l) = l.0
number_of (Parked w l) = l.0
number_of (Running (TaskOf n)) = n
number_of (Running (ActionOf n)) = n
number_of (Running (UnitOf n)) = n

-- they have 32 bits
abbrev pub IsShort : Subject → Type 0
IsShort s = (parker_of s < 2 ^ 32) × (number_of s < 2 ^ 32)
