-- What each change says something of.
use Rattle.std.specs.Prelude.{ℕ, ◌+◌, ◌*◌, ◌^◌, Bool, true, false}
use Rattle.lock_journal.specs.Names.{WorkerId, Mark, Waiting, IsRunning, TaskOf, ActionOf, UnitOf, Change, Lock, Unlock, Take, Give, Move, Unpark}
use Rattle.lock_journal.specs.Names.{Enter, Leave}
use Rattle.resource_lock.specs.declared.changes.Change.TheVariants.{Park}
use Rattle.run_spans.specs.declared.subjects.Subject.{Subject}
use Rattle.run_spans.specs.declared.subjects.Subject.TheVariants.{Lease, Blocked, Owned, Parked, Running}

abbrev pub subject_of : WorkerId → Change → Subject
subject_of w (Lock l) = Owned l
subject_of w (Unlock l) = Owned l
subject_of w Take = Lease w
subject_of w Give = Lease w
subject_of w (Move m from to) = Running m
subject_of w (Park l) = Parked w l
subject_of w (Unpark l) = Parked w l
subject_of w Enter = Blocked w
subject_of w Leave = Blocked w

abbrev pub is_running : Mark → Bool
is_running (IsRunning w) = true
is_running _ = false

-- whether its subject holds after a change
abbrev pub begins : Change → Bool
begins (Lock l) = true
begins Take = true
begins (Park l) = true
begins Enter = true
begins (Move m from to) = is_running to
begins _ = false

-- the mark that a change leaves, if it moves one
abbrev pub mark_left : Change → Mark
mark_left (Move m from to) = to
mark_left _ = Waiting

-- a number of its own for each subject whose numbers are below 2 ^ 32
abbrev pub key_of : Subject → ℕ
key_of (Lease w) = w.0
key_of (Blocked w) = 2 ^ 64 + w.0
key_of (Owned l) = 2 * 2 ^ 64 + l.0
key_of (Parked w l) = 3 * 2 ^ 64 + w.0 * 2 ^ 32 + l.0
key_of (Running (TaskOf n)) = 4 * 2 ^ 64 + n
key_of (Running (ActionOf n)) = 5 * 2 ^ 64 + n
key_of (Running (UnitOf n)) = 6 * 2 ^ 64 + n
