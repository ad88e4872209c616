-- Histories worked out by hand, entry by entry.
use Rattle.std.specs.Prelude.{ℕ, ◌≡◌, ◌+◌, Bool, false, List, [], ◌∷◌, map, None, Some, replicate}
use Rattle.std.specs.List.{range_with_len}
use Rattle.resource_lock.specs.declared.changes.Change.{Change}
use Rattle.resource_lock.specs.declared.changes.Change.TheVariants.{Lock, Unlock, Take, Give, Move, Park as ParkLock, Unpark, Enter, Leave}
use Rattle.resource_lock.specs.declared.graphs.Retention.{Retention}
use Rattle.resource_lock.specs.declared.graphs.Retention.TheVariants.{Retain}
use Rattle.resource_lock.specs.declared.ids.LockId.{LockId}
use Rattle.resource_lock.specs.declared.ids.WorkerId.{WorkerId}
use Rattle.resource_lock.specs.declared.marks.Mark.{Mark}
use Rattle.resource_lock.specs.declared.marks.Mark.TheVariants.{Waiting, Queued, Running, Passed, Failed, Skipped}
use Rattle.resource_lock.specs.declared.marks.MarkId.TheVariants.{Task as TaskOf, Action as ActionOf, Unit as UnitOf}
use Rattle.resource_lock.specs.Fits.{Fits}
use Rattle.resource_lock.specs.GraphView.{GraphView}
use Rattle.resource_lock.specs.Ranges.{fetches}
use Rattle.item_actions.specs.declared.outcomes.Outcome.{Outcome}
use Rattle.item_actions.specs.declared.outcomes.Outcome.TheVariants.{Number, NotThere}
use Rattle.lock_transforms.specs.declared.entries.Closed.{Closed}
use Rattle.lock_transforms.specs.declared.entries.Kind.{Kind}
use Rattle.lock_transforms.specs.declared.entries.Kind.TheVariants.{Start, Skip, Submit, Park, Resume, Claim, Close, Block, Unblock, End, Acquire, HandBack}
use Rattle.lock_transforms.specs.Allowed.{Lawful}
use Rattle.lock_journal.specs.Closings.{outcome_in}
use Rattle.lock_transforms.specs.Entry.{Entry, entry, replay}

-- locks and workers by number
abbrev pub lock_zero : LockId
lock_zero = record { 0 = 0 }

abbrev pub lock_one : LockId
lock_one = record { 0 = 1 }

abbrev pub lock_two : LockId
lock_two = record { 0 = 2 }

abbrev pub worker_zero : WorkerId
worker_zero = record { 0 = 0 }

abbrev pub worker_one : WorkerId
worker_one = record { 0 = 1 }

-- Words to write the entries as they print: worker 0 makes each, where it isn't said otherwise.
abbrev pub finished : Kind → List Change → Entry
finished kind changes = entry worker_zero kind (Some changes)

abbrev pub running : Mark
running = Running worker_zero

abbrev pub task : ℕ → Mark → Mark → Change
task t from to = Move (TaskOf t) from to

abbrev pub action : ℕ → Mark → Mark → Change
action a from to = Move (ActionOf a) from to

abbrev pub unit : ℕ → Mark → Mark → Change
unit u from to = Move (UnitOf u) from to

abbrev pub closed : ℕ → Outcome → Closed
closed u outcome = record { unit = u; outcome = outcome }

-- one worker, one lease, and one task with one action of so many items, behind a fetch or none
abbrev pub one_task : Retention → Bool → ℕ → GraphView
one_task retention fetch items = record {
  locks = 1;
  all = None;
  workers = 1;
  max_leases = 1;
  units = items + fetches fetch;
  tasks = record { lock = lock_zero; after = []; first_action = 0; actions = 1 } ∷ [];
  actions = record { task = 0; retention = retention; fetch = fetch; first_unit = 0; items = items } ∷ [];
}

-- one worker, one lease, and two tasks, the second after the first, each with one action of one item
abbrev pub two_tasks : GraphView
two_tasks = record {
  locks = 1;
  all = None;
  workers = 1;
  max_leases = 1;
  units = 2;
  tasks = record { lock = lock_zero; after = []; first_action = 0; actions = 1 }
      ∷ record { lock = lock_zero; after = 0 ∷ []; first_action = 1; actions = 1 } ∷ [];
  actions = record { task = 0; retention = Retain; fetch = false; first_unit = 0; items = 1 }
      ∷ record { task = 1; retention = Retain; fetch = false; first_unit = 1; items = 1 } ∷ [];
}

-- two workers, two leases and a lock, and no task
abbrev pub no_tasks : GraphView
no_tasks = record { locks = 1; all = None; workers = 2; max_leases = 2; units = 0; tasks = []; actions = [] }

-- one item
abbrev pub first_run : List Entry
first_run =
    finished (Start 0) (Lock lock_zero ∷ Take ∷ task 0 Waiting running ∷ [])
    ∷ finished (Submit 0) (action 0 Waiting Queued ∷ unit 0 Waiting Queued ∷ [])
    ∷ finished (Park 0) (Give ∷ action 0 Queued running ∷ [])
    ∷ finished (Claim 0) (Take ∷ unit 0 Queued running ∷ [])
    ∷ finished (Close (closed 0 (Number 3))) (unit 0 running Passed ∷ Give ∷ [])
    ∷ finished (Resume 0) (Take ∷ action 0 running Passed ∷ [])
    ∷ finished (End 0) (task 0 running Passed ∷ Unlock lock_zero ∷ Give ∷ [])
    ∷ []

-- two items, and the project lock given back while they are waited for
abbrev pub run_that_reacquires : List Entry
run_that_reacquires =
    finished (Start 0) (Lock lock_zero ∷ Take ∷ task 0 Waiting running ∷ [])
    ∷ finished (Submit 0) (action 0 Waiting Queued ∷ unit 0 Waiting Queued ∷ unit 1 Waiting Queued ∷ [])
    ∷ finished (Park 0) (Give ∷ Unlock lock_zero ∷ ParkLock lock_zero ∷ action 0 Queued running ∷ [])
    ∷ finished (Claim 0) (Take ∷ unit 0 Queued running ∷ [])
    ∷ finished (Close (closed 0 (Number 3))) (unit 0 running Passed ∷ Give ∷ [])
    ∷ finished (Claim 1) (Take ∷ unit 1 Queued running ∷ [])
    ∷ finished (Close (closed 1 (Number 14))) (unit 1 running Passed ∷ Give ∷ [])
    ∷ finished (Resume 0) (Unpark lock_zero ∷ Lock lock_zero ∷ Take ∷ action 0 running Passed ∷ [])
    ∷ finished (End 0) (task 0 running Passed ∷ Unlock lock_zero ∷ Give ∷ [])
    ∷ []

-- one item, and the project lock given back for good
abbrev pub run_that_releases : List Entry
run_that_releases =
    finished (Start 0) (Lock lock_zero ∷ Take ∷ task 0 Waiting running ∷ [])
    ∷ finished (Submit 0) (action 0 Waiting Queued ∷ unit 0 Waiting Queued ∷ [])
    ∷ finished (Park 0) (Give ∷ Unlock lock_zero ∷ ParkLock lock_zero ∷ action 0 Queued running ∷ [])
    ∷ finished (Claim 0) (Take ∷ unit 0 Queued running ∷ [])
    ∷ finished (Close (closed 0 (Number 3))) (unit 0 running Passed ∷ Give ∷ [])
    ∷ finished (Resume 0) (Unpark lock_zero ∷ action 0 running Passed ∷ [])
    ∷ finished (End 0) (task 0 running Passed ∷ [])
    ∷ []

-- a fetch and one item
abbrev pub run_that_fetches : List Entry
run_that_fetches =
    finished (Start 0) (Lock lock_zero ∷ Take ∷ task 0 Waiting running ∷ [])
    ∷ finished (Block (Some 0)) (unit 0 Waiting running ∷ Give ∷ Unlock lock_zero ∷ ParkLock lock_zero ∷ Enter ∷ [])
    ∷ finished (Unblock (Some (closed 0 (Number 14)))) (Leave ∷ Unpark lock_zero ∷ Lock lock_zero ∷ Take ∷ unit 0 running Passed ∷ [])
    ∷ finished (Submit 0) (action 0 Waiting Queued ∷ unit 1 Waiting Queued ∷ [])
    ∷ finished (Park 0) (Give ∷ action 0 Queued running ∷ [])
    ∷ finished (Claim 1) (Take ∷ unit 1 Queued running ∷ [])
    ∷ finished (Close (closed 1 (Number 3))) (unit 1 running Passed ∷ Give ∷ [])
    ∷ finished (Resume 0) (Take ∷ action 0 running Passed ∷ [])
    ∷ finished (End 0) (task 0 running Passed ∷ Unlock lock_zero ∷ Give ∷ [])
    ∷ []

-- the first task's file is missing, so the second task is skipped
abbrev pub run_that_fails : List Entry
run_that_fails =
    finished (Start 0) (Lock lock_zero ∷ Take ∷ task 0 Waiting running ∷ [])
    ∷ finished (Submit 0) (action 0 Waiting Queued ∷ unit 0 Waiting Queued ∷ [])
    ∷ finished (Park 0) (Give ∷ action 0 Queued running ∷ [])
    ∷ finished (Claim 0) (Take ∷ unit 0 Queued running ∷ [])
    ∷ finished (Close (closed 0 NotThere)) (unit 0 running Failed ∷ Give ∷ [])
    ∷ finished (Resume 0) (Take ∷ action 0 running Passed ∷ [])
    ∷ finished (End 0) (task 0 running Failed ∷ Unlock lock_zero ∷ Give ∷ [])
    ∷ finished (Skip 1) (task 1 Waiting Skipped ∷ action 1 Waiting Skipped ∷ unit 1 Waiting Skipped ∷ [])
    ∷ []

-- a lock that is owned is refused, and taken once it was handed back
abbrev pub locks_by_turns : List Entry
locks_by_turns =
    finished Acquire (Lock lock_zero ∷ Take ∷ [])
    ∷ entry worker_one Acquire None
    ∷ finished HandBack (Unlock lock_zero ∷ Give ∷ [])
    ∷ entry worker_one Acquire (Some (Lock lock_zero ∷ Take ∷ []))
    ∷ finished Acquire (Take ∷ [])
    ∷ []

-- the second task starts before the first has passed
abbrev pub start_too_early : List Entry
start_too_early = finished (Start 1) (Lock lock_zero ∷ Take ∷ task 1 Waiting running ∷ []) ∷ []

-- the same run of a task that asks for all projects: its lock is the last of two
abbrev pub one_task_of_all : GraphView
one_task_of_all = record {
  locks = 2;
  all = Some lock_one;
  workers = 1;
  max_leases = 1;
  units = 1;
  tasks = record { lock = lock_one; after = []; first_action = 0; actions = 1 } ∷ [];
  actions = record { task = 0; retention = Retain; fetch = false; first_unit = 0; items = 1 } ∷ [];
}

abbrev pub first_run_of_all : List Entry
first_run_of_all =
    finished (Start 0) (Lock lock_one ∷ Take ∷ task 0 Waiting running ∷ [])
    ∷ finished (Submit 0) (action 0 Waiting Queued ∷ unit 0 Waiting Queued ∷ [])
    ∷ finished (Park 0) (Give ∷ action 0 Queued running ∷ [])
    ∷ finished (Claim 0) (Take ∷ unit 0 Queued running ∷ [])
    ∷ finished (Close (closed 0 (Number 3))) (unit 0 running Passed ∷ Give ∷ [])
    ∷ finished (Resume 0) (Take ∷ action 0 running Passed ∷ [])
    ∷ finished (End 0) (task 0 running Passed ∷ Unlock lock_one ∷ Give ∷ [])
    ∷ []

-- two workers, two leases, the locks of two projects, and the all-projects lock
abbrev pub two_projects : GraphView
two_projects = record { locks = 3; all = Some lock_two; workers = 2; max_leases = 2; units = 0; tasks = []; actions = [] }

abbrev pub by_worker_one : List Change → Entry
by_worker_one changes = entry worker_one Acquire (Some changes)

-- A worker that owns a lock takes the all-projects lock too, gives it back, and another takes a lock then.
abbrev pub all_by_turns : List Entry
all_by_turns =
    finished Acquire (Lock lock_zero ∷ Take ∷ [])
    ∷ finished Acquire (Lock lock_two ∷ [])
    ∷ entry worker_one Acquire None
    ∷ finished HandBack (Unlock lock_zero ∷ Unlock lock_two ∷ Give ∷ [])
    ∷ by_worker_one (Lock lock_one ∷ Take ∷ [])
    ∷ []

-- a worker takes the all-projects lock while another owns a lock
abbrev pub all_beside_another : List Entry
all_beside_another = finished Acquire (Lock lock_zero ∷ Take ∷ []) ∷ by_worker_one (Lock lock_two ∷ Take ∷ []) ∷ []

-- a worker takes a lock while another owns the all-projects lock
abbrev pub another_beside_all : List Entry
another_beside_all = finished Acquire (Lock lock_two ∷ Take ∷ []) ∷ by_worker_one (Lock lock_one ∷ Take ∷ []) ∷ []

-- The graph fits, the history is lawful, and in the end the tasks have these marks, the units these outcomes, and nobody owns a lock.
pub record IsWorkedRun (g : GraphView) (h : List Entry) (marks : List Mark) (outcomes : List Outcome) : Type 0 where
  pub fits : Fits g
  pub lawful : Lawful g h
  pub tasks : (replay g h).tasks ≡ marks
  pub units : map (outcome_in h) (range_with_len 0 g.units) ≡ outcomes
  pub owners : (replay g h).owners ≡ replicate g.locks None
