-- Jobs that were run.
use Rattle.std.specs.Prelude.{ℕ, ◌≡◌, ◌≢◌, ◌+◌, ◌==◌, ◌&&◌, List, [], ◌∷◌, ◌++◌, length, map, Option, Some}
use Rattle.std.specs.Prelude.{if◌then◌else◌, IfSome, true}
use Rattle.std.specs.List.{AllByRecursion}
use Rattle.item_actions.specs.Files.{Folder}
use Rattle.item_actions.specs.Value.{IsHonest, is_fault, value_on}
use Rattle.lock_journal.specs.Names.{StateView, owns, Change, Give, Unlock, LockId, WorkerId, Entry, entry, Acquire, HandBack, NoneOf}
use Rattle.shared_services.specs.Services.{AreOneOfEach, IsLockOfService}
use Rattle.shared_services.specs.Takings.{taken}
use Rattle.shared_services.specs.declared.jobs.Job.{Job}
use Rattle.shared_services.specs.declared.jobs.JobDone.{JobDone}

-- these locks and the lease are given back
abbrev pub given_back : List LockId → List Change
given_back locks = map Unlock locks ++ Give ∷ []

-- The entry of this number is the worker's, and takes just one lock of each of the services, and a lease. The worker's next
-- entry gives all of it back.
pub record IsRunIn (maxima asked : List ℕ) (history : List Entry) (w : WorkerId) (number : ℕ) : Type 0 where
  pub locks : List LockId
  pub before : List Entry
  pub between : List Entry
  pub later : List Entry
  pub one_each : AreOneOfEach maxima asked locks
  pub entries : history ≡ before ++ (entry w Acquire (Some (taken locks)) ∷ (between ++ (entry w HandBack (Some (given_back locks)) ∷ later)))
  pub place : number ≡ length before + 1
  pub others : NoneOf w between

-- no two entries that took uses are the same
abbrev pub AreApart : List JobDone → Type 0
AreApart [] = Unit {0}
AreApart (d ∷ ds) = AllByRecursion (λ e. d.taken ≢ e.taken) ds × AreApart ds

-- The worker owns no two locks of one service.
abbrev pub OwnsOneOfEach : List ℕ → StateView → WorkerId → Type 0
OwnsOneOfEach maxima s w = (service : ℕ) (k l : LockId) → IsLockOfService maxima service k → IsLockOfService maxima service l
    → owns s w k ≡ true → owns s w l ≡ true → k ≡ l

-- how many of the jobs that a worker ran met a fault
abbrev pub faults_of : WorkerId → List JobDone → ℕ
faults_of w [] = 0
faults_of w (d ∷ ds) = if (d.worker.0 == w.0) && is_fault d.outcome then faults_of w ds + 1 else faults_of w ds

-- where the worker's files are known, the job's outcome is its value on them, or Fault or NoMemory
abbrev pub IsHonestJob : Option Folder → Job → JobDone → Type 0
IsHonestJob known job d = IfSome known (λ files. IsHonest d.outcome (value_on files job.action job.file))
