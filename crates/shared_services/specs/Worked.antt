-- What a worker did of its jobs.
use Rattle.std.specs.Prelude.{ℕ, ◌≡◌, ◌≤◌, ◌<◌, ◌+◌, ◌-◌, ◌*◌, ◌^◌, List, length, get_or, take, Option}
use Rattle.std.specs.List.{AllByRecursion}
use Rattle.item_actions.specs.Files.{Folder}
use Rattle.lock_journal.specs.Names.{IsFixedList, Entry, prefix_state, GraphView, WorkerId}
use Rattle.lock_transforms.specs.declared.entries.Kind.TheVariants as kinds
use Rattle.coordination.specs.Names.{IsSoundBook, HasFinished, WasStopped, HoldsNothing, entry_count_of, last_of}
use Rattle.coordination.specs.declared.rule.Sight.{Sight}
use Rattle.lease_service.specs.Shows.{ShowsGivenBack}
use Rattle.shared_services.specs.Shows.{HasTakenUses}
use Rattle.shared_services.specs.Takings.{HasTheLocks, IsShort}
use Rattle.shared_services.specs.Done.{AreApart, IsHonestJob, IsRunIn, OwnsOneOfEach, faults_of}
use Rattle.shared_services.specs.OneByOne.{OneByOne}
use Rattle.shared_services.specs.declared.jobs.Job.{Job}
use Rattle.shared_services.specs.declared.jobs.JobDone.{JobDone}

-- The worker took the uses and gave all back.
pub record HasRunJob (maxima asked : List ℕ) (old new : Sight) (d : JobDone) : Type 0 where
  pub meanwhile : Sight
  pub took : HasTakenUses maxima asked old meanwhile
  pub taken : d.taken ≡ last_of meanwhile.worker meanwhile.seen.history
  pub gave : HasFinished kinds.HandBack (IsFixedList kinds.HandBack) meanwhile new
  pub given : ShowsGivenBack meanwhile new
  pub worker : d.worker ≡ new.worker

-- in each state that the history has led to, the worker owned no two locks of one service
abbrev pub AlwaysOneOfEach : List ℕ → GraphView → List Entry → WorkerId → Type 0
AlwaysOneOfEach maxima g h w = (n : ℕ) → OwnsOneOfEach maxima (prefix_state g h n) w

-- The worker has nothing, in a sound book on the locks of the services, and never owned two locks of one service.
pub record CanRun (maxima : List ℕ) (s : Sight) : Type 0 where
  pub locks : HasTheLocks maxima s.seen.graph
  pub rests : HoldsNothing s
  pub sound : IsSoundBook s.seen
  pub always : AlwaysOneOfEach maxima s.seen.graph s.seen.history s.worker

-- The worker has run these jobs, and has nothing.
pub record HasRun (maxima : List ℕ) (known : Option Folder) (before after : ℕ) (old : Sight) (jobs : List Job) (new : Sight) (ran : List JobDone) : Type 0 where
  pub worker : new.worker ≡ old.worker
  pub graph : new.seen.graph ≡ old.seen.graph
  pub rests : HoldsNothing new
  pub sound : IsSoundBook new.seen
  pub always : AlwaysOneOfEach maxima new.seen.graph new.seen.history new.worker
  pub done : OneByOne (λ job d. IsRunIn maxima job.uses.items new.seen.history d.worker d.taken) jobs ran
  pub honest : OneByOne (IsHonestJob known) jobs ran
  pub own : AllByRecursion (λ d. (d.worker ≡ new.worker) × (d.taken ≤ length new.seen.history)) ran
  pub apart : AreApart ran
  -- and it has made no other entries
  pub entries : entry_count_of new.worker new.seen.history ≡ entry_count_of old.worker old.seen.history + 2 * length ran
  pub count : before ≤ after
  pub faults : after < 2 ^ 64 - 1 → faults_of new.worker ran + before ≤ after

-- The worker ran the jobs before this place, and was stopped while it waited for the uses of the job at it, or for a lease, which
-- weren't to be had.
pub record WasStoppedAtOne
    (maxima : List ℕ) (known : Option Folder) (count : ℕ) (old : Sight) (jobs : List Job)
    (by : WorkerId) (new : Sight) (ran : List JobDone) : Type 0 where
  pub place : ℕ
  pub inside : place < length jobs
  pub job : Job
  pub there : job ≡ get_or jobs place job
  pub before : Sight
  -- what the desk had counted by then
  pub counted : ℕ
  pub earlier : HasRun maxima known count counted old (take place jobs) before ran
  pub stopped : WasStopped (λ g w s. IsShort maxima job.uses.items s) by before new
