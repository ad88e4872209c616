-- A run of jobs, by its history.
use Rattle.std.specs.Prelude.{ℕ, ◌≡◌, ◌<◌, ◌≤◌, ◌*◌, List, [], None, length}
use Rattle.lock_journal.specs.Names.{IsAtRest, made_of, StateView, WorkerId, Lawful, prefix_state, replay, BookView}
use Rattle.shared_services.specs.Services.{lock_count, maximum_of, uses}
use Rattle.shared_services.specs.OneByOne.{OneByOne}
use Rattle.shared_services.specs.Done.{AreApart, IsRunIn, OwnsOneOfEach}
use Rattle.shared_services.specs.declared.jobs.Job.{Job}
use Rattle.shared_services.specs.declared.jobs.JobDone.{JobDone}

-- no worker owns two locks of one service, and no service has more users than its maximum
pub record KeepsMaxima (maxima : List ℕ) (s : StateView) : Type 0 where
  pub one_each : (w : WorkerId) → OwnsOneOfEach maxima s w
  pub few : (service : ℕ) → uses maxima s service ≤ maximum_of maxima service

-- Jobs were run by so many workers, with so many leases at most, and left this book.
pub record IsRunOfJobs (maxima : List ℕ) (workers most : ℕ) (jobs : List Job) (book : BookView) (ran : List JobDone) : Type 0 where
  -- the locks are those of the services, and there are no tasks
  pub graph : book.graph ≡ made_of (lock_count maxima) None workers most [] []
  pub lawful : Lawful book.graph book.history
  pub replays : book.state ≡ replay book.graph book.history
  -- after any number of entries
  pub kept : (n : ℕ) → KeepsMaxima maxima (prefix_state book.graph book.history n)
  -- each job was run by an entry of its own, in the jobs' order, and no entry is for anything else
  pub done : OneByOne (λ job d. (d.worker.0 < workers) × IsRunIn maxima job.uses.items book.history d.worker d.taken) jobs ran
  pub apart : AreApart ran
  pub entries : length book.history ≡ 2 * length jobs
  -- at its end nobody has anything
  pub rest : IsAtRest book.state
