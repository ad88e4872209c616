-- Jobs that can be run.
use Rattle.std.specs.Prelude.{ℕ, ◌≤◌, List, length}
use Rattle.std.specs.List.{All}
use Rattle.shared_services.specs.Services.{AreServices}
use Rattle.shared_services.specs.declared.jobs.TheConstants.{MAX_JOBS}
use Rattle.shared_services.specs.declared.jobs.Job.{Job}

-- There aren't too many, and each asks for services, in strictly rising order.
pub record FitJobs (maxima : List ℕ) (jobs : List Job) : Type 0 where
  pub few : length jobs ≤ MAX_JOBS
  pub services : All (λ job. AreServices maxima job.uses.items) jobs
