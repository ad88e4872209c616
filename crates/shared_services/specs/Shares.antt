-- How jobs are shared out among workers: one worker's lie behind the other's, and no worker has two more than another.
use Rattle.std.specs.Prelude.{ℕ, ◌+◌, ◌*◌, ◌/◌, List, length, slice_range}
use Rattle.shared_services.specs.declared.jobs.Job.{Job}

-- the place of the first job of a worker
abbrev pub start_of : ℕ → ℕ → ℕ → ℕ
start_of count workers place = place * count / workers

-- the jobs of the worker at this place
abbrev pub jobs_of : ℕ → List Job → ℕ → List Job
jobs_of workers jobs place = slice_range jobs (start_of (length jobs) workers place) (start_of (length jobs) workers (place + 1))
