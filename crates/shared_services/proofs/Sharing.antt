-- Where the jobs of workers lie.
use Rattle.std.proofs.Common.{◌≡◌, ◌<◌, ◌≤◌, ◌+◌, ◌*◌, ◌/◌, ℕ, List, ◌++◌, drop, length, arith}
use Rattle.std.proofs.Math.Nat.{div-mul-le_self, mul-div_cancel_left, mul-le-mul_right}
use Rattle.std.proofs.lemmas.List.Folds.{drop_split}
use Rattle.std.proofs.lemmas.Nat.{le-div}
use Rattle.shared_services.specs.Shares.{jobs_of, start_of}
use Rattle.shared_services.specs.declared.jobs.Job.{Job}

less_as_quotients : (a b n : ℕ) → 0 < n → a ≤ b → a / n ≤ b / n
less_as_quotients a b n some less = let down : a / n * n ≤ a = div-mul-le_self a n in le-div (a / n) b n some (omega (arith, down, less))

-- a worker's jobs begin where those of the one before it end, or behind it
pub starts_rise : (count workers place : ℕ) → 0 < workers → start_of count workers place ≤ start_of count workers (place + 1)
starts_rise count workers place some = less_as_quotients (place * count) ((place + 1) * count) workers some (mul-le-mul_right count (omega arith))

-- the jobs behind the last worker's are none
pub last_start : (count workers : ℕ) → 0 < workers → start_of count workers workers ≡ count
last_start count workers some = mul-div_cancel_left count some

-- the jobs from a worker on are its own, and those from the next one on
pub from_worker : (jobs : List Job) (workers place : ℕ) → 0 < workers
    → drop (start_of (length jobs) workers place) jobs ≡ jobs_of workers jobs place ++ drop (start_of (length jobs) workers (place + 1)) jobs
from_worker jobs workers place some = drop_split jobs (start_of (length jobs) workers place) (start_of (length jobs) workers (place + 1)) (starts_rise (length jobs) workers place some)
