-- The locks of projects: with parallel each project has a lock of its own, without it all share one.
use Rattle.std.specs.Prelude.{ℕ, min, Bool, if◌then◌else◌}
use Rattle.resource_lock.specs.declared.ids.LockId.{LockId}

-- the lock of the project with this number
abbrev pub project_lock : Bool → ℕ → LockId
project_lock parallel project = record { 0 = if parallel then project else 0 }

-- how many locks so many projects have
abbrev pub project_lock_count : Bool → ℕ → ℕ
project_lock_count parallel projects = if parallel then projects else min 1 projects
