-- The lock of each project.
use Rattle.std.specs.Prelude.{ℕ, ◌<◌, ◌^◌, Bool, List, length, map, Option, option_map, position, string_bytes}
use Rattle.std.specs.Str.{bytes_eq}
use Rattle.resource_lock.specs.ProjectLocks.{project_lock, project_lock_count}
use Rattle.resource_lock.specs.declared.ids.LockId.{LockId}
use Rattle.lease_service.specs.declared.project_locks.ProjectLocks.TheInside.{Inside}

-- the names of the projects in their order, and whether each has a lock of its own
pub record ProjectLocksView : Type 0 where
  pub projects : List (List ℕ)
  pub parallel : Bool

abbrev pub project_locks_view : Inside → ProjectLocksView
project_locks_view p = record { projects = map string_bytes p.names.keys; parallel = p.parallel }

abbrev pub HasNumbers : Inside → Type 0
HasNumbers p = length p.names.keys < 2 ^ 32

-- the lock of the project with this name, if there is one
abbrev pub lock_of : ProjectLocksView → List ℕ → Option LockId
lock_of locks name = option_map (project_lock locks.parallel) (position (bytes_eq name) locks.projects)

abbrev pub lock_count : ProjectLocksView → ℕ
lock_count locks = project_lock_count locks.parallel (length locks.projects)

-- the all-projects lock, behind those of the projects
abbrev pub all_lock : ProjectLocksView → LockId
all_lock locks = record { 0 = lock_count locks }
