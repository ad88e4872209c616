use Rattle.std.proofs.Common.{◌≡◌, map, take, string_bytes}
use Rattle.lease_service.proofs.project_locks.ProjectLocks.new.Given as goal

abbrev pub invariant-loop-project : goal.invariant-loop-project
invariant-loop-project l = map string_bytes l.names.keys ≡ take l.project-index l.projects
