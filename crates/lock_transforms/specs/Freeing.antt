-- Locks given back one after another.
use Rattle.std.specs.Prelude.{Bool, List, [], ◌∷◌, map, if◌then◌else◌}
use Rattle.resource_lock.specs.StateView.{StateView, owns}
use Rattle.resource_lock.specs.declared.ids.LockId.{LockId}
use Rattle.resource_lock.specs.declared.ids.WorkerId.{WorkerId}
use Rattle.resource_lock.specs.declared.changes.Change.{Change}
use Rattle.resource_lock.specs.declared.changes.Change.TheVariants.{Unlock}
use Rattle.lock_transforms.specs.Table.{parked_locks}

-- each lock given back, and parked then or not
abbrev pub freed : Bool → List LockId → List Change
freed parks ls = if parks then parked_locks ls else map Unlock ls

-- a lock, where the worker owns it
abbrev pub if_owned : StateView → WorkerId → LockId → List LockId
if_owned s w l = if owns s w l then l ∷ [] else []
