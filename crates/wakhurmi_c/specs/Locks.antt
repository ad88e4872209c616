-- Locks by their numbers.
use Rattle.std.specs.Prelude.{ℕ, List, map}
use Rattle.resource_lock.specs.declared.ids.LockId.{LockId}

abbrev pub locks_of : List ℕ → List LockId
locks_of = map (λ n. record { 0 = n })
