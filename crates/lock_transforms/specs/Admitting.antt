-- Whether an entry with given changes is allowed, and what of it was made.
use Rattle.std.specs.Prelude.{ℕ, nat_lt, ◌≡◌, ◌<◌, ◌≤◌, ◌+◌, Bool, true, false, List, Some, length}
use Rattle.std.specs.List.{AllByRecursion}
use Rattle.resource_lock.specs.Change.{NamesOnly}
use Rattle.resource_lock.specs.StateView.{holding_of}
use Rattle.resource_lock.specs.declared.changes.Change.{Change}
use Rattle.resource_lock.specs.declared.changes.Change.TheVariants.{Lock}
use Rattle.lock_transforms.specs.Entry.{entry}
use Rattle.lock_transforms.specs.Allowed.{Allowed}
use Rattle.lock_transforms.specs.TentativeView.{TentativeView, Worked}
use Rattle.lock_transforms.specs.Table.{acquires, condition}
use Rattle.lock_transforms.specs.declared.entries.Kind.{Kind}
use Rattle.lock_transforms.specs.declared.entries.Kind.TheVariants.{Acquire}

-- The answer is whether the entry is allowed with these changes; where it is, they were made.
pub record HasTried (old new : TentativeView) (kind : Kind) (cs : List Change) (answer : Bool) : Type 0 where
  pub worked : Worked old new
  pub allowed : answer ≡ true → Allowed old.graph old.state (entry old.worker kind (Some cs))
  pub made : answer ≡ true → new.made ≡ cs
  pub refused : answer ≡ false → ¬ Allowed old.graph old.state (entry old.worker kind (Some cs))

-- a lock that the change takes, if it takes one, is among the first n
abbrev pub takes_within : ℕ → Change → Bool
takes_within n (Lock l) = nat_lt l.0 n
takes_within n _ = true

-- The changes are those of an `Acquire` that is allowed, if only each of them can be made.
pub record IsAcquire (t : TentativeView) (cs : List Change) : Type 0 where
  pub worker : t.worker.0 < t.graph.workers
  pub condition : condition t.graph t.state t.worker Acquire ≡ true
  pub list : acquires 0 (holding_of t.state t.worker).lease cs ≡ true
  pub named : AllByRecursion (NamesOnly t.state) cs
  pub few : length cs ≤ t.graph.locks + 1
