-- Locks and a lease taken, each where the worker doesn't have it.
use Rattle.std.specs.Prelude.{ℕ, ◌+◌, nat_le, nat_lt, Bool, true, not, ◌&&◌, List, [], ◌∷◌, ◌++◌, map, if◌then◌else◌}
use Rattle.std.specs.List.{list_all, filter}
use Rattle.resource_lock.specs.StateView.{StateView, holding_of, owns, has_parked}
use Rattle.resource_lock.specs.Trying.{can_own, can_lease}
use Rattle.resource_lock.specs.Change.{make_all}
use Rattle.resource_lock.specs.GraphView.{GraphView}
use Rattle.resource_lock.specs.declared.ids.LockId.{LockId}
use Rattle.resource_lock.specs.declared.ids.WorkerId.{WorkerId}
use Rattle.resource_lock.specs.declared.changes.Change.{Change}
use Rattle.resource_lock.specs.declared.changes.Change.TheVariants.{Lock, Take}
use Rattle.lock_transforms.specs.Table.{condition}
use Rattle.lock_transforms.specs.declared.entries.Kind.TheVariants as kinds

abbrev pub lock_taken : StateView → WorkerId → LockId → List Change
lock_taken s w l = if owns s w l then [] else Lock l ∷ []

-- the locks in order, each where the worker doesn't own it by then
abbrev pub locks_taken : StateView → WorkerId → List LockId → List Change
locks_taken s w [] = []
locks_taken s w (l ∷ ls) = lock_taken s w l ++ locks_taken (make_all s w (lock_taken s w l)) w ls

abbrev pub lease_taken : StateView → WorkerId → List Change
lease_taken s w = if (holding_of s w).lease then [] else Take ∷ []

-- the locks, and then the lease
abbrev pub all_taken : StateView → WorkerId → List LockId → List Change
all_taken s w ls = locks_taken s w ls ++ lease_taken s w

-- the worker is kept from none of the locks, and has a lease or fewer than may be are out
abbrev pub can_take_all : StateView → WorkerId → List LockId → Bool
can_take_all s w ls = list_all (can_own s w) ls && can_lease s w

-- locks from the number low on, in strictly rising order
abbrev pub rises : ℕ → List LockId → Bool
rises low [] = true
rises low (l ∷ ls) = nat_le low l.0 && rises (l.0 + 1) ls

-- a lock of the graph that the worker hasn't parked
abbrev pub is_open : GraphView → StateView → WorkerId → LockId → Bool
is_open g s w l = nat_lt l.0 g.locks && not (has_parked s w l)

-- the worker isn't blocked and runs nothing, and each lock is open to it
abbrev pub may_acquire : GraphView → StateView → WorkerId → List LockId → Bool
may_acquire g s w ls = condition g s w kinds.Acquire && list_all (is_open g s w) ls

-- those of the locks that the worker doesn't own, in order, and then a lease, where it has none
abbrev pub acquired : StateView → WorkerId → List LockId → List Change
acquired s w ls = map Lock (filter (λ l. not (owns s w l)) ls) ++ lease_taken s w
