-- The taking of uses: which changes it makes, and where it can't be done.
use Rattle.std.specs.Prelude.{ℕ, ◌≡◌, ◌≤◌, ◌⊎◌, ◌==◌, Bool, false, not, ◌&&◌, List, [], ◌∷◌, ◌++◌, length, map, None}
use Rattle.std.specs.List.{Any}
use Rattle.lock_journal.specs.Names.{GraphView, StateView, holding_of, leases_out, runs_any, Change, Lock, Take, LockId, WorkerId}
use Rattle.shared_services.specs.Services.{AreLowestFree, IsFull, lock_count}

-- these locks and a lease
abbrev pub taken : List LockId → List Change
taken locks = map Lock locks ++ Take ∷ []

-- of each of the services the lowest lock without owner, and a lease
pub record TakesUses (maxima asked : List ℕ) (g : GraphView) (w : WorkerId) (s : StateView) (changes : List Change) : Type 0 where
  pub locks : List LockId
  pub lowest : AreLowestFree maxima s asked locks
  pub made : changes ≡ taken locks

-- all locks of one of the services have owners, or as many leases as may be are out
abbrev pub IsShort : List ℕ → List ℕ → StateView → Type 0
IsShort maxima asked s = Any (λ service. IsFull maxima s service) asked ⊎ (s.max_leases ≤ leases_out s)

-- the worker has no lease, isn't blocked, has parked nothing and runs nothing
abbrev pub has_nothing : StateView → WorkerId → Bool
has_nothing s w = not (holding_of s w).lease && not (holding_of s w).blocked && length (holding_of s w).parked == 0 && not (runs_any s w)

-- the locks of the graph are those of the services, and it has no all-projects lock
abbrev pub HasTheLocks : List ℕ → GraphView → Type 0
HasTheLocks maxima g = (g.locks ≡ lock_count maxima) × (g.all ≡ None)

-- the graph has other locks than those of the services, or the worker has something
abbrev pub MayNotTake : List ℕ → GraphView → WorkerId → StateView → Type 0
MayNotTake maxima g w s = (¬ HasTheLocks maxima g) ⊎ (has_nothing s w ≡ false)
