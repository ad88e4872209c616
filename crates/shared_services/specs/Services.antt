-- Services, each with so many locks, and their users.
use Rattle.std.specs.Prelude.{ℕ, ◌≡◌, ◌≢◌, ◌<◌, ◌≤◌, ◌+◌, List, [], ◌∷◌, length, take, sum, slice_index_or, slice_range}
use Rattle.std.specs.Prelude.{Option, None, Some, Bool, false, not, if◌then◌else◌}
use Rattle.std.specs.List.{All, list_any}
use Rattle.lock_journal.specs.Names.{IsIn, StateView, is_owner, owner_of, LockId, WorkerId}
use Rattle.shared_services.specs.declared.services.TheConstants.{MAX_SERVICES, MAX_USES}

-- 1 to 64 services, each with a maximum of 1 to 32
pub record FitMaxima (maxima : List ℕ) : Type 0 where
  pub some : 1 ≤ length maxima
  pub few : length maxima ≤ MAX_SERVICES
  pub used : All (λ m. (1 ≤ m) × (m ≤ MAX_USES)) maxima

-- as many locks as all maxima together
abbrev pub lock_count : List ℕ → ℕ
lock_count maxima = sum maxima

-- the number of a service's first lock: those of the services before it come first
abbrev pub first_lock : List ℕ → ℕ → ℕ
first_lock maxima service = sum (take service maxima)

abbrev pub maximum_of : List ℕ → ℕ → ℕ
maximum_of maxima service = slice_index_or maxima service 0

-- the locks of a service are as many as its maximum, from its first one on
abbrev pub IsLockOfService : List ℕ → ℕ → LockId → Type 0
IsLockOfService maxima service lock = IsIn (first_lock maxima service) (maximum_of maxima service) lock.0

-- whoever owns a lock owns none of the later ones
abbrev pub is_last_of : Option WorkerId → List (Option WorkerId) → Bool
is_last_of None later = false
is_last_of (Some w) later = not (list_any (λ o. is_owner o w) later)

-- how many workers own one of these locks: each of them counts at its last
abbrev pub users_in : List (Option WorkerId) → ℕ
users_in [] = 0
users_in (o ∷ later) = if is_last_of o later then users_in later + 1 else users_in later

-- how many workers own a lock of the service
abbrev pub uses : List ℕ → StateView → ℕ → ℕ
uses maxima s service = users_in (slice_range s.owners (first_lock maxima service) (first_lock maxima service + maximum_of maxima service))

-- The lock is the service's, nobody owns it, and each lower one of the service has an owner.
pub record IsLowestFree (maxima : List ℕ) (s : StateView) (service : ℕ) (lock : LockId) : Type 0 where
  pub of_service : IsLockOfService maxima service lock
  pub free : owner_of s lock ≡ None
  pub lowest : (l : LockId) → IsLockOfService maxima service l → l.0 < lock.0 → owner_of s l ≢ None

-- each lock of the service has an owner
abbrev pub IsFull : List ℕ → StateView → ℕ → Type 0
IsFull maxima s service = (l : LockId) → IsLockOfService maxima service l → owner_of s l ≢ None

-- The numbers strictly rise, and each is a service's.
pub record AreServices (maxima asked : List ℕ) : Type 0 where
  pub rising : (i j : ℕ) → i < j → j < length asked → slice_index_or asked i 0 < slice_index_or asked j 0
  pub known : All (λ service. service < length maxima) asked

abbrev pub no_lock : LockId
no_lock = record { 0 = 0 }

-- one lock of each of the services, in their order
pub record AreOneOfEach (maxima asked : List ℕ) (locks : List LockId) : Type 0 where
  pub count : length locks ≡ length asked
  pub of_service : (i : ℕ) → i < length asked → IsLockOfService maxima (slice_index_or asked i 0) (slice_index_or locks i no_lock)

-- of each of the services the lowest lock without owner, in their order
pub record AreLowestFree (maxima : List ℕ) (s : StateView) (asked : List ℕ) (locks : List LockId) : Type 0 where
  pub count : length locks ≡ length asked
  pub lowest : (i : ℕ) → i < length asked → IsLowestFree maxima s (slice_index_or asked i 0) (slice_index_or locks i no_lock)
