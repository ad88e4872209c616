-- What a pass keeps of a book for its worker, and how it follows the worker's entries.
use Rattle.std.specs.Prelude.{◌≡◌, ◌+◌, ◌<◌, ◌≤◌, ℕ, suc, Bool, true, false, List, [], ◌∷◌, ◌++◌, length, vec_capacity}
use Rattle.std.specs.Prelude.{vec_len, Result, Ok, Err, None}
use Rattle.std.specs.List.{AllByRecursion}
use Rattle.lock_journal.specs.Names.{can_all, holding_after, make_all, NamesOnly, Good, Holding, IsWorkerOf, StateView, holding_of, runs_by, Change}
use Rattle.lock_journal.specs.Names.{Give, Lock, Move, Take, Unlock, Unpark, LockId, WorkerId, Passed, Queued, Running, Waiting, MarkId, ActionOf}
use Rattle.lock_journal.specs.Names.{TaskOf, IsKindOf, entry, BookView, last_changes, FinishesIn, locks_gained, list_of, owned, Kind, Disposition}
use Rattle.lock_journal.specs.Names.{Finished, Retry, claimed, claimed_after, lock_before, locks_after, mark_before, without_if}
use Rattle.resource_lock.specs.declared.changes.Change.TheVariants.{Park}
use Rattle.lock_transforms.specs.declared.transforms.Disposition.TheVariants.{Failed}
use Rattle.worker_notes.specs.Agrees.{IsSoundBook}
use Rattle.worker_notes.specs.SortedLists.{IsRising}
use Rattle.worker_notes.specs.WorkerEntries.{last_of}
use Rattle.worker_notes.specs.declared.parts.WorkerPart.{WorkerPart}

abbrev pub holding_in : WorkerPart → Holding
holding_in part = record { lease = part.lease; parked = part.parked.items; blocked = part.blocked }

-- the part says what the worker has, owns and runs
pub record Has (s : StateView) (w : WorkerId) (part : WorkerPart) : Type 0 where
  pub holding : holding_in part ≡ holding_of s w
  pub locks : part.locks.items ≡ owned s w
  pub claimed : part.claimed.items ≡ claimed s w

-- the part says that of the book's state, and which entry was the worker's last
pub record IsPartOf (book : BookView) (w : WorkerId) (part : WorkerPart) : Type 0 where
  pub has : Has book.state w part
  pub last : part.last ≡ last_of w book.history

-- how many locks it says that the worker owns or has parked
abbrev pub lock_count : WorkerPart → ℕ
lock_count part = vec_len part.locks + vec_len part.parked

-- each of its lists of locks has room for all of them and so many more
pub record HasLockRoom (more : ℕ) (part : WorkerPart) : Type 0 where
  pub lock_room : lock_count part + more ≤ vec_capacity part.locks
  pub park_room : lock_count part + more ≤ vec_capacity part.parked

-- Its lists have room: that of the marks for the three that a worker runs at most, and each list of locks for all that it owns or has parked, so that
-- these can be parked and taken up.
pub record HasRoom (part : WorkerPart) : Type 0 where
  pub mark_room : 3 ≤ vec_capacity part.claimed
  pub locks : HasLockRoom 0 part

-- the same part, but for the room in its lists of locks
pub record IsSamePart (old new : WorkerPart) : Type 0 where
  pub last : new.last ≡ old.last
  pub holding : holding_in new ≡ holding_in old
  pub locks : new.locks.items ≡ old.locks.items
  pub claimed : new.claimed ≡ old.claimed

-- The part is that of a worker of a sound book.
pub record IsPartHere (w : WorkerId) (book : BookView) (part : WorkerPart) : Type 0 where
  pub known : w.0 < book.graph.workers
  pub sound : IsSoundBook book
  pub kept : IsPartOf book w part
  pub room : HasRoom part

-- the part of a worker that has nothing
pub record IsFreshPart (last : ℕ) (part : WorkerPart) : Type 0 where
  pub lease : part.lease ≡ false
  pub blocked : part.blocked ≡ false
  pub owned : part.locks.items ≡ []
  pub claimed : part.claimed.items ≡ []
  pub parked : part.parked.items ≡ []
  pub number : part.last ≡ last
  pub has_room : HasRoom part

-- these are the parts of the workers from w on
abbrev pub ArePartsFrom : ℕ → BookView → List WorkerPart → Type 0
ArePartsFrom w book [] = Unit {0}
ArePartsFrom w book (part ∷ parts) = IsPartOf book (record { 0 = w }) part × HasRoom part
    × ArePartsFrom (suc w) book parts

-- its lists have room for a change of the worker
abbrev pub HasRoomFor : WorkerId → WorkerPart → Change → Type 0
HasRoomFor w part (Lock l) = vec_len part.locks < vec_capacity part.locks
HasRoomFor w part (Park l) = vec_len part.parked < vec_capacity part.parked
HasRoomFor w part (Move m from to) = runs_by w to ≡ true → length (without_if mark_before (runs_by w from) m part.claimed.items) < vec_capacity part.claimed
HasRoomFor w part _ = Unit {0}

-- what the worker owns and runs stands in order
pub record StandsInOrder (part : WorkerPart) : Type 0 where
  pub locks : IsRising lock_before part.locks.items
  pub claimed : IsRising mark_before part.claimed.items

-- the part after a change of the worker, which takes no memory
pub record IsAfter (w : WorkerId) (c : Change) (old new : WorkerPart) : Type 0 where
  pub last : new.last ≡ old.last
  pub holding : holding_in new ≡ holding_after (holding_in old) c
  pub locks : new.locks.items ≡ locks_after old.locks.items c
  pub claimed : new.claimed.items ≡ claimed_after w old.claimed.items c
  pub lock_room : vec_capacity new.locks ≡ vec_capacity old.locks
  pub mark_room : vec_capacity new.claimed ≡ vec_capacity old.claimed
  pub park_room : vec_capacity new.parked ≡ vec_capacity old.parked

-- how many locks a worker owns or has parked
abbrev pub lock_total : StateView → WorkerId → ℕ
lock_total s w = length (owned s w) + length (holding_of s w).parked

-- each of its lists of locks has room for so many
abbrev pub FitsLocks : ℕ → WorkerPart → Type 0
FitsLocks n part = (n ≤ vec_capacity part.locks) × (n ≤ vec_capacity part.parked)

-- the part of a worker that has handed back its locks and its lease
pub record HasHandedBack (old new : WorkerPart) : Type 0 where
  pub last : new.last ≡ old.last
  pub holding : holding_in new ≡ record (holding_in old) { lease = false }
  pub locks : new.locks.items ≡ []
  pub lock_room : vec_capacity new.locks ≡ vec_capacity old.locks
  pub claimed : new.claimed ≡ old.claimed
  pub parked : new.parked ≡ old.parked

-- the part of a worker that runs these marks now and has a lease or none, with the locks that it had
pub record HasMarks (lease : Bool) (marks : List MarkId) (old new : WorkerPart) : Type 0 where
  pub last : new.last ≡ old.last
  pub holding : holding_in new ≡ record (holding_in old) { lease = lease }
  pub claimed : new.claimed.items ≡ marks
  pub mark_room : vec_capacity new.claimed ≡ vec_capacity old.claimed
  pub locks : new.locks ≡ old.locks
  pub parked : new.parked ≡ old.parked

-- The part is that of the worker in a good state, in which it can make these changes in turn. No state on the way has more of its marks and of its locks
-- than the part has room for.
pub record LeadsOn (s : StateView) (w : WorkerId) (part : WorkerPart) (changes : List Change) : Type 0 where
  pub good : Good s
  pub worker : IsWorkerOf s w
  pub named : AllByRecursion (NamesOnly s) changes
  pub possible : can_all s w changes ≡ true
  pub has : Has s w part
  pub few : (front behind : List Change) → changes ≡ front ++ behind → length (claimed (make_all s w front) w) ≤ 3
  pub mark_room : 3 ≤ vec_capacity part.claimed
  pub lists : (front behind : List Change) → changes ≡ front ++ behind → FitsLocks (lock_total (make_all s w front) w) part

-- in some state the part can follow these changes
abbrev pub CanLead : WorkerId → List Change → WorkerPart → Type 0
CanLead w changes part = (s : StateView) × LeadsOn s w part changes

-- the part has followed these changes, in whatever state it could
abbrev pub LeadsPast : WorkerId → List Change → WorkerPart → WorkerPart → Type 0
LeadsPast w changes old new = (s : StateView) → LeadsOn s w old changes → LeadsOn (make_all s w changes) w new []

-- The part can follow the last entry of the book, which wasn't given away and finished with the changes of this kind.
pub record CanNote (w : WorkerId) (kind : Kind) (book : BookView) (part : WorkerPart) : Type 0 where
  pub kept : book.given < length book.history
  pub range : IsKindOf book.graph kind
  pub state : StateView
  pub list : last_changes book.history ≡ list_of book.graph state w kind
  pub can : CanLead w (last_changes book.history) part

-- the changes of a start, and of the beginning and the end of a wait for items for which the lock is given back and taken again
abbrev pub started : WorkerId → LockId → ℕ → List Change
started w l t = Lock l ∷ Take ∷ Move (TaskOf t) Waiting (Running w) ∷ []

abbrev pub parked_with : WorkerId → LockId → ℕ → List Change
parked_with w l a = Give ∷ Unlock l ∷ Park l ∷ Move (ActionOf a) Queued (Running w) ∷ []

abbrev pub resumed_with : WorkerId → LockId → ℕ → List Change
resumed_with w l a = Unpark l ∷ Lock l ∷ Take ∷ Move (ActionOf a) (Running w) Passed ∷ []

-- a book after a transform of the worker
abbrev pub Grew : {E : Type 0} → WorkerId → Kind → BookView → BookView → Result Disposition E → Type 0
Grew w kind old new (Ok Finished) = (changes : List Change) × FinishesIn (λ g v s cs. Unit {0}) old new w kind changes
Grew w kind old new (Ok Failed) = (new.history ≡ old.history ++ entry w kind None ∷ []) × (new.state ≡ old.state)
Grew w kind old new (Ok Retry) = (new.history ≡ old.history) × (new.state ≡ old.state)
Grew w kind old new (Err e) = (new.history ≡ old.history) × (new.state ≡ old.state)

-- where a transform of the kind finished, the part has room for as many locks more as an entry of so many changes can leave its worker
abbrev pub HasRoomIfFinished : {E : Type 0} → Kind → BookView → Result Disposition E → WorkerPart → Type 0
HasRoomIfFinished kind new ran part = ran ≡ Ok Finished → HasLockRoom (locks_gained kind (length (last_changes new.history))) part

-- The part is that of a sound book, on which a transform of the worker was run, and has room for the changes that it made.
pub record Follows {E : Type 0} (w : WorkerId) (kind : Kind) (old new : BookView) (ran : Result Disposition E) (part : WorkerPart) : Type 0 where
  pub sound : IsSoundBook old
  pub graph : new.graph ≡ old.graph
  pub grew : Grew w kind old new ran
  pub given : new.given ≡ old.given
  pub within : old.given ≤ length old.history
  pub kept : IsPartOf old w part
  pub room : HasRoom part
  pub lists : HasRoomIfFinished kind new ran part
