-- What the entries of a worker closed.
use Rattle.std.specs.Prelude.{ℕ, ◌==◌, if◌then◌else◌, List, [], ◌∷◌, ◌++◌, Option, None, Some}
use Rattle.std.specs.List.{count_by}
use Rattle.resource_lock.specs.declared.changes.Change.{Change}
use Rattle.resource_lock.specs.declared.ids.WorkerId.{WorkerId}
use Rattle.item_actions.specs.Value.{is_fault}
use Rattle.lock_transforms.specs.declared.entries.Closed.{Closed}
use Rattle.lock_transforms.specs.declared.entries.Kind.{Kind}
use Rattle.lock_transforms.specs.Entry.{Entry}
use Rattle.lock_journal.specs.Closings.{closed_of}

abbrev pub closed_in : Option (List Change) → Kind → List Closed
closed_in None k = []
closed_in (Some cs) k = closed_of k

-- what one entry closes, where it is the worker's
abbrev pub closed_at : WorkerId → Entry → List Closed
closed_at w e = if e.worker.0 == w.0 then closed_in e.changes e.kind else []

-- the units that a worker's entries closed, with their outcomes, in order
abbrev pub closed_by : WorkerId → List Entry → List Closed
closed_by w [] = []
closed_by w (e ∷ h) = closed_at w e ++ closed_by w h

abbrev pub faults_in : List Closed → ℕ
faults_in ds = count_by (λ d. is_fault d.outcome) ds

-- how many units a worker closed with Fault
abbrev pub faults_by : WorkerId → List Entry → ℕ
faults_by w h = faults_in (closed_by w h)
