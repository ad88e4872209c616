-- What the passes of all workers come to together.
use Rattle.std.specs.Prelude.{◌≡◌, ◌≤◌, ℕ, Bool, List, [], ◌∷◌, ◌++◌, length, Contains, count_by, sum_by}
use Rattle.std.specs.List.{AllPairs}
use Rattle.lock_journal.specs.Names.{holding_of, LockId, Entry, BookView, owned, Closed, closed_by, closed_in}
use Rattle.worker_notes.specs.WorkerEntries.{entry_count_of}
use Rattle.coordination.specs.Passes.{PassView}

abbrev pub locks_of : PassView → List LockId
locks_of p = owned p.sight.seen.state p.sight.worker

abbrev pub has_lease : PassView → Bool
has_lease p = (holding_of p.sight.seen.state p.sight.worker).lease

abbrev pub entries_of : PassView → ℕ
entries_of p = entry_count_of p.sight.worker p.sight.seen.history

abbrev pub closed_of_pass : PassView → List Closed
closed_of_pass p = closed_by p.sight.worker p.sight.seen.history

-- the units that the entries of all workers closed, with their outcomes, in order
abbrev pub closed_by_all : List Entry → List Closed
closed_by_all [] = []
closed_by_all (e ∷ h) = closed_in e.changes e.kind ++ closed_by_all h

-- No lock stands in two passes, and no more of them have a lease than may. All entries of the book are theirs, and of
-- every sort of closing as many stand in them as in the book.
pub record ComeTo (ps : List PassView) (book : BookView) : Type 0 where
  pub locks : AllPairs (λ p q. (l : LockId) → Contains (locks_of p) l → Contains (locks_of q) l → ⊥) ps
  pub leases : count_by has_lease ps ≤ book.graph.max_leases
  pub entries : sum_by entries_of ps ≡ length book.history
  pub closings : (sort : Closed → Bool) → sum_by (λ p. count_by sort (closed_of_pass p)) ps ≡ count_by sort (closed_by_all book.history)
