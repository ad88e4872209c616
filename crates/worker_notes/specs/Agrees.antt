-- What a worker saw agrees with a book.
use Rattle.std.specs.Prelude.{◌≡◌, ◌<◌, List, ◌++◌}
use Rattle.lock_journal.specs.Names.{WorkerId, Entry, replay, Lawful, BookView, closed_by, NoneOf, SameFor}
use Rattle.worker_notes.specs.WorkerEntries.{last_of, entry_count_of}

-- The history goes on from what the worker saw by entries of others alone, and what the worker has, owns, runs, closed and listed is the same in both.
pub record Agrees (w : WorkerId) (seen book : BookView) : Type 0 where
  pub graph : book.graph ≡ seen.graph
  pub between : List Entry
  pub history : book.history ≡ seen.history ++ between
  pub others : NoneOf w between
  pub state : SameFor w seen.state book.state
  pub closings : closed_by w book.history ≡ closed_by w seen.history
  pub count : entry_count_of w book.history ≡ entry_count_of w seen.history
  pub last : last_of w book.history ≡ last_of w seen.history

-- the history is lawful, and the state is what it leads to
pub record IsSoundBook (book : BookView) : Type 0 where
  pub lawful : Lawful book.graph book.history
  pub replays : book.state ≡ replay book.graph book.history

-- The worker finds a sound book that agrees with what it saw, and is one of the workers of its graph.
pub record Finds (w : WorkerId) (seen book : BookView) : Type 0 where
  pub agrees : Agrees w seen book
  pub sound : IsSoundBook book
  pub known : w.0 < book.graph.workers
