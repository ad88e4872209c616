-- A book that is shown.
use Rattle.std.specs.Prelude.{◌≡◌, ◌-◌, Option, None, Some, length, take}
use Rattle.logbook.specs.Pages.{Book}
use Rattle.lock_journal.specs.Names.{prefix_state, BookView}
use Rattle.history_views.specs.Growing.{ReachView, last_book}

-- the book, and the ledger that has its history, where it is shown
pub record ShownView : Type 0 where
  pub book : BookView
  pub ledger : Option Book

-- both have this graph and this history
pub record SameHistory (b c : BookView) : Type 0 where
  pub graph : c.graph ≡ b.graph
  pub history : c.history ≡ b.history

-- the ledger of a stage, where there is one
abbrev pub ledger_at : Option ReachView → Option Book
ledger_at None = None
ledger_at (Some s) = Some s.ledger

-- a stage, where there is one, has come to the book
abbrev pub IsOnStage : Option ReachView → BookView → Type 0
IsOnStage None book = Unit {0}
IsOnStage (Some s) book = SameHistory (last_book s.log) book

-- What was told of the history of a book: where a ledger has it, that it has come to this book.
abbrev pub IsTold : Option Book → Option ReachView → BookView → Type 0
IsTold None None book = Unit {0}
IsTold None (Some r) book = ⊥
IsTold (Some l) None book = ⊥
IsTold (Some l) (Some r) book = (r.ledger ≡ l) × SameHistory (last_book r.log) book

-- graph, state and history are as before
pub record IsUnchanged (old new : BookView) : Type 0 where
  pub graph : new.graph ≡ old.graph
  pub state : new.state ≡ old.state
  pub history : new.history ≡ old.history

-- the last entry was taken back
pub record IsTaken (old new : BookView) : Type 0 where
  pub graph : new.graph ≡ old.graph
  pub history : new.history ≡ take (length old.history - 1) old.history
  pub state : new.state ≡ prefix_state old.graph old.history (length old.history - 1)
