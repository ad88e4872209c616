-- A book, as contracts see it.
use Rattle.std.specs.Prelude.{ℕ, ◌≡◌, ◌≤◌, ◌+◌, List, length, min}
use Rattle.resource_lock.specs.StateView.{StateView}
use Rattle.resource_lock.specs.GraphView.{GraphView}
use Rattle.lock_transforms.specs.Entry.{Entry}
use Rattle.lock_journal.specs.HistoryView.{HistoryView}
use Rattle.lock_transforms.specs.TentativeView.{TentativeView}

-- the graph, the state, the history, how many of its entries were given away, and how many more entries and changes there is room for
pub record BookView : Type 0 where
  pub graph : GraphView
  pub state : StateView
  pub history : List Entry
  pub given : ℕ
  pub spare_entries : ℕ
  pub spare_changes : ℕ

-- the book of a state under change and a history, between two entries: there is room where changes are still noted
abbrev pub begun : TentativeView → HistoryView → BookView
begun t h = record {
  graph = t.graph;
  state = t.state;
  history = h.entries;
  given = h.given;
  spare_entries = h.spare_entries;
  spare_changes = min h.spare_changes (t.room + length t.made);
}

-- graph, state and history are as before, no more was given away, and the spares aren't smaller
pub record SameBook (old new : BookView) : Type 0 where
  pub graph : new.graph ≡ old.graph
  pub state : new.state ≡ old.state
  pub history : new.history ≡ old.history
  pub given : new.given ≡ old.given
  pub entries : old.spare_entries ≤ new.spare_entries
  pub changes : old.spare_changes ≤ new.spare_changes
