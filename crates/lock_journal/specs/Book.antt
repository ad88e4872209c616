-- What the fields of a `Book` stand for, and what holds of them.
use Rattle.std.specs.Prelude.{◌≡◌, ◌⊎◌, ◌+◌, List, [], All, length}
use Rattle.resource_lock.specs.declared.changes.Change.{Change}
use Rattle.ready_work.specs.ReadyWork.{IsIndexOf}
use Rattle.ready_work.specs.declared.ready_works.ReadyWork.{ReadyWork}
use Rattle.lock_transforms.specs.Entry.{Entry, effect, replay}
use Rattle.lock_transforms.specs.Allowed.{Allowed, Lawful}
use Rattle.lock_journal.specs.Bounds.{IsFitKind}
use Rattle.lock_journal.specs.BookView.{BookView, begun}
use Rattle.lock_journal.specs.LastChanges.{last_changes}
use Rattle.lock_journal.specs.declared.books.Book.TheInside.{Inside}
use Rattle.lock_transforms.specs.MostChanges.{IsRoomFor}
use Rattle.lock_transforms.specs.TentativeView.{TentativeView}

abbrev pub book_view : Inside → BookView
book_view b = begun b.tentative b.history

-- the changes are those of the last entry, or there are none
abbrev pub AreLastOrNone : List Change → List Entry → Type 0
AreLastOrNone changes history = (changes ≡ []) ⊎ (changes ≡ last_changes history)

-- No change is under way: those that are still noted are the last entry's. There is room for the changes of any entry. The history is a lawful one of the graph
-- whose outcomes are those of their type, the state is what it leads to, and the index is that of the graph and the
-- state.
pub record IsSound (b : Inside) : Type 0 where
  pub noted : AreLastOrNone b.tentative.made b.history.entries
  pub room : IsRoomFor b.tentative.graph (b.tentative.room + length b.tentative.made)
  pub units : b.history.units ≡ b.tentative.graph.units
  pub fit : All (λ e. IsFitKind e.kind) b.history.entries
  pub lawful : Lawful b.tentative.graph b.history.entries
  pub replays : b.tentative.state ≡ replay b.tentative.graph b.history.entries
  pub index : IsIndexOf b.tentative.graph b.tentative.state b.ready

-- The index is that of the state before an entry, which is allowed there and led to this one.
pub record FollowsEntry (before after : TentativeView) (e : Entry) (ready : ReadyWork) : Type 0 where
  pub graph : after.graph ≡ before.graph
  pub state : after.state ≡ effect before.state e
  pub allowed : Allowed before.graph before.state e
  pub index : IsIndexOf before.graph before.state ready
