use Rattle.std.proofs.Common.{◌≡◌, true, ap, subst}
use Rattle.std.specs.Prelude.{◌↔◌, IsTrue}
use Rattle.std.specs.List.{All}
use Rattle.lock_journal.specs.Names.{StateView, BookView}
use Rattle.resource_lock.specs.Marks.{has_ended}
use Rattle.lock_journal.proofs.books.Book.all_tasks_ended.Goals as goal

pub returns : goal.returns
returns c = subst (λ (s : StateView). IsTrue c.all_ended.result ↔ All (λ m. has_ended m ≡ true) s.tasks) (ap (λ (book : BookView). book.state) c.self.view_is)
    (c.all_ended.ensures c.self.inside.tentative.graph c.self.inside.tentative.state c.state.ensures.belongs c.self.invariant.index)
