use Rattle.std.proofs.Common.{subst}
use Rattle.lock_journal.specs.Names.{GraphView, StateView}
use Rattle.ready_work.specs.ReadyWork.{IsIndexOf}
use Rattle.lock_journal.proofs.books.Book.keep_queued.Goals as goal

-- the index is that of the same graph and state
pub invariant_of-self : goal.invariant_of-self
invariant_of-self c =
    let i = c.self.invariant in record {
      noted = i.noted;
      room = i.room;
      units = i.units;
      fit = i.fit;
      lawful = i.lawful;
      replays = i.replays;
      index = subst (λ (g : GraphView). IsIndexOf g c.self.inside.tentative.state c.keep_queued.new.self) c.graph.ensures.value (subst (λ (s : StateView). IsIndexOf c.graph.result.now s c.keep_queued.new.self) c.state.ensures.value c.keep_queued.ensures);
    }
