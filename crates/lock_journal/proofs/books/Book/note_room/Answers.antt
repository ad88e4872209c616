use Rattle.std.proofs.Common.{sym, subst}
use Rattle.lock_journal.specs.Names.{IsSound, HistoryView}
use Rattle.lock_journal.proofs.books.Book.note_room.Goals as goal

-- the history is the same to contracts
pub invariant_of-self : goal.invariant_of-self
invariant_of-self c =
    subst (λ (h : HistoryView). IsSound (record { tentative = c.self.inside.tentative; history = h; ready = c.self.inside.ready })) (sym c.note_room.ensures) c.self.invariant
