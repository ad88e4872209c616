use Rattle.std.proofs.Common.{inr, refl, arith}
use Rattle.lock_journal.proofs.Given.{sound_forgotten}
use Rattle.lock_journal.proofs.books.Book.allows.Goals as goal

pub invariant_of-self : goal.invariant_of-self
invariant_of-self c =
    sound_forgotten c.self.inside c.admit.new.self c.self.inside.history c.self.invariant c.admit.ensures.graph (c.admit.ensures.undone (inr refl)) (c.admit.ensures.fresh (inr refl))
    (omega (arith, c.admit.ensures.room)) refl refl
