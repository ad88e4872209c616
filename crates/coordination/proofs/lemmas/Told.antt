-- Answers that don't depend on what is offered.
use Rattle.lock_journal.specs.Names.{WorkerId, BookView}
use Rattle.coordination.specs.Names.{IsAnswered, AsTold, Telling}
use Rattle.coordination.specs.declared.rule.Sight.{Sight}

-- whatever the offers told, it is an answer of the book
pub answered_anyhow : {A : Type 0} (tells : Telling) (answers : WorkerId → BookView → A → Type 0) (a : A) (old new : Sight) → IsAnswered (AsTold tells (λ queued. answers)) a old new → IsAnswered answers a old new
answered_anyhow tells answers a old new h = record { book = h.book; found = h.found; answer = h.answer.2; sight = h.sight }
