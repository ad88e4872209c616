-- What running a transform leaves of a book.
use Rattle.std.specs.Prelude.{◌≡◌, List, [], ◌∷◌, ◌++◌, None, Some}
use Rattle.resource_lock.specs.StateView.{StateView}
use Rattle.resource_lock.specs.GraphView.{GraphView}
use Rattle.resource_lock.specs.declared.ids.WorkerId.{WorkerId}
use Rattle.resource_lock.specs.declared.changes.Change.{Change}
use Rattle.lock_transforms.specs.Entry.{entry, effect}
use Rattle.lock_transforms.specs.Allowed.{Allowed}
use Rattle.lock_journal.specs.BookView.{BookView}
use Rattle.lock_transforms.specs.declared.entries.Kind.{Kind}

-- The changes are some that the transform makes, the history has one more entry with them, which was allowed, and the state is its effect.
pub record FinishesIn (makes : GraphView → WorkerId → StateView → List Change → Type 0) (old new : BookView) (w : WorkerId)
    (kind : Kind) (changes : List Change) : Type 0 where
  pub made : makes old.graph w old.state changes
  pub allowed : Allowed old.graph old.state (entry w kind (Some changes))
  pub history : new.history ≡ old.history ++ entry w kind (Some changes) ∷ []
  pub state : new.state ≡ effect old.state (entry w kind (Some changes))

-- The history has one more entry, which failed where it may, and the state is as before.
pub record FailsIn (fails_on : GraphView → WorkerId → StateView → Type 0) (old new : BookView) (w : WorkerId) (kind : Kind) : Type 0 where
  pub cause : fails_on old.graph w old.state
  pub allowed : Allowed old.graph old.state (entry w kind None)
  pub history : new.history ≡ old.history ++ entry w kind None ∷ []
  pub state : new.state ≡ old.state

-- The transform is to be run again, where it may ask for that, and history and state are as before.
pub record IsToRetry (retries_on : GraphView → WorkerId → StateView → Type 0) (old new : BookView) (w : WorkerId) : Type 0 where
  pub cause : retries_on old.graph w old.state
  pub history : new.history ≡ old.history
  pub state : new.state ≡ old.state
