-- Whether an entry was admitted.
use Rattle.std.specs.Prelude.{◌≡◌, ◌<◌, ◌⊎◌, List, Option, None, Some, ◌∷◌, [], ◌++◌, length}
use Rattle.resource_lock.specs.declared.changes.Change.{Change}
use Rattle.lock_transforms.specs.Entry.{Entry, effect}
use Rattle.lock_transforms.specs.Allowed.{Allowed}
use Rattle.lock_journal.specs.BookView.{BookView}

-- The entry was allowed, it stands at the end of the history, and the state is its effect.
pub record HasAdmitted (old new : BookView) (e : Entry) : Type 0 where
  pub graph : new.graph ≡ old.graph
  pub allowed : Allowed old.graph old.state e
  pub history : new.history ≡ old.history ++ e ∷ []
  pub state : new.state ≡ effect old.state e
  pub given : new.given ≡ old.given

-- The entry wasn't allowed, and nothing is changed.
pub record IsRefused (old new : BookView) (e : Entry) : Type 0 where
  pub graph : new.graph ≡ old.graph
  pub not_allowed : ¬ Allowed old.graph old.state e
  pub history : new.history ≡ old.history
  pub state : new.state ≡ old.state
  pub given : new.given ≡ old.given

-- there isn't room for an entry with these changes, or for one that failed
abbrev pub IsFullFor : BookView → Option (List Change) → Type 0
IsFullFor b None = b.spare_entries < 1
IsFullFor b (Some cs) = (b.spare_entries < 1) ⊎ (b.spare_changes < length cs)
