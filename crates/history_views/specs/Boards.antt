-- What is shown on a board, and who knows of which ledger it is.
use Rattle.std.specs.Prelude.{ℕ, ◌≡◌, List, [], ◌∷◌, ◌++◌, Option, Some, None}
use Rattle.std.specs.List.{All}
use mathlib.Core.Option.{some}
use lib.ListN.{get_elem?}
use Rattle.logbook.specs.Pages.{Book}
use Rattle.history_views.specs.Growing.{ReachView}

-- whoever knows a ledger knows this one
abbrev pub IsOf : Book → Option ReachView → Type 0
IsOf ledger None = Unit {0}
IsOf ledger (Some r) = r.ledger ≡ ledger

abbrev pub AreOf : ReachView → List (Option ReachView) → Type 0
AreOf shown views = (j : ℕ) (v : Option ReachView) → get_elem? views j ≡ some v → IsOf shown.ledger v

-- knows that it is this ledger
abbrev pub Names : Book → Option ReachView → Type 0
Names ledger None = ⊥
Names ledger (Some r) = r.ledger ≡ ledger

-- A writer knows the ledger, and what is shown and what is to be shown is of it.
pub record Writes (ledger : Book) (known : Option ReachView) (shown : ReachView) (ops : List ReachView) : Type 0 where
  pub knows : Names ledger known
  pub shows : shown.ledger ≡ ledger
  pub pending : All (λ r. r.ledger ≡ ledger) ops

-- the reach is the last of these
abbrev pub IsLast : ReachView → List ReachView → Type 0
IsLast r ops = (front : List ReachView) × (ops ≡ front ++ r ∷ [])
