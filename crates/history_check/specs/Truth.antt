-- Which recorded outcomes are true for the files.
use Rattle.std.specs.Prelude.{ℕ, ◌≡◌, List, [], ◌∷◌, ◌++◌, Option, Some, None}
use Rattle.std.specs.List.{AllByRecursion, flat_map}
use Rattle.item_actions.specs.Files.{Folder}
use Rattle.item_actions.specs.Value.{IsHonest}
use Rattle.item_actions.specs.declared.outcomes.Outcome.{Outcome}
use Rattle.lock_journal.specs.Names.{Entry, Closed, closed_in}
use Rattle.plan_reader.specs.PlanView.{PlanView}
use Rattle.plan_reader.specs.Units.{unit_value}

-- what an entry closes: a unit with its outcome, where it is a closing entry, and else nothing
abbrev pub closing_at : Entry → List Closed
closing_at e = closed_in e.changes e.kind

-- the units that entries close, with the recorded outcomes, in order
abbrev pub closings_in : List Entry → List Closed
closings_in es = flat_map closing_at es

-- what is recorded of a unit is its value on the files, or says that the outside failed or that there was no memory
abbrev pub IsTrueOn : PlanView → Folder → Closed → Type 0
IsTrueOn p files d = IsHonest d.outcome (unit_value p files d.unit)

-- where the files are known, so it is with each closing entry; any other entry is true
abbrev pub AreTrue : PlanView → Option Folder → List Entry → Type 0
AreTrue p None es = Unit {0}
AreTrue p (Some files) es = AllByRecursion (IsTrueOn p files) (closings_in es)

-- where the files are known, it is the value of the unit
abbrev pub IsValueOf : PlanView → Option Folder → ℕ → Outcome → Type 0
IsValueOf p None u o = Unit {0}
IsValueOf p (Some files) u o = o ≡ unit_value p files u

-- Behind these entries stands one that closes this.
pub record ClosesBehind (es before : List Entry) (d : Closed) : Type 0 where
  pub entry : Entry
  pub behind : List Entry
  pub is : es ≡ before ++ entry ∷ behind
  pub closes : closing_at entry ≡ d ∷ []
