-- What driving one closing entry again says.
use Rattle.std.specs.Prelude.{ℕ, ◌≡◌, List, [], ◌∷◌, Option, Some, None, Result, Ok, Err}
use Rattle.item_actions.specs.Files.{Folder}
use Rattle.item_actions.specs.Value.{IsHonest}
use Rattle.lock_journal.specs.Names.{Entry, Closed}
use Rattle.plan_reader.specs.PlanView.{PlanView}
use Rattle.history_check.specs.Truth.{IsTrueOn, IsValueOf, closing_at}
use Rattle.history_check.specs.declared.stops.Stop.{Stop}
use Rattle.history_check.specs.declared.stops.Stop.TheVariants as stop

abbrev pub closed_list : Option Closed → List Closed
closed_list None = []
closed_list (Some d) = d ∷ []

-- where the files are known, what is recorded is true
abbrev pub IsTrueWhereKnown : PlanView → Option Folder → Closed → Type 0
IsTrueWhereKnown p None d = Unit {0}
IsTrueWhereKnown p (Some files) d = IsTrueOn p files d

abbrev pub IsDrivenAt : PlanView → Option Folder → ℕ → Closed → Result Unit Stop → Type 0
IsDrivenAt p known number d (Ok _) = IsTrueWhereKnown p known d
IsDrivenAt p known number d (Err (stop.Differs n o)) = (n ≡ number) × (¬ IsHonest d.outcome o) × IsValueOf p known d.unit o
IsDrivenAt p known number d (Err (stop.ReadFault u)) = u ≡ d.unit
IsDrivenAt p known number d (Err stop.NoMemory) = Unit {0}

-- nothing is done where nothing was closed; else there was one read
abbrev pub IsDrivenIf : {F : Type 0} → (F → F → Type 0) → PlanView → Option Folder → ℕ → F → F → Option Closed → Result Unit Stop → Type 0
IsDrivenIf keeps p known number old new None (Ok x) = new ≡ old
IsDrivenIf keeps p known number old new None (Err s) = ⊥
IsDrivenIf keeps p known number old new (Some d) r = keeps old new × IsDrivenAt p known number d r

-- what driving an entry again says, by what it closes
abbrev pub HasDrivenEntry : {F : Type 0} → (F → F → Type 0) → PlanView → Option Folder → ℕ → Entry → F → F → Result Unit Stop → Type 0
HasDrivenEntry keeps p known number e old new r = (o : Option Closed) × (closing_at e ≡ closed_list o) × IsDrivenIf keeps p known number old new o r
