-- What the other calls of a pool within a budget change.
use Rattle.std.specs.Prelude.{◌≡◌, ◌⊎◌, ℕ, List, Some, slice_get, remove, Contains}
use Rattle.daemon_requirements.specs.RequirementsView.{RequirementsView}
use Rattle.daemon_manager.specs.Calls.{Adopts}
use Rattle.daemon_manager.specs.declared.reserved.Reserved.{Reserved}
use Rattle.memory_budget.specs.declared.permits.Permit.{Permit}
use Rattle.memory_budget.specs.declared.permits.OpenPermit.{OpenPermit}
use Rattle.memory_budget.specs.declared.rooms.Unadopted.{Unadopted}
use Rattle.memory_budget.specs.declared.rooms.Unadopted.TheVariants.{NotOut, NoMemory}
use Rattle.memory_budget.specs.BudgetView.{BudgetView, IsOut, open_permit}

-- one permit like this was taken away
pub record TakesOne (old new : List OpenPermit) (permit : OpenPermit) : Type 0 where
  pub place : ℕ
  pub there : slice_get old place ≡ Some permit
  pub others : new ≡ remove old place

-- the permit isn't out any more, if it was
abbrev pub TakesBack : List OpenPermit → List OpenPermit → Permit → Type 0
TakesBack old new permit = TakesOne old new (open_permit permit) ⊎ ((¬ Contains old (open_permit permit)) × (new ≡ old))

module _ {L : Type 0} where
  -- the permit isn't out any more
  pub record GivesUp (old new : BudgetView L) (permit : Permit) : Type 0 where
    pub taken : TakesOne old.permits new.permits (open_permit permit)
    pub pool : new.pool ≡ old.pool
    pub budget : new.budget_mb ≡ old.budget_mb

  -- the permit was given up; one that isn't out in this pool changes nothing
  abbrev pub GivesUpOrNot : BudgetView L → BudgetView L → Permit → Type 0
  GivesUpOrNot old new permit = GivesUp old new permit ⊎ ((¬ IsOut old permit) × (new ≡ old))

  -- the permit and the link come back
  abbrev pub HandsBack : BudgetView L → Permit → L → Unadopted L → Type 0
  HandsBack old permit link (NotOut p l) = (¬ IsOut old permit) × (p ≡ permit) × (l ≡ link)
  HandsBack old permit link (NoMemory p l) = IsOut old permit × (p ≡ permit) × (l ≡ link)

-- The daemon was started with what the permit is for, and reserved for its unit. The permit is spent.
pub record Spends {L : Type 0} (made_for : L → RequirementsView) (old new : BudgetView L) (permit : Permit) (link : L) (r : Reserved L) : Type 0 where
  pub adopted : Adopts made_for old.pool new.pool link permit.requirements permit.unit r
  pub taken : TakesOne old.permits new.permits (open_permit permit)
  pub budget : new.budget_mb ≡ old.budget_mb
