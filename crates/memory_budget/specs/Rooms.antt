-- What a pool answers to who asks for room.
use Rattle.std.specs.Prelude.{◌≡◌, ◌-◌, ◌+◌, ◌<◌, ◌≤◌, ℕ, Bool, true, List, [], ◌∷◌, ◌++◌, All}
use Rattle.daemon_requirements.specs.RequirementsView.{RequirementsView}
use Rattle.daemon_requirements.specs.Covers.{Covers}
use Rattle.daemon_manager.specs.Calls.{Reserves}
use Rattle.daemon_manager.specs.PoolView.{PoolView}
use Rattle.memory_budget.specs.declared.permits.Permit.{Permit}
use Rattle.memory_budget.specs.declared.rooms.Room.{Room}
use Rattle.memory_budget.specs.declared.rooms.Room.TheVariants.{Idle, Start, Over}
use Rattle.memory_budget.specs.BudgetView.{BudgetView, firm, open_permit, permitted}
use Rattle.memory_budget.specs.Stops.{StopsShortest}

-- only the daemons changed
pub record KeepsPermits {L : Type 0} (old new : BudgetView L) : Type 0 where
  pub permits : new.permits ≡ old.permits
  pub budget : new.budget_mb ≡ old.budget_mb

module _ {L : Type 0} (made_for : L → RequirementsView) where
  -- no idle daemon covers what is asked
  abbrev pub NoneCovers : PoolView L → RequirementsView → Type 0
  NoneCovers p asked = All (λ i. ¬ Covers (made_for i.link) asked) p.idle

  -- There is no room, not even without all idle daemons, and nothing changed.
  pub record IsOver (old new : BudgetView L) (asked : RequirementsView) (firm_mb : ℕ) : Type 0 where
    pub none : NoneCovers old.pool asked
    pub firm : firm_mb ≡ firm old
    pub over : old.budget_mb < firm_mb + asked.heap_mb
    pub same : new ≡ old

  -- A daemon may be started: the shortest run of idle daemons was stopped that makes room for it.
  pub record GivesPermit (old new : BudgetView L) (asked : RequirementsView) (unit : ℕ) (permit : Permit) (links : List L) : Type 0 where
    pub none : NoneCovers old.pool asked
    pub room : firm old + asked.heap_mb ≤ old.budget_mb
    pub for_unit : permit.unit ≡ unit
    pub for_asked : permit.requirements ≡ asked
    pub stops : StopsShortest made_for old.pool new.pool (old.budget_mb - (permitted old.permits + asked.heap_mb)) links
    pub permits : new.permits ≡ old.permits ++ open_permit permit ∷ []
    pub budget : new.budget_mb ≡ old.budget_mb

  abbrev pub MakesRoom : BudgetView L → BudgetView L → RequirementsView → ℕ → Room L Permit → Type 0
  MakesRoom old new asked unit (Idle reserved) = Reserves made_for old.pool new.pool asked unit reserved × KeepsPermits old new
  MakesRoom old new asked unit (Start permit links) = GivesPermit old new asked unit permit links.items
  MakesRoom old new asked unit (Over firm_mb) = IsOver old new asked firm_mb

-- the link of a daemon that was idle is settled
abbrev pub IsSettledRoom : {L P : Type 0} → (L → Bool) → Room L P → Type 0
IsSettledRoom settled (Idle reserved) = settled reserved.link ≡ true
IsSettledRoom settled (Start permit links) = Unit {0}
IsSettledRoom settled (Over firm_mb) = Unit {0}
