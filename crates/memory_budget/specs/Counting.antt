-- What a counted pool answers, and what its answers count.
use Rattle.std.specs.Prelude.{◌≡◌, ◌⊎◌}
use Rattle.daemon_requirements.specs.RequirementsView.{RequirementsView}
use Rattle.daemon_manager.specs.Counts.{TallyView, and_reserved}
use Rattle.daemon_manager.specs.declared.reserved.Reserved.{Reserved}
use Rattle.memory_budget.specs.declared.counted_budget.CountedPermit.{CountedPermit}
use Rattle.memory_budget.specs.declared.permits.Permit.{Permit}
use Rattle.memory_budget.specs.declared.rooms.Room.{Room}
use Rattle.memory_budget.specs.declared.rooms.Room.TheVariants.{Idle, Start, Over}
use Rattle.memory_budget.specs.BudgetView.{BudgetView, IsOut}
use Rattle.memory_budget.specs.Calls.{Spends}

-- the room, with the permit that it is of
abbrev pub plain_room : {L U : Type 0} → Room L (CountedPermit U) → Room L Permit
plain_room (Idle reserved) = Idle reserved
plain_room (Start permit links) = Start permit.permit links
plain_room (Over firm_mb) = Over firm_mb

-- an idle daemon is counted, and a permit isn't yet
abbrev pub after_room : {L P : Type 0} → TallyView → Room L P → TallyView
after_room tally (Idle reserved) = and_reserved tally
after_room tally (Start permit links) = tally
after_room tally (Over firm_mb) = tally

-- the permit is spent; one that isn't out changes nothing, and its daemon is no pool's, for the same unit
abbrev pub AdoptsOrAlone : {L : Type 0} → (L → RequirementsView) → BudgetView L → BudgetView L → Permit → L → Reserved L → Type 0
AdoptsOrAlone made_for old new permit link r =
    Spends made_for old new permit link r ⊎ ((¬ IsOut old permit) × (new ≡ old) × (r.unit ≡ permit.unit) × (r.link ≡ link))

-- the permit and the link come back
abbrev pub ComesBack : {L P : Type 0} → P → L → P × L → Type 0
ComesBack permit link back = (back.0 ≡ permit) × (back.1 ≡ link)
