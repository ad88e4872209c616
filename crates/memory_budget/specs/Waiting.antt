-- What comes of waiting for room, and of an item within a budget.
use Rattle.std.specs.Prelude.{◌≡◌, ◌≢◌, ◌<◌, ◌≤◌, ℕ, Bool, true}
use Rattle.item_actions.specs.declared.outcomes.Outcome.{Outcome}
use Rattle.item_actions.specs.declared.outcomes.Outcome.TheVariants.{Fault}
use Rattle.daemon_requirements.specs.RequirementsView.{RequirementsView}
use Rattle.daemon_requirements.specs.Covers.{Covers}
use Rattle.daemon_requirements.specs.declared.work.Isolation.{Isolation}
use Rattle.daemon_requirements.specs.declared.work.Isolation.TheVariants.{InThread, Process}
use Rattle.daemon_protocol.specs.declared.frames.Request.{Request}
use Rattle.file_access.specs.ReadView.{IsOutcomeCounted}
use Rattle.item_work.specs.Requests.{SentView, Sends}
use Rattle.item_work.specs.Tallying.{TallyRises, one_if_unreal}
use Rattle.daemon_manager.specs.Counts.{TallyView}
use Rattle.memory_budget.specs.declared.rooms.Room.{Room}
use Rattle.memory_budget.specs.declared.rooms.Room.TheVariants.{Idle, Start, Over as NoRoom}
use Rattle.memory_budget.specs.declared.counted_budget.CountedPermit.{CountedPermit}
use Rattle.memory_budget.specs.declared.runs.Budgeted.{Budgeted}
use Rattle.memory_budget.specs.declared.runs.Budgeted.TheVariants.{Done, Over}

-- a daemon that covers what is asked, with a settled link, reserved for the unit, or a permit to start one with just this, for the unit
abbrev pub IsRoomFor : {L U : Type 0} → (L → RequirementsView) → (L → Bool) → RequirementsView → ℕ → Room L (CountedPermit U) → Type 0
IsRoomFor made_for settled asked unit (Idle reserved) = (reserved.unit ≡ unit) × Covers (made_for reserved.link) asked × (settled reserved.link ≡ true)
IsRoomFor made_for settled asked unit (Start permit links) = (permit.permit.unit ≡ unit) × (permit.permit.requirements ≡ asked)
IsRoomFor made_for settled asked unit (NoRoom firm_mb) = ⊥

-- the item runs in a process
abbrev pub AsksProcess : Isolation → Type 0
AsksProcess InThread = ⊥
AsksProcess (Process asked) = Unit {0}

-- what holds of the outcome, if the item was run
abbrev pub IfDone : Budgeted → (Outcome → Type 0) → Type 0
IfDone (Done outcome) P = P outcome
IfDone (Over heap_mb) P = Unit {0}

-- the item was run, and is no fault
abbrev pub IsAnswered : Budgeted → Type 0
IsAnswered (Done outcome) = outcome ≢ Fault
IsAnswered (Over heap_mb) = ⊥

-- the count of faults rises by one where the item was a fault, and at no other answer
abbrev pub IsCountedWithin : ℕ → ℕ → Budgeted → Type 0
IsCountedWithin old new (Done outcome) = IsOutcomeCounted old new outcome
IsCountedWithin old new (Over heap_mb) = new ≡ old

-- what an item asks for is told where it is over the budget, and only then
abbrev pub IsOverExactly : RequirementsView → ℕ → Budgeted → Type 0
IsOverExactly asked budget_mb (Done outcome) = asked.heap_mb ≤ budget_mb
IsOverExactly asked budget_mb (Over heap_mb) = (heap_mb ≡ asked.heap_mb) × (budget_mb < heap_mb)

-- nothing is sent for an item that asks for too much, and for another what is sent to a daemon
abbrev pub SendsWithin : RequirementsView → SentView → SentView → Request → Budgeted → Type 0
SendsWithin asked old new request (Done outcome) = Sends asked old new request outcome
SendsWithin asked old new request (Over heap_mb) = new ≡ old

-- nothing is counted for an item that asks for too much, and for another what its daemon adds
abbrev pub TalliesWithin : TallyView → TallyView → ℕ → ℕ → Budgeted → Type 0
TalliesWithin old new sends_before sends_after (Done outcome) = TallyRises old new sends_before sends_after (one_if_unreal outcome)
TalliesWithin old new sends_before sends_after (Over heap_mb) = new ≡ old

-- the same, by where the item runs
abbrev pub IsOverFor : Isolation → ℕ → Budgeted → Type 0
IsOverFor InThread budget_mb result = ⊥
IsOverFor (Process asked) budget_mb result = IsOverExactly asked budget_mb result

abbrev pub SendsWithinFor : Isolation → SentView → SentView → Request → Budgeted → Type 0
SendsWithinFor InThread old new request result = ⊥
SendsWithinFor (Process asked) old new request result = SendsWithin asked old new request result
