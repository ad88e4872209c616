-- What entering a blocking section and leaving it leave.
use Rattle.std.specs.Prelude.{◌≡◌, false, None}
use Rattle.lock_transforms.specs.Allowed.{IsFixedList, IsUnmet}
use Rattle.lock_transforms.specs.declared.entries.Kind.TheVariants as kinds
use Rattle.coordination.specs.Calls.{HasFinished, HasLooked}
use Rattle.coordination.specs.declared.rule.Sight.{Sight}
use Rattle.planned_work.specs.Done.{TakeUpLeaves}
use Rattle.planned_work.specs.Places.{may_enter, may_leave, place_of}
use Rattle.planned_work.specs.Trying.{HasToWaitFor, InBook}
use Rattle.planned_work.specs.declared.answers.Answer.{Answer}
use Rattle.planned_work.specs.declared.answers.Answer.TheVariants as answers

abbrev pub EnterLeaves : Sight → Sight → Answer → Type 0
EnterLeaves old new answers.Done = HasFinished (kinds.Block None) (IsFixedList (kinds.Block None)) old new
EnterLeaves old new answers.Again = new ≡ old
EnterLeaves old new answers.NoMemory = HasLooked old new
EnterLeaves old new answers.Misused = (new ≡ old) × (may_enter old ≡ false)
EnterLeaves old new answers.Stuck = HasToWaitFor (InBook (IsUnmet (kinds.Block None))) old new
EnterLeaves old new _ = ⊥

abbrev pub LeaveLeaves : Sight → Sight → Answer → Type 0
LeaveLeaves old new answers.Misused = (new ≡ old) × (may_leave (place_of old) ≡ false)
LeaveLeaves old new answer = TakeUpLeaves None old new answer
