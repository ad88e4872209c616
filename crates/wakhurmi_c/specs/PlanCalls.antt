-- What the calls that make a plan leave, by their answers.
use Rattle.std.specs.Prelude.{ℕ, ◌≡◌, ◌==◌, Bool, true, false, List, length, Option, Some, None, if◌then◌else◌}
use Rattle.lock_journal.specs.Names.{Retention, Retain, Release, ReleaseAndReacquire}
use Rattle.planned_work.specs.Plans.{WhyNoAction, WhyNoNames, WhyNoPlan, WhyNoTask, WorkPlanView, empty_plan, lock_in, with_action, with_names, with_task}
use Rattle.planned_work.specs.declared.plans.PlanRefusal.{PlanRefusal}
use Rattle.planned_work.specs.declared.plans.PlannedAction.{PlannedAction}
use Rattle.wakhurmi_c.specs.PlanNumbers.{NOBODY, refused_as}
use Rattle.wakhurmi_c.specs.declared.plan_answers.PlanAnswer.{PlanAnswer}
use Rattle.wakhurmi_c.specs.declared.plan_answers.PlanAnswer.TheVariants.{Done, BadNumber, Full, NoMemory}
use Rattle.wakhurmi_c.specs.declared.plan_handles.PlanHandle.{PlanHandle}

-- the lock of this number, or none for that of no lock
abbrev pub lock_asked : ℕ → Option ℕ
lock_asked n = if n == NOBODY then None else Some n

-- the retention of this number, if there is one
abbrev pub retention_at : ℕ → Option Retention
retention_at n = if n == 0 then Some Retain else if n == 1 then Some Release else if n == 2 then Some ReleaseAndReacquire else None

-- the call was refused for a cause of the plan's, which is as it was
abbrev pub IsRefused : {P : Type 0} → (PlanRefusal → Type 0) → P → P → PlanAnswer → Type 0
IsRefused Why old new answer = (new ≡ old) × (refusal : PlanRefusal) × (answer ≡ refused_as refusal) × Why refusal

abbrev pub MakesPlan : ℕ → PlanHandle → PlanHandle → PlanAnswer → Type 0
MakesPlan locks old new Done = (old.full ≡ false) × (new.full ≡ true) × (new.held.plan ≡ empty_plan locks)
MakesPlan locks old new Full = (new ≡ old) × (old.full ≡ true)
MakesPlan locks old new NoMemory = new ≡ old
MakesPlan locks old new answer = IsRefused (WhyNoPlan locks) old new answer

abbrev pub AddsTask : ℕ → WorkPlanView → WorkPlanView → ℕ → PlanAnswer → Type 0
AddsTask lock old new task Done = (task ≡ length old.tasks) × (new ≡ with_task (lock_in old (lock_asked lock)) old)
AddsTask lock old new task answer = IsRefused (WhyNoTask old (lock_asked lock)) old new answer

abbrev pub AddsNames : ℕ → List ℕ → WorkPlanView → WorkPlanView → PlanAnswer → Type 0
AddsNames task before old new Done = new ≡ with_names task before old
AddsNames task before old new answer = IsRefused (WhyNoNames old task before) old new answer

abbrev pub planned_action : Retention → ℕ → Bool → PlannedAction
planned_action r items fetch = record { retention = r; fetch = fetch; items = items }

-- the numbers that C gives name an action, which was added, or refused for a cause of the plan's
abbrev pub AddsActionOf : Option Retention → ℕ → ℕ → Bool → WorkPlanView → WorkPlanView → PlanAnswer → Type 0
AddsActionOf None task items fetch old new answer = (new ≡ old) × (answer ≡ BadNumber)
AddsActionOf (Some r) task items fetch old new Done = new ≡ with_action task (planned_action r items fetch) old
AddsActionOf (Some r) task items fetch old new answer = IsRefused (WhyNoAction old task (planned_action r items fetch)) old new answer

abbrev pub AddsAction : ℕ → ℕ → ℕ → Bool → WorkPlanView → WorkPlanView → PlanAnswer → Type 0
AddsAction task retention items fetch old new answer = AddsActionOf (retention_at retention) task items fetch old new answer
