-- What a call comes to where nothing failed.
use Rattle.std.specs.Prelude.{ℕ, ◌≡◌, ◌-◌, ◌^◌, ◌<◌, ◌⊎◌, List, Option, None, Some, Ok, Bool, true, false}
use Rattle.std.specs.List.{AllByRecursion}
use Rattle.item_actions.specs.Files.{Folder, file_of}
use Rattle.item_actions.specs.Value.{value_on}
use Rattle.item_actions.specs.declared.outcomes.Outcome.TheVariants as outcome
use Rattle.lock_journal.specs.Names.{WorkerId, BookView, faults_by}
use Rattle.plan_reader.specs.PlanView.{PlanView}
use Rattle.command_words.specs.declared.commands.Command.{Command}
use Rattle.command_words.specs.declared.commands.Command.TheVariants.{Run, Worker, Check, Again, Make}
use Rattle.file_access.specs.SourceView.{SourceView}
use Rattle.history_check.specs.Driving.{DrivesInput}
use Rattle.history_check.specs.declared.again.Again.{Again as Came}
use Rattle.history_check.specs.declared.again.Again.TheVariants as again
use Rattle.plan_reader.specs.Reading.{Reads}
use Rattle.history_check.specs.Checking.{HasChecked}
use Rattle.history_check.specs.declared.checks.Checked.{Checked}
use Rattle.history_check.specs.declared.checks.Checked.TheVariants as checked
use Rattle.build_workers.specs.Desks.{DeskView}
use Rattle.daemon_desk.specs.Answer.{Answer}
use Rattle.daemon_desk.specs.Serving.{Outside, HasServed}
use Rattle.daemon_desk.specs.declared.served_stream.Served.{Served}
use Rattle.daemon_desk.specs.declared.served_stream.Served.TheVariants as ends
use Rattle.command_answers.specs.Around.{Call, at_first_desk, desks_used}
use Rattle.command_answers.specs.Answered.{all_pass, known_files, values_or_closings}
use Rattle.command_answers.specs.Again.{AnyRead}
use Rattle.command_answers.specs.Worker.{status_of}
use Rattle.command_answers.specs.declared.status.Status.{Status}
use Rattle.command_answers.specs.declared.status.Status.TheVariants.{Passed, TaskFailed, NotLawful, Differs, NoMemory}

-- a count of faults didn't rise
pub record MetNoFault (before after : ℕ) : Type 0 where
  pub same : after ≡ before
  pub below : before < 2 ^ 64 - 1

-- no count of the first so many did
abbrev pub MetNoFaults : ℕ → (ℕ → DeskView) → (ℕ → DeskView) → Type 0
MetNoFaults n before after = (i : ℕ) → i < n → MetNoFault (before i).faults (after i).faults

-- the file of this name is this plan
pub record HasPlan (name : List ℕ) (files : Folder) (plan : PlanView) : Type 0 where
  pub bytes : List ℕ
  pub file : file_of files name ≡ Some bytes
  pub reading : Reads bytes (Ok plan)

-- ---- a run

abbrev pub status_by : Bool → Status
status_by true = Passed
status_by false = TaskFailed

-- no unit was closed with Fault, by any worker
abbrev pub HasNoFault : BookView → Type 0
HasNoFault b = (w : WorkerId) → faults_by w b.history ≡ 0

-- The run ended, no unit was closed with Fault, and the status is that of the results; or there was no memory.
abbrev pub HasSucceeded : PlanView → Folder → Status → Option BookView → Type 0
HasSucceeded plan files status (Some b) = HasNoFault b × (status ≡ status_by (all_pass plan b.graph (values_or_closings plan (Some files) b.history)))
HasSucceeded plan files status None = status ≡ NoMemory

-- ---- a worker

-- a request was answered with its value, or for want of memory
abbrev pub HasValue : Folder → Answer → Type 0
HasValue files a = (a.outcome ≡ value_on files a.request.action a.request.file) ⊎ (a.outcome ≡ outcome.NoMemory)

-- serving ended as the frames say, or for want of memory
abbrev pub IsByFrames : Served → Type 0
IsByFrames ends.SourceFault = ⊥
IsByFrames ends.SinkFault = ⊥
IsByFrames _ = Unit {0}

-- each request that came was answered so, and serving ended so
pub record HasServedWell (files : Folder) (old new : Outside) (end : Served) : Type 0 where
  pub served : HasServed old new end
  pub values : AllByRecursion (HasValue files) served.answers
  pub by_frames : IsByFrames end

abbrev pub HasWorkedWell : Folder → Outside → Outside → Status → Type 0
HasWorkedWell files old new status = (end : Served) × HasServedWell files old new end × (status ≡ status_of end)

-- ---- a check

abbrev pub status_found : Checked → Status
status_found (checked.Lawful n) = Passed
status_found (checked.NotLawful n) = NotLawful n

-- the input was answered by this plan, and the status is that of the answer; or there was no memory
abbrev pub HasVerdict : PlanView → SourceView → SourceView → Status → Type 0
HasVerdict plan old new status = ((a : Checked) × HasChecked plan old new (Ok a) × (status ≡ status_found a)) ⊎ (status ≡ NoMemory)

-- ---- a recorded run

-- the status of what it comes to where each file was read
abbrev pub IsStatusAgain : Came → Status → Type 0
IsStatusAgain (again.Same b) status = status ≡ Passed
IsStatusAgain (again.NotLawful n) status = status ≡ NotLawful n
IsStatusAgain (again.Differs n o) status = status ≡ Differs n
IsStatusAgain (again.ReadFault u) status = ⊥

-- the run of the input was driven again by this plan and these files, and the status is that of what it came to; or there was no memory
abbrev pub HasComeAgain : PlanView → Folder → SourceView → SourceView → Status → Type 0
HasComeAgain plan files old new status = ((a : Came) × DrivesInput plan old new (Some files) AnyRead a × IsStatusAgain a status) ⊎ (status ≡ NoMemory)

-- ---- the call

-- where the files are known, of these files
abbrev pub OfKnown : Option Folder → (Folder → Type 0) → Type 0
OfKnown known P = (files : Folder) → known ≡ Some files → P files

-- by the command
abbrev pub Succeeds : Option Command → Call → Type 0
Succeeds None c = Unit {0}
Succeeds (Some (Run asked)) c = OfKnown (known_files asked c) (λ files. (plan : PlanView)
    → HasPlan asked.plan files plan → HasSucceeded plan files c.status c.book)
Succeeds (Some Worker) c = OfKnown (c.before.desks 0).files (λ files. MetNoFault c.before.source.faults c.after.source.faults
    → HasWorkedWell files (at_first_desk c.before) (at_first_desk c.after) c.status)
Succeeds (Some (Check name)) c = OfKnown (c.before.desks 0).files (λ files. MetNoFault c.before.source.faults c.after.source.faults
    → (plan : PlanView) → HasPlan name files plan → HasVerdict plan c.before.source c.after.source c.status)
Succeeds (Some (Again name)) c = OfKnown (c.before.desks 0).files (λ files. MetNoFault c.before.source.faults c.after.source.faults
    → (plan : PlanView) → HasPlan name files plan → HasComeAgain plan files c.before.source c.after.source c.status)
Succeeds (Some (Make asked)) c = (c.status ≡ Passed) ⊎ (c.status ≡ NoMemory)

-- where neither the desks that the command may use nor the sink met a fault
abbrev pub IsComplete : Option Command → Call → Type 0
IsComplete command c = MetNoFaults (desks_used command) c.before.desks c.after.desks
    → MetNoFault c.before.sink.faults c.after.sink.faults → Succeeds command c
