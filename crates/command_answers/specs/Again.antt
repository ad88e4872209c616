-- What the command `again` answers.
use Rattle.std.specs.Prelude.{◌≡◌, ◌≤◌, ◌⊎◌, ℕ, List, [], length, Result, Ok, Err}
use Rattle.lock_transforms.specs.declared.entries.Closed.{Closed}
use Rattle.file_access.specs.SinkView.{SinkView, Wrote}
use Rattle.plan_reader.specs.PlanView.{PlanView}
use Rattle.history_check.specs.declared.fails.CheckFail.{CheckFail}
use Rattle.history_check.specs.declared.fails.CheckFail.TheVariants as fails
use Rattle.history_check.specs.Driving.{HasDriven, IsAgainCounted, ReadsFor}
use Rattle.history_check.specs.declared.again.Again.{Again}
use Rattle.history_check.specs.declared.again.Again.TheVariants as again
use Rattle.daemon_desk.specs.Serving.{Outside}
use Rattle.command_answers.specs.Causes.{IsFileOf, IsFileCause}
use Rattle.command_answers.specs.Lines.{same_line}
use Rattle.command_answers.specs.Told.{IsLineOf, IsToldAs, IsRefusedFor}
use Rattle.command_answers.specs.declared.status.Status.{Status}
use Rattle.command_answers.specs.declared.status.Status.TheVariants.{Passed, SourceFault, NotLawful, Differs, FileFault, NoMemory}

-- the line of what the run came to was written, or the sink failed in it; for want of memory nothing was written
abbrev pub IsAgainTold : Result Again CheckFail → SinkView → SinkView → Status → Type 0
IsAgainTold (Ok (again.Same b)) old new status = IsLineOf Passed (same_line (length b.history)) old new status
IsAgainTold (Ok (again.NotLawful n)) old new status = IsToldAs (NotLawful n) old new status
IsAgainTold (Ok (again.Differs n o)) old new status = IsToldAs (Differs n) old new status
IsAgainTold (Ok (again.ReadFault u)) old new status = IsToldAs (FileFault u) old new status
IsAgainTold (Err fails.SourceFault) old new status = IsToldAs SourceFault old new status
IsAgainTold (Err fails.NoMemory) old new status = (status ≡ NoMemory) × Wrote old new []

-- any number of files was read
abbrev pub AnyRead : List Closed → Type 0
AnyRead ds = Unit {0}

-- The run of the input was driven again by the plan that the file of this name is, and what it came to was told. After
-- the plan was read, a read that failed ended it.
pub record HasDrivenInput (name : List ℕ) (old new : Outside) (status : Status) : Type 0 where
  pub plan : PlanView
  pub named : IsFileOf old.files name plan
  pub found : Result Again CheckFail
  pub driven : HasDriven plan old.source new.source old.files AnyRead found
  pub read_at : ℕ
  pub kept : old.faults ≤ read_at
  pub counted : IsAgainCounted read_at new.faults found
  pub told : IsAgainTold found old.sink new.sink status

-- There was no memory, or no plan was read, for a cause that was written. Nothing was taken from the input.
pub record HasNotDriven (name : List ℕ) (old new : Outside) (status : Status) : Type 0 where
  pub source : new.source ≡ old.source
  pub refused : IsRefusedFor (IsFileCause old.files old.faults new.faults name) old.sink new.sink status

abbrev pub HasDrivenHistory : List ℕ → Outside → Outside → Status → Type 0
HasDrivenHistory name old new status = HasNotDriven name old new status ⊎ HasDrivenInput name old new status

-- the plan was read, and then files, each as a read leaves what it leaves
abbrev pub HasOnlyRead : {F : Type 0} → (F → F → Type 0) → F → F → Type 0
HasOnlyRead {F} keeps old new = (between : F) × keeps old between × (ds : List Closed) × ReadsFor keeps between new ds
