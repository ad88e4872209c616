-- What the command `check` answers.
use Rattle.std.specs.Prelude.{◌≡◌, ◌⊎◌, ℕ, List, [], Result, Ok, Err}
use Rattle.file_access.specs.SinkView.{SinkView, Wrote}
use Rattle.plan_reader.specs.PlanView.{PlanView}
use Rattle.history_check.specs.Checking.{HasChecked}
use Rattle.history_check.specs.declared.checks.Checked.{Checked}
use Rattle.history_check.specs.declared.checks.Checked.TheVariants as checked
use Rattle.history_check.specs.declared.fails.CheckFail.{CheckFail}
use Rattle.history_check.specs.declared.fails.CheckFail.TheVariants as fails
use Rattle.daemon_desk.specs.Serving.{Outside}
use Rattle.command_answers.specs.Causes.{IsFileOf, IsFileCause}
use Rattle.command_answers.specs.Lines.{lawful_line}
use Rattle.command_answers.specs.Told.{IsLineOf, IsToldAs, IsRefusedFor}
use Rattle.command_answers.specs.declared.status.Status.{Status}
use Rattle.command_answers.specs.declared.status.Status.TheVariants.{Passed, SourceFault, NotLawful, NoMemory}

-- the line of what was found was written, or the sink failed in it; for want of memory nothing was written
abbrev pub IsFoundTold : Result Checked CheckFail → SinkView → SinkView → Status → Type 0
IsFoundTold (Ok (checked.Lawful n)) old new status = IsLineOf Passed (lawful_line n) old new status
IsFoundTold (Ok (checked.NotLawful n)) old new status = IsToldAs (NotLawful n) old new status
IsFoundTold (Err fails.SourceFault) old new status = IsToldAs SourceFault old new status
IsFoundTold (Err fails.NoMemory) old new status = (status ≡ NoMemory) × Wrote old new []

-- The input was checked against the plan that the file of this name is, and what was found was told.
pub record HasCheckedInput (name : List ℕ) (old new : Outside) (status : Status) : Type 0 where
  pub plan : PlanView
  pub named : IsFileOf old.files name plan
  pub found : Result Checked CheckFail
  pub checked : HasChecked plan old.source new.source found
  pub told : IsFoundTold found old.sink new.sink status

-- There was no memory, or no plan was read, for a cause that was written. Nothing was taken from the input.
pub record HasNotChecked (name : List ℕ) (old new : Outside) (status : Status) : Type 0 where
  pub source : new.source ≡ old.source
  pub refused : IsRefusedFor (IsFileCause old.files old.faults new.faults name) old.sink new.sink status

abbrev pub HasCheckedHistory : List ℕ → Outside → Outside → Status → Type 0
HasCheckedHistory name old new status = HasNotChecked name old new status ⊎ HasCheckedInput name old new status
