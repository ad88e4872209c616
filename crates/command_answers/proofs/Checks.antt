-- What is known of an input that was checked.
use Rattle.std.proofs.Common.{◌≤◌, Result, Ok, Err}
use Rattle.file_access.specs.SourceView.{SourceView}
use Rattle.plan_reader.specs.PlanView.{PlanView}
use Rattle.history_check.specs.Checking.{HasChecked}
use Rattle.history_check.specs.declared.checks.Checked.{Checked}
use Rattle.history_check.specs.declared.fails.CheckFail.{CheckFail}
use Rattle.history_check.specs.declared.fails.CheckFail.TheVariants as fails

-- its source's count of faults has not gone down
pub source_count : (plan : PlanView) (old new : SourceView) (found : Result Checked CheckFail) → HasChecked plan old new found → old.faults ≤ new.faults
source_count plan old new (Ok a) h = h.1.faults
source_count plan old new (Err fails.SourceFault) h = h.1.faults
source_count plan old new (Err fails.NoMemory) h = h.1.faults
