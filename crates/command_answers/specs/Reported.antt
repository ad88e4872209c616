-- How the printing of a run ends.
use Rattle.std.specs.Prelude.{◌≡◌, ℕ, List, Bool, true, false}
use Rattle.file_access.specs.SinkView.{SinkView, Wrote, Broke}
use Rattle.command_answers.specs.declared.status.Status.{Status}
use Rattle.command_answers.specs.declared.status.Status.TheVariants.{Passed, TaskFailed, SinkFault}

-- the whole text was written, or the sink failed
abbrev pub IsReported : Bool → SinkView → SinkView → List ℕ → Status → Type 0
IsReported passed old new text Passed = (passed ≡ true) × Wrote old new text
IsReported passed old new text TaskFailed = (passed ≡ false) × Wrote old new text
IsReported passed old new text SinkFault = Broke old new text
IsReported passed old new text _ = ⊥
