-- How a line is told.
use Rattle.std.specs.Prelude.{◌≡◌, ◌⊎◌, ℕ, List, []}
use Rattle.file_access.specs.SinkView.{SinkView, Wrote, Broke}
use Rattle.command_answers.specs.Lines.{line_of}
use Rattle.command_answers.specs.declared.status.Status.{Status}
use Rattle.command_answers.specs.declared.status.Status.TheVariants.{SinkFault, NoMemory}

-- the line was written, and this is the status; or the sink failed in it
abbrev pub IsLineOf : Status → List ℕ → SinkView → SinkView → Status → Type 0
IsLineOf given line old new status = ((status ≡ given) × Wrote old new line) ⊎ ((status ≡ SinkFault) × Broke old new line)

-- the line of a refusal was written, or the sink failed in it
abbrev pub IsToldAs : Status → SinkView → SinkView → Status → Type 0
IsToldAs refusal old new status = IsLineOf refusal (line_of refusal) old new status

-- there was no memory, and nothing was written; or a refusal was written that has its cause
abbrev pub IsRefusedFor : (Status → Type 0) → SinkView → SinkView → Status → Type 0
IsRefusedFor IsCause old new status = ((status ≡ NoMemory) × Wrote old new []) ⊎ ((refusal : Status) × IsCause refusal × IsToldAs refusal old new status)
