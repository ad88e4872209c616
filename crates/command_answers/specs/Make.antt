-- What the command `make` answers.
use Rattle.std.specs.Prelude.{◌≡◌, ◌⊎◌, ℕ, List, []}
use Rattle.file_access.specs.SinkView.{SinkView, Wrote, Broke}
use Rattle.generated_plan.specs.Made.{made}
use Rattle.command_words.specs.declared.commands.MakeWords.{MakeWords}
use Rattle.command_answers.specs.declared.status.Status.{Status}
use Rattle.command_answers.specs.declared.status.Status.TheVariants.{Passed, SinkFault, NoMemory}

-- the plan that is made from a number, for a file, was written whole; or the sink failed, and has its beginning
abbrev pub HasMade : ℕ → List ℕ → SinkView → SinkView → Status → Type 0
HasMade seed file old new Passed = Wrote old new (made seed file)
HasMade seed file old new SinkFault = Broke old new (made seed file)
HasMade seed file old new _ = ⊥

-- so it was with the number and the file that the words ask for; or there was no memory to read the words, and nothing was written
abbrev pub MakeAnswered : MakeWords → SinkView → SinkView → Status → Type 0
MakeAnswered asked old new status = ((status ≡ NoMemory) × Wrote old new []) ⊎ HasMade asked.seed asked.file old new status
