-- What the answering of one request does.
use Rattle.std.specs.Prelude.{ℕ, ◌≡◌, Option, Result, Ok, Err}
use Rattle.item_actions.specs.Files.{Folder}
use Rattle.item_actions.specs.declared.outcomes.Outcome.{Outcome}
use Rattle.daemon_protocol.specs.declared.frames.Frame.{Frame}
use Rattle.daemon_protocol.specs.declared.frames.Request.{Request}
use Rattle.daemon_protocol.specs.Spelling.{spelling, FrameFits}
use Rattle.file_access.specs.SinkView.{SinkView, Wrote, Broke}
use Rattle.daemon_desk.specs.Answer.{Answer, reply, IsWorkedOut}
use Rattle.daemon_desk.specs.declared.served_stream.Served.{Served}
use Rattle.daemon_desk.specs.declared.served_stream.Served.TheVariants.{SinkFault, NoMemory}

abbrev pub answer_of : Request → Outcome → Answer
answer_of r outcome = record { request = r; outcome = outcome }

-- the frame was written, or the sink failed in it, or there was no memory for it
abbrev pub Writes : {A : Type 0} → Frame → SinkView → SinkView → Result A Served → Type 0
Writes f old new (Ok _) = FrameFits f × Wrote old new (spelling f)
Writes f old new (Err SinkFault) = FrameFits f × Broke old new (spelling f)
Writes f old new (Err NoMemory) = new ≡ old
Writes f old new (Err _) = ⊥

-- the reply was written, or the sink failed in it, or there was no memory for it
abbrev pub AnswersAs : {A : Type 0} → Option Folder → ℕ → ℕ → SinkView → SinkView → Request → Result A Served → Type 0
AnswersAs known before after old new r (Ok _) = (o : Outcome) × IsWorkedOut known before after (answer_of r o)
    × Wrote old new (spelling (reply (answer_of r o)))
AnswersAs known before after old new r (Err SinkFault) = (o : Outcome) × IsWorkedOut known before after (answer_of r o)
    × Broke old new (spelling (reply (answer_of r o)))
AnswersAs known before after old new r (Err NoMemory) = new ≡ old
AnswersAs known before after old new r (Err _) = ⊥
