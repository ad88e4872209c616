-- What is sent and read for an item, by where it runs.
use Rattle.std.specs.Prelude.{◌≡◌, ◌≢◌, ℕ, List, Option, None, IfSome, true}
use Rattle.item_actions.specs.Forms.{is_file_name}
use Rattle.item_actions.specs.declared.outcomes.Outcome.{Outcome}
use Rattle.item_actions.specs.declared.outcomes.Outcome.TheVariants.{Fault}
use Rattle.daemon_requirements.specs.declared.work.Isolation.{Isolation}
use Rattle.daemon_requirements.specs.declared.work.Isolation.TheVariants.{InThread, Process}
use Rattle.daemon_protocol.specs.declared.frames.Request.{Request}
use Rattle.daemon_requirements.specs.RequirementsView.{RequirementsView}
use Rattle.file_access.specs.ReadView.{and_read}
use Rattle.item_work.specs.Requests.{SentView, Sends}

-- the file of an item in a process has the form of a file's name
abbrev pub IsNamedFor : Isolation → List ℕ → Type 0
IsNamedFor InThread file = Unit {0}
IsNamedFor (Process asked) file = is_file_name file ≡ true

-- an item in a process may ask for the daemon that it asks for
abbrev pub MayAskFor : (RequirementsView → Type 0) → Isolation → Type 0
MayAskFor may InThread = Unit {0}
MayAskFor may (Process asked) = may asked

-- the file of an item in the worker's own thread is read once, and no file here for one in a process
abbrev pub ReadsFileFor : Isolation → Option ℕ → Option ℕ → Type 0
ReadsFileFor InThread old new = new ≡ and_read old
ReadsFileFor (Process asked) old new = new ≡ old

-- nothing is sent for an item in the worker's own thread, and for one in a process what is sent to a daemon
abbrev pub SendsFor : Isolation → SentView → SentView → Request → Outcome → Type 0
SendsFor InThread old new request outcome = new ≡ old
SendsFor (Process asked) old new request outcome = Sends asked old new request outcome

-- no daemon is left to stop behind an item in the worker's own thread, and behind one in a process only where it is no fault
abbrev pub SparesFor : {L : Type 0} → Isolation → Option L → Outcome → Type 0
SparesFor InThread spare outcome = spare ≡ None
SparesFor (Process asked) spare outcome = IfSome spare (λ _. outcome ≢ Fault)
