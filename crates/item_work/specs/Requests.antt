-- What is sent for an item.
use Rattle.std.specs.Prelude.{◌≡◌, ◌⊎◌, ◌≢◌, ℕ, List, Option, None, Some, Result, Ok, Err}
use Rattle.item_actions.specs.declared.keep_alive.KeepAlive.{KeepAlive}
use Rattle.item_actions.specs.declared.outcomes.Outcome.{Outcome}
use Rattle.item_actions.specs.declared.outcomes.Outcome.TheVariants.{Fault, NoMemory}
use Rattle.daemon_requirements.specs.RequirementsView.{RequirementsView}
use Rattle.daemon_requirements.specs.Covers.{Covers}
use Rattle.daemon_requirements.specs.declared.work.Isolation.{Isolation}
use Rattle.daemon_requirements.specs.declared.work.Isolation.TheVariants.{InThread, Process}
use Rattle.daemon_requirements.specs.declared.work.Work.{Work}
use Rattle.daemon_protocol.specs.declared.frames.Request.{Request}
use Rattle.file_access.specs.Calls.{next}
use Rattle.file_access.specs.declared.files.DeskFail.{DeskFail}
use Rattle.daemon_desk.specs.declared.sent.SentRequest.{SentRequest}
use Rattle.daemon_desk.specs.Sent.{and_sent, sent_over}

-- how many requests a desk sent, and which, where they are known
pub record SentView : Type 0 where
  pub count : ℕ
  pub requests : Option (List SentRequest)

-- one more request was sent, over a link that is made for requirements that cover those asked
pub record SendsOne (old new : SentView) (asked : RequirementsView) (request : Request) : Type 0 where
  pub made_for : RequirementsView
  pub covers : Covers made_for asked
  pub count : new.count ≡ next old.count
  pub requests : new.requests ≡ and_sent old.requests (sent_over made_for request)

-- the request was sent, or nothing was
abbrev pub SendsOneOrNone : SentView → SentView → RequirementsView → Request → Type 0
SendsOneOrNone old new asked request = SendsOne old new asked request ⊎ (new ≡ old)

-- what asking a daemon sends, by its answer
abbrev pub Asks : {T : Type 0} → SentView → SentView → RequirementsView → Request → Result T DeskFail → Type 0
Asks old new asked request (Ok _) = SendsOne old new asked request
Asks old new asked request (Err _) = SendsOneOrNone old new asked request

-- the item was worked out
abbrev pub IsReal : Outcome → Type 0
IsReal outcome = (outcome ≢ Fault) × (outcome ≢ NoMemory)

-- the keep-alive mode of what is asked, if a daemon is
abbrev pub mode_of : Isolation → Option KeepAlive
mode_of InThread = None
mode_of (Process asked) = Some asked.keep

-- a unit's request: its action and its file, and the mode that is asked for
abbrev pub request_for : ℕ → Work → Request
request_for unit work = record { unit = unit; action = work.action; file = work.file; keep = mode_of work.isolation }

-- what is sent for an item that a daemon works out: at most one request, and one where the outcome is real
abbrev pub Sends : RequirementsView → SentView → SentView → Request → Outcome → Type 0
Sends asked old new request outcome =
    SendsOneOrNone old new asked request × (IsReal outcome → SendsOne old new asked request)
