-- A desk in memory, and what its calls do to it.
use Rattle.std.specs.Prelude.{◌≡◌, ◌==◌, ℕ, List, [], ◌∷◌, ◌++◌, find, Bool, true, false, Option, None, Some, option_map, Result, Err, IfOk, MatchBool}
use Rattle.item_actions.specs.Files.{Folder}
use Rattle.daemon_protocol.specs.declared.frames.Reply.{Reply}
use Rattle.daemon_protocol.specs.declared.frames.Request.{Request}
use Rattle.file_access.specs.Calls.{next}
use Rattle.file_access.specs.declared.files.DeskFail.{DeskFail}
use Rattle.file_access.specs.declared.files.DeskFail.TheVariants.{Failed}
use Rattle.memory_files.specs.Calls.{CallsView, next_fails, after_call}
use Rattle.daemon_desk.specs.Replies.{IsReplyTo}
use Rattle.daemon_desk.specs.declared.sent.SentRequest.{SentRequest}
use Rattle.memory_desk.specs.Replies.{IsReplyIn}
use Rattle.memory_desk.specs.declared.lies.Lie.{Lie}

pub record MemoryDeskView : Type 0 where
  pub files : Folder
  pub lies : List Lie
  pub log : CallsView
  pub sends : ℕ
  pub sent : List SentRequest

-- the files, unless a lie may be told of them
abbrev pub told : List Lie → Folder → Option Folder
told [] files = Some files
told (lie ∷ lies) files = None

abbrev pub known_files : MemoryDeskView → Option Folder
known_files desk = told desk.lies desk.files

-- the desk after one more call
abbrev pub called : Bool → MemoryDeskView → MemoryDeskView
called failed desk = record desk { log = after_call failed desk.log }

-- a call that gave this answer failed
abbrev pub is_fault : {T : Type 0} → Result T DeskFail → Bool
is_fault (Err Failed) = true
is_fault _ = false

-- the desk with one more request sent
abbrev pub and_sends : MemoryDeskView → SentRequest → MemoryDeskView
and_sends desk one = record desk { sends = next desk.sends; sent = desk.sent ++ one ∷ [] }

-- the bytes that are told at the call of this number in place of a daemon's answer, if a lie is told at it
abbrev pub lie_at : ℕ → List Lie → Option (List ℕ)
lie_at number lies = option_map (λ lie. lie.bytes.items) (find (λ lie. lie.call == number) lies)

-- a lie is answered with the reply that it begins with; and a daemon that serves on the files gives a reply to the request, or none
abbrev pub IsAnswerBy : Folder → Request → Option (List ℕ) → Result Reply DeskFail → Type 0
IsAnswerBy files request (Some lie) result = IsReplyIn request.unit request.keep lie result
IsAnswerBy files request None result = IfOk result (IsReplyTo (Some files) request)

-- What is received: nothing where no request waits, and where the call fails by its number; else what the lie at this call is, or what
-- the daemon answers.
abbrev pub IsReceived : MemoryDeskView → Option Request → Result Reply DeskFail → Type 0
IsReceived desk None result = result ≡ Err Failed
IsReceived desk (Some request) result =
    MatchBool (next_fails desk.log) (result ≡ Err Failed) (IsAnswerBy desk.files request (lie_at desk.log.made desk.lies) result)
