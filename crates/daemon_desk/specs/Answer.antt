-- A request that was answered.
use Rattle.std.specs.Prelude.{ℕ, ◌≡◌, ◌≢◌, List, Option, IfSome, flat_map}
use Rattle.item_actions.specs.Files.{Folder}
use Rattle.item_actions.specs.Value.{IsHonest, value_on}
use Rattle.item_actions.specs.declared.outcomes.Outcome.{Outcome}
use Rattle.item_actions.specs.declared.outcomes.Outcome.TheVariants.{Skipped}
use Rattle.daemon_protocol.specs.declared.frames.Request.{Request}
use Rattle.daemon_protocol.specs.declared.frames.Frame.{Frame}
use Rattle.daemon_protocol.specs.declared.frames.Frame.TheVariants as frames
use Rattle.daemon_protocol.specs.Spelling.{spelling, OutcomeFits}
use Rattle.file_access.specs.ReadView.{IsOutcomeCounted}

-- a request, and the outcome in its reply
pub record Answer : Type 0 where
  pub request : Request
  pub outcome : Outcome

abbrev pub asked : Answer → Frame
asked a = frames.Request a.request

abbrev pub reply : Answer → Frame
reply a = frames.Reply record { unit = a.request.unit; outcome = a.outcome; keep = a.request.keep }

-- the bytes of the replies, one after the other
abbrev pub replies : List Answer → List ℕ
replies answers = flat_map (λ a. spelling (reply a)) answers

-- Each request is worked out, and its outcome fits the bytes of a reply. Where the files are known, it is the request's value,
-- or a fault or want of memory.
pub record IsHonestAnswer (known : Option Folder) (a : Answer) : Type 0 where
  pub ran : a.outcome ≢ Skipped
  pub fits : OutcomeFits a.outcome
  pub honest : IfSome known (λ files. IsHonest a.outcome (value_on files a.request.action a.request.file))

-- A request was worked out while the count of the files' faults went from before to after.
pub record IsWorkedOut (known : Option Folder) (before after : ℕ) (a : Answer) : Type 0 where
  pub honest : IsHonestAnswer known a
  pub counted : IsOutcomeCounted before after a.outcome
