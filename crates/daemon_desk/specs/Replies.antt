-- A daemon's reply to a request.
use Rattle.std.specs.Prelude.{◌≡◌, ◌≢◌, ◌==◌, ◌&&◌, ℕ, Bool, true, false, Option, None, Some, IfSome, Result, Ok, Err, if◌then◌else◌}
use Rattle.item_actions.specs.Files.{Folder}
use Rattle.item_actions.specs.Value.{IsHonest, value_on}
use Rattle.item_actions.specs.declared.keep_alive.KeepAlive.{KeepAlive}
use Rattle.item_actions.specs.declared.keep_alive.KeepAlive.TheVariants.{Session, Daemon}
use Rattle.item_actions.specs.declared.outcomes.Outcome.{Outcome}
use Rattle.item_actions.specs.declared.outcomes.Outcome.TheVariants.{Fault, Skipped}
use Rattle.daemon_protocol.specs.declared.frames.Frame.TheVariants as frames
use Rattle.daemon_protocol.specs.declared.frames.Reply.{Reply}
use Rattle.daemon_protocol.specs.declared.frames.Request.{Request}
use Rattle.daemon_protocol.specs.declared.starts.StreamStart.{StreamStart}
use Rattle.daemon_protocol.specs.declared.starts.StreamStart.TheVariants.{Whole}
use Rattle.file_access.specs.declared.files.DeskFail.{DeskFail}
use Rattle.file_access.specs.declared.files.DeskFail.TheVariants.{Failed}

-- what a daemon may tell of a request that it worked out
abbrev pub is_told : Outcome → Bool
is_told Fault = false
is_told Skipped = false
is_told _ = true

-- whether two frames are of one version and in one mode
abbrev pub is_same_mode : Option KeepAlive → Option KeepAlive → Bool
is_same_mode None None = true
is_same_mode (Some Session) (Some Session) = true
is_same_mode (Some Daemon) (Some Daemon) = true
is_same_mode _ _ = false

-- the reply that stands at the start of an answer, where it is for this unit, of this version and mode, and tells no fault
abbrev pub reply_to : ℕ → Option KeepAlive → StreamStart → Result Reply DeskFail
reply_to unit keep (Whole (frames.Reply r) n) = if r.unit == unit && is_same_mode r.keep keep && is_told r.outcome then Ok r else Err Failed
reply_to unit keep _ = Err Failed

-- A reply is for the request's unit, of its version and mode, and tells no fault. Where the files are known it tells the request's value, or that there
-- was no memory.
pub record IsReplyTo (known : Option Folder) (request : Request) (reply : Reply) : Type 0 where
  pub unit : reply.unit ≡ request.unit
  pub keep : reply.keep ≡ request.keep
  pub ran : reply.outcome ≢ Skipped
  pub worked : reply.outcome ≢ Fault
  pub honest : IfSome known (λ files. IsHonest reply.outcome (value_on files request.action request.file))
