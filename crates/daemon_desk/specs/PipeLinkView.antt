-- A link over a sink and a source, and what its calls do to both.
use Rattle.std.specs.Prelude.{◌≡◌, List, ℕ, Option, None, Some, Result, Ok, Err}
use Rattle.daemon_protocol.specs.Spelling.{spelling}
use Rattle.daemon_protocol.specs.declared.frames.Frame.{Frame}
use Rattle.daemon_protocol.specs.declared.frames.Frame.TheVariants as frames
use Rattle.daemon_protocol.specs.declared.frames.Reply.{Reply}
use Rattle.daemon_protocol.specs.declared.frames.Request.{Request}
use Rattle.daemon_protocol.specs.declared.limits.TheConstants.{MAX_FRAME_BYTES}
use Rattle.daemon_protocol.specs.declared.starts.StreamStart.{StreamStart}
use Rattle.file_access.specs.SinkView.{SinkView, Wrote, Broke}
use Rattle.file_access.specs.SourceView.{SourceView}
use Rattle.file_access.specs.declared.files.DeskFail.{DeskFail}
use Rattle.file_access.specs.declared.files.DeskFail.TheVariants.{Failed, NoMemory}
use Rattle.daemon_desk.specs.LinkView.{LinkView}
use Rattle.daemon_desk.specs.Replies.{reply_to}
use Rattle.daemon_desk.specs.Taking.{TakesFrame}

-- what requests are written to, and what replies are read from
pub record PipesView : Type 0 where
  pub input : SinkView
  pub output : SourceView

-- the link, and its pipes until they are closed
pub record PipeLinkView : Type 0 where
  pub link : LinkView
  pub pipes : Option PipesView

-- A frame was written whole, or a beginning of it where the sink failed. Where there was no memory nothing was.
abbrev pub Puts : PipesView → PipesView → Frame → Result Unit DeskFail → Type 0
Puts old new frame (Ok _) = Wrote old.input new.input (spelling frame) × (new.output ≡ old.output)
Puts old new frame (Err Failed) = Broke old.input new.input (spelling frame) × (new.output ≡ old.output)
Puts old new frame (Err NoMemory) = new ≡ old

-- the answer by what was taken of a reply's frame
abbrev pub answer_in : Request → Result StreamStart DeskFail → Result Reply DeskFail
answer_in request (Ok start) = reply_to request.unit request.keep start
answer_in request (Err fail) = Err fail

-- The bytes of one frame were taken, and the answer is the reply in it.
pub record Hears (old new : PipesView) (request : Request) (result : Result Reply DeskFail) : Type 0 where
  pub held : List ℕ
  pub start : Result StreamStart DeskFail
  pub taken : TakesFrame old.output new.output MAX_FRAME_BYTES held start
  pub answer : result ≡ answer_in request start
  pub input : new.input ≡ old.input

-- what asking over a link did to its pipes
abbrev pub Asks : Option PipesView → Option PipesView → Request → Result Unit DeskFail → Type 0
Asks (Some old) (Some new) request result = Puts old new (frames.Request request) result
Asks None None request result = result ≡ Err Failed
Asks _ _ request result = ⊥

-- what waiting for the reply did to them
abbrev pub IsHeard : Option PipesView → Option PipesView → Option Request → Result Reply DeskFail → Type 0
IsHeard (Some old) (Some new) (Some request) result = Hears old new request result
IsHeard (Some old) (Some new) None result = (new ≡ old) × (result ≡ Err Failed)
IsHeard None None waiting result = result ≡ Err Failed
IsHeard _ _ waiting result = ⊥
