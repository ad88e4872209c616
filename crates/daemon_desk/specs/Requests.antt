-- The request in a frame, if it is one.
use Rattle.std.specs.Prelude.{Option, Some, None}
use Rattle.daemon_protocol.specs.declared.frames.Frame.{Frame}
use Rattle.daemon_protocol.specs.declared.frames.Frame.TheVariants as frames
use Rattle.daemon_protocol.specs.declared.frames.Request.{Request}

abbrev pub request_in : Frame → Option Request
request_in (frames.Request r) = Some r
request_in _ = None
