-- The reply in the bytes of an answer.
use Rattle.std.specs.Prelude.{◌≡◌, ℕ, List, Option, Result, Err}
use Rattle.item_actions.specs.declared.keep_alive.KeepAlive.{KeepAlive}
use Rattle.daemon_protocol.specs.declared.frames.Reply.{Reply}
use Rattle.daemon_protocol.specs.StreamStart.{look}
use Rattle.file_access.specs.declared.files.DeskFail.{DeskFail}
use Rattle.file_access.specs.declared.files.DeskFail.TheVariants.{NoMemory}
use Rattle.daemon_desk.specs.Replies.{reply_to}

-- what the bytes are for the request of this unit and mode: the reply that they begin with, or none, if there was memory to look
abbrev pub IsReplyIn : ℕ → Option KeepAlive → List ℕ → Result Reply DeskFail → Type 0
IsReplyIn unit keep bytes (Err NoMemory) = Unit {0}
IsReplyIn unit keep bytes result = result ≡ reply_to unit keep (look bytes)
