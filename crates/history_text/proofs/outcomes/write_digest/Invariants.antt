use Rattle.std.proofs.Common.{take}
use Rattle.std.specs.List.{flat_map}
use Rattle.file_access.specs.PageView.{Adds}
use Rattle.history_text.specs.Text.{hex_text}
use Rattle.history_text.proofs.outcomes.write_digest.Given as goal

abbrev pub invariant-loop-byte : goal.invariant-loop-byte
invariant-loop-byte g l = Adds (g.K.Sink.seen l.fn.sink) l.fn.page (g.K.Sink.seen l.sink) l.page (flat_map hex_text (take l.byte-index l.digest))
