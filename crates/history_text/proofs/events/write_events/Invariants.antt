use Rattle.std.proofs.Common.{take, ◌++◌, codes, decimal, length}
use Rattle.std.specs.List.{flat_map}
use Rattle.file_access.specs.PageView.{Adds}
use Rattle.history_text.specs.Events.{event_text}
use Rattle.history_text.proofs.events.write_events.Given as goal

abbrev pub invariant-loop-event : goal.invariant-loop-event
invariant-loop-event g l =
    Adds (g.K.Sink.seen l.fn.sink) l.fn.page (g.K.Sink.seen l.sink) l.page (codes "daemons " ++ decimal (length l.events) ++ codes "\n" ++ flat_map event_text (take l.event-index l.events))
