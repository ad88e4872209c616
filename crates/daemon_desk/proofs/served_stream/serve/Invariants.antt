use Rattle.daemon_desk.specs.Serving.{IsServing}
use Rattle.daemon_desk.proofs.served_stream.serve.Given as goal

abbrev pub invariant-loop-len : goal.invariant-loop-len
invariant-loop-len g l = IsServing
    (record { source = g.S.Source.seen l.fn.source; sink = g.K.Sink.seen l.fn.sink; files = g.F.Files.files l.fn.files; faults = g.F.Files.faults l.fn.files })
    (record { source = g.S.Source.seen l.source; sink = g.K.Sink.seen l.sink; files = g.F.Files.files l.files; faults = g.F.Files.faults l.files })
    l.room

abbrev pub decreases-loop-len : goal.decreases-loop-len
decreases-loop-len g l = l.room
