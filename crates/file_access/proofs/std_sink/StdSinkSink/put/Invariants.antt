use Rattle.std.proofs.Common.{◌≡◌}
use Rattle.std.specs.Io.KnownBytes.{Keeps}
use Rattle.file_access.proofs.std_sink.StdSinkSink.put.Given as goal

abbrev pub invariant-loop-taken : goal.invariant-loop-taken
invariant-loop-taken g l = record {
  bytes : Keeps l.fn.self.taken (g.W.Write.contents l.self-inside.writer);
  faults : l.self-inside.faults ≡ l.fn.self.faults;
}

abbrev pub decreases-loop-taken : goal.decreases-loop-taken
decreases-loop-taken g l = l.retries.left
