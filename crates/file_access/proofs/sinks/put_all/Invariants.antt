use Rattle.std.proofs.Common.{◌≡◌, ℕ, List, ◌++◌, length}
use Rattle.file_access.specs.SinkView.{Wrote}
use Rattle.file_access.proofs.sinks.put_all.Given as goal

abbrev pub invariant-loop-rest : goal.invariant-loop-rest
invariant-loop-rest g l = (front : List ℕ) × (l.piece ≡ front ++ l.rest) × Wrote (g.K.Sink.seen l.fn.sink) (g.K.Sink.seen l.sink) front

abbrev pub decreases-loop-rest : goal.decreases-loop-rest
decreases-loop-rest g l = length l.rest
