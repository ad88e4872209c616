use Rattle.std.proofs.Common.{◌≤◌, ◌++◌, List, length, drop}
use Rattle.run_spans.specs.Steps.{Step, steps_of}
use Rattle.run_spans.specs.Tail.{IsTail}
use Rattle.run_spans.proofs.spans.Tail.take_changes.Given as goal

-- the steps of the changes from here on were taken
abbrev pub invariant-loop-left : goal.invariant-loop-left
invariant-loop-left l = record {
  within : l.left ≤ length l.changes;
  taken : (xs : List Step) → IsTail l.end xs l.fn.self → IsTail l.end (steps_of l.entry l.worker (drop l.left l.changes) ++ xs) l.self;
}

abbrev pub decreases-loop-left : goal.decreases-loop-left
decreases-loop-left l = l.left
