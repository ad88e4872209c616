use Rattle.std.proofs.Common.{◌≡◌, take, Contains}
use Rattle.ready_work.specs.Rank.{lists_of}
use Rattle.task_ordering.specs.Befores.{AddsPairs, HasBoth}
use Rattle.task_ordering.proofs.befores.add_before_all.Given as goal

abbrev pub invariant-loop-second : goal.invariant-loop-second
invariant-loop-second l =
    AddsPairs (lists_of l.initial.befores.items) (lists_of l.befores.items) (λ a b. HasBoth l.to_run a b × (a ≡ l.first) × Contains (take l.second-index l.seconds) b)
