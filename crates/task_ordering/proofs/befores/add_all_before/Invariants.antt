use Rattle.std.proofs.Common.{◌≡◌, take, Contains}
use Rattle.ready_work.specs.Rank.{lists_of}
use Rattle.task_ordering.specs.Befores.{AddsPairs, HasBoth}
use Rattle.task_ordering.proofs.befores.add_all_before.Given as goal

abbrev pub invariant-loop-first : goal.invariant-loop-first
invariant-loop-first l =
    AddsPairs (lists_of l.initial.befores.items) (lists_of l.befores.items) (λ a b. HasBoth l.to_run a b × Contains (take l.first-index l.firsts) a × (b ≡ l.second))
