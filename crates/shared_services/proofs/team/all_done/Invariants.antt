use Rattle.std.proofs.Common.{◌≡◌, take}
use Rattle.std.specs.List.{flat_map}
use Rattle.shared_services.proofs.team.all_done.Given as goal

-- what the workers so far have run stands in the list
abbrev pub invariant-loop-worker : goal.invariant-loop-worker
invariant-loop-worker g l = l.done.items ≡ flat_map (λ w. w.done.items) (take l.worker-index l.team)
