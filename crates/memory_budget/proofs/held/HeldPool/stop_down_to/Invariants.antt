use Rattle.std.proofs.Common.{◌+◌, ◌≤◌, length, vec_capacity, vec_len}
use Rattle.memory_budget.specs.Heaps.{held}
use Rattle.memory_budget.specs.Limits.{KeepsWithin}
use Rattle.memory_budget.proofs.Stopping.{StopsSoFar}
use Rattle.memory_budget.proofs.held.HeldPool.stop_down_to.Given as goal

-- each daemon that was stopped so far had to be stopped, there is room for the links of the others, and no more was held at any moment
abbrev pub invariant-loop-self : goal.invariant-loop-self
invariant-loop-self g l =
    StopsSoFar g.L.Linked.requirements l.initial.self l.self l.most_mb l.links.items
    × (vec_len l.links + length l.self.idle ≤ vec_capacity l.links)
    × (held l.self.events ≤ held l.initial.self.events)
    × KeepsWithin (held l.initial.self.events) l.initial.self.events l.self.events

-- each turn stops one
abbrev pub decreases-loop-self : goal.decreases-loop-self
decreases-loop-self g l = length l.self.idle
