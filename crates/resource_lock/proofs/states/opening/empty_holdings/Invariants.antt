use Rattle.std.proofs.Common.{◌≡◌, ◌≤◌, replicate, map, All, vec_capacity}
use Rattle.resource_lock.specs.Holdings.{holding_from}
use Rattle.resource_lock.specs.Counting.{no_counts}
use Rattle.resource_lock.specs.StateView.{empty_holding}
use Rattle.resource_lock.proofs.states.opening.empty_holdings.Given as goal

abbrev pub invariant-loop : goal.invariant-loop
invariant-loop l = record {
  empty : map holding_from l.all.items ≡ replicate l.counter empty_holding;
  counts : map (λ h. h.counts) l.all.items ≡ replicate l.counter no_counts;
  room : All (λ h. l.locks ≤ vec_capacity h.parked) l.all.items;
}
