use Rattle.std.proofs.Common.{◌-◌, length, rules, sym, arith}
use Rattle.std.specs.Prelude.{nat_lt}
use Rattle.std.proofs.lemmas.List.Sorted.{IsPartitionPoint-from_clause, IsPartitionedBy-ltb}
use Rattle.std.proofs.lemmas.Map.Keys.{non_decreasing_from_sorted}
use Rattle.run_picture.proofs.Placed.{count_is}
use Rattle.run_picture.proofs.lock_rows.lanes_below.Goals as goal

pub returns-clause-is : goal.returns-clause-is
returns-clause-is c =
    let n = c.args.lane in
    let xs = c.args.lanes.now in
    let place = c.partition_point.result in
    let point =
    IsPartitionPoint-from_clause (λ m. nat_lt m n) xs place c.partition_point.ensures.partitioned
    (IsPartitionedBy-ltb (λ m. m) xs n (non_decreasing_from_sorted xs c.requires)) (λ a r q k. search rules) in
    sym (count_is (λ m. nat_lt m n) xs place (length xs - place) 0 (omega (arith, c.partition_point.ensures.bound)) point)
