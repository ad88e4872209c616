-- all are in order if those that are left are, from the lowest number on that may come
use Rattle.std.proofs.Common.{◌≡◌, ◌&&◌, drop, nat_lt}
use Rattle.std.specs.List.{list_all}
use Rattle.lock_transforms.specs.Taking.{rises}
use Rattle.wakhurmi_c.specs.Locks.{locks_of}
use Rattle.wakhurmi_c.specs.Places.{are_in_order}
use Rattle.wakhurmi_c.proofs.asking.are_in_order.Given as goal

abbrev pub invariant-loop-number : goal.invariant-loop-number
invariant-loop-number l =
    let rest = locks_of (drop l.number-index l.numbers) in
    are_in_order (locks_of l.numbers) l.locks ≡ (rises l.low rest && list_all (λ k. nat_lt k.0 l.locks) rest)
