-- all rise if those that are left do, from the lowest number on that may come
use Rattle.std.proofs.Common.{◌≡◌, drop}
use Rattle.lock_transforms.specs.Taking.{rises}
use Rattle.state_tests.proofs.many_workers_tests.do_rise.Given as goal

abbrev pub invariant-loop-lock : goal.invariant-loop-lock
invariant-loop-lock l = rises 0 l.locks ≡ rises l.low (drop l.lock-index l.locks)
