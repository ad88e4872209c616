use Rattle.std.proofs.Common.{length, ap, arith}
use Rattle.memory_budget_tests.proofs.run_tests.stop_all_idle.Goals as goal

pub loop-link-smaller : goal.loop-link-smaller
loop-link-smaller g c = omega (arith, ap (λ l. length l) c.in-Some.ensures.stopped.first)
