use Rattle.std.proofs.Common.{◌≡◌}
use Rattle.budgeted_daemons.proofs.working.run_share.Given as goal

-- the pass is of the same service and worker
abbrev pub invariant-loop-unit : goal.invariant-loop-unit
invariant-loop-unit g l = (l.pass.service ≡ l.initial.pass.service) × (l.pass.sight.worker ≡ l.initial.pass.sight.worker)
