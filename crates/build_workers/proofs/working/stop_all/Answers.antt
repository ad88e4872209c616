use Rattle.std.proofs.Common.{[]}
use Rattle.build_workers.specs.Kept.{HasClosed}
use Rattle.build_workers.proofs.Keeping.{stop_closes}
use Rattle.build_workers.proofs.Stepping.{moves_from, of_fields, with_pass}
use Rattle.build_workers.proofs.working.stop_all.Goals as goal

pub returns-clause-moves : goal.returns-clause-moves
returns-clause-moves g c = moves_from c.worker.view_is (with_pass c.stop_all.ensures.service)

pub returns-clause-closed : goal.returns-clause-closed
returns-clause-closed g c = of_fields (λ s. HasClosed [] s c.stop_all.new.pass.sight) c.worker.view_is (stop_closes c.stop_all.ensures.stopped)
