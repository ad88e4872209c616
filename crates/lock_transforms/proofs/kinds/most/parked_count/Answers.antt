use Rattle.std.proofs.Common.{ap, length, arith}
use Rattle.lock_transforms.proofs.TakenUp.{few_parked}
use Rattle.lock_transforms.proofs.kinds.most.parked_count.Goals as goal

pub returns-clause-few : goal.returns-clause-few
returns-clause-few c = omega (arith, few_parked c.requires.belongs c.leases_out.ensures.good c.args.worker, ap length c.parked.ensures)
