use Rattle.std.proofs.Common.{length, ap, arith}
use Rattle.lock_transforms.proofs.Makings.{worked_from}
use Rattle.lock_transforms.proofs.Most.{few_listed}
use Rattle.lock_transforms.proofs.kinds.fixed.run_fixed.Goals as goal

pub returns-then-not-make-clause-worked : goal.returns-then-not-make-clause-worked
returns-then-not-make-clause-worked g c = worked_from c.requires.fresh c.make.ensures.made

pub returns-then-not-make-clause-few : goal.returns-then-not-make-clause-few
returns-then-not-make-clause-few g c = omega (arith, c.make.ensures.made.few, ap length c.requires.fresh, few_listed c.args.work.now.graph c.args.work.now.state c.args.work.now.worker (g.K.FixedKind.kind_of c.args.kind.now))

pub returns-clause-few : goal.returns-clause-few
returns-clause-few g c = omega (arith, c.make.ensures.made.few, ap length c.requires.fresh, few_listed c.args.work.now.graph c.args.work.now.state c.args.work.now.worker (g.K.FixedKind.kind_of c.args.kind.now))
