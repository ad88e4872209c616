use Rattle.std.proofs.Common.{◌-◌, arith}
use Rattle.shared_services.proofs.lemmas.Owners.{any_at_last, any_from}
use Rattle.shared_services.proofs.services.owns_one_of.Goals as goal

pub loop-lock-preserved : goal.loop-lock-preserved
loop-lock-preserved c = (
  omega (arith, c.loop-lock-test.true),
  any_from c.args.state.now.owners c.args.worker (c.loop-lock.lock - 1) c.loop-lock.lock c.args.end c.loop-lock.found c.owns-found.result
      (omega (arith, c.loop-lock-test.true)) (omega (arith, c.loop-lock-test.true, c.loop-lock.auto.lock)) c.requires.within c.loop-lock.invariant.1 c.owns-found.ensures,
)

pub returns : goal.returns
returns c = any_at_last c.args.state.now.owners c.args.worker c.loop-lock.lock c.args.first c.args.end c.loop-lock.found (omega (arith, c.loop-lock-test.false, c.loop-lock.invariant.0)) c.loop-lock.invariant.1
