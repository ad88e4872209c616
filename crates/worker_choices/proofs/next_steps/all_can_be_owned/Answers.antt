use Rattle.std.proofs.Common.{rules, tests}
use Rattle.std.proofs.lemmas.Iterator.{YieldsList-from_slice}
use Rattle.std.proofs.lemmas.Iterator.Adapters.{serves_from_places}
use Rattle.resource_lock.specs.StateView.{IsLockOf, holding_of}
use Rattle.worker_choices.proofs.Parked.{parked_at}
use Rattle.worker_choices.proofs.next_steps.all_can_be_owned.Goals as goal

-- at each turn the lock is one that the worker has parked
pub all-requires-clause-callable : goal.all-requires-clause-callable
all-requires-clause-callable c =
    serves_from_places (YieldsList-from_slice c.parked.result.now cc) (λ x q k. search (rules, tests))
    (λ x k lt at. let lock : IsLockOf c.args.state.now x.now = c.requires.locks x.now (parked_at c.parked.result.now (holding_of c.args.state.now c.args.worker).parked x.now k c.parked.ensures lt at) in search (rules, tests))
