use Rattle.std.proofs.Common.{◌≡◌, true, subst, sym}
use Rattle.lock_journal.specs.Names.{StateView, IsLockOf, holding_of, stands_in, LockId}
use Rattle.worker_choices.proofs.next_steps.can_take_up.Goals as goal

-- a parked lock is one of the state
pub all_can_be_owned-requires-clause-locks : goal.all_can_be_owned-requires-clause-locks
all_can_be_owned-requires-clause-locks c =
    subst (λ (s : StateView). (l : LockId) → stands_in l (holding_of s c.args.worker).parked ≡ true → IsLockOf s l) (sym c.state.ensures.value)
    (λ l there. c.state.ensures.good.parked_locks c.args.worker l there)
