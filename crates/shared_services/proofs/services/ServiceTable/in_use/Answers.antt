use Rattle.std.proofs.Common.{◌≡◌, ◌+◌, ◌-◌, true, false, ◌∙◌, slice_range, arith}
use Rattle.shared_services.specs.Services.{users_in}
use Rattle.shared_services.proofs.lemmas.Owners.{few_in_range, users_from}
use Rattle.shared_services.proofs.services.ServiceTable.in_use.Goals as goal

pub overflow_add-count : goal.overflow_add-count
overflow_add-count c =
    let few = few_in_range c.args.state.now.owners c.loop-lock.lock (c.first_lock-first.result + c.maximum.result) c.loop-lock.count c.loop-lock.auto.lock c.loop-lock.invariant.1 in
    omega (arith, few, c.loop-lock-test.true, c.maximum.ensures.maximum, c.first_lock-first.ensures.within, c.first_lock-first.ensures.few)

pub loop-lock-preserved-then-is_last_use : goal.loop-lock-preserved-then-is_last_use
loop-lock-preserved-then-is_last_use c = (
  omega (arith, c.loop-lock-test.true, c.first_lock-first.ensures.first),
  users_from c.args.state.now.owners (c.loop-lock.lock - 1) c.loop-lock.lock (c.first_lock-first.result + c.maximum.result) c.loop-lock.count true
      (omega (arith, c.loop-lock-test.true)) (omega (arith, c.loop-lock-test.true, c.loop-lock.auto.lock))
      (omega (arith, c.maximum.ensures.maximum, c.first_lock-first.ensures.within, c.requires.locks)) c.loop-lock.invariant.1 c.if-is_last_use.ensures,
)

pub loop-lock-preserved : goal.loop-lock-preserved
loop-lock-preserved c = (
  omega (arith, c.loop-lock-test.true, c.first_lock-first.ensures.first),
  users_from c.args.state.now.owners (c.loop-lock.lock - 1) c.loop-lock.lock (c.first_lock-first.result + c.maximum.result) c.loop-lock.count false
      (omega (arith, c.loop-lock-test.true)) (omega (arith, c.loop-lock-test.true, c.loop-lock.auto.lock))
      (omega (arith, c.maximum.ensures.maximum, c.first_lock-first.ensures.within, c.requires.locks)) c.loop-lock.invariant.1 c.if-is_last_use.ensures,
)

pub returns : goal.returns
returns c =
    let first = c.first_lock-first.ensures.first in
    let at : c.loop-lock.lock ≡ c.first_lock-first.result = omega (arith, c.loop-lock-test.false, c.loop-lock.invariant.0, first) in
    c.loop-lock.invariant.1 ∙ (λ k. users_in (slice_range c.args.state.now.owners ((at ∙ first) k) (first k + c.maximum.ensures.maximum k)))
