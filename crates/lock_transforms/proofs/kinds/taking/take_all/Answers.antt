use Rattle.std.proofs.Common.{◌≡◌, ◌+◌, take, get_or, false, ◌∙◌, ap, subst, arith}
use Rattle.std.proofs.lemmas.List.Elements.{recursion_from_All}
use Rattle.resource_lock.specs.StateView.{Holding, has_parked, stands_in}
use Rattle.resource_lock.specs.declared.changes.Change.TheVariants.{Lock}
use Rattle.lock_transforms.specs.Making.{Makes}
use Rattle.lock_transforms.specs.Taking.{all_taken}
use Rattle.lock_transforms.proofs.Makings.{makes_answer, still_named}
use Rattle.lock_transforms.proofs.Taken.{can_all_taken, has_locks, holding_taken, next_lock, room_left, stopped_at, then_lease}
use Rattle.lock_transforms.proofs.kinds.taking.take_all.Goals as goal

pub lock-requires-clause-lock_in_range : goal.lock-requires-clause-lock_in_range
lock-requires-clause-lock_in_range c = still_named (Lock (get_or c.args.locks.now c.loop-lock.lock-index (record { 0 = 0 }))) c.loop-lock.invariant (c.requires.in_range c.loop-lock.lock-index _ c.loop-lock-test.true)

pub lock-requires-clause-not_parked : goal.lock-requires-clause-not_parked
lock-requires-clause-not_parked c = ap (λ (h : Holding). stands_in (get_or c.args.locks.now c.loop-lock.lock-index (record { 0 = 0 })) h.parked) (holding_taken (take c.loop-lock.lock-index c.args.locks.now) c.loop-lock.invariant) ∙ c.requires.not_parked c.loop-lock.lock-index _ c.loop-lock-test.true

pub lock-requires-clause-room : goal.lock-requires-clause-room
lock-requires-clause-room c = omega (arith, room_left c.args.locks.now c.loop-lock.lock-index (omega (arith, c.loop-lock-test.true)) c.loop-lock.invariant c.requires.room)

stopped : (c : goal.Then-not-lock) → Makes c.args.work.now c.lock.new.self (all_taken c.args.work.now.state c.args.work.now.worker c.args.locks.now) false
stopped c = stopped_at c.args.locks.now (c.loop-lock.lock-index + 1)
    (next_lock c.args.locks.now c.loop-lock.lock-index _ c.loop-lock-test.true c.loop-lock.invariant c.lock.ensures.good.all_alone
    (still_named (Lock (get_or c.args.locks.now c.loop-lock.lock-index (record { 0 = 0 }))) c.loop-lock.invariant (c.requires.in_range c.loop-lock.lock-index _ c.loop-lock-test.true))
    (ap (λ (h : Holding). stands_in (get_or c.args.locks.now c.loop-lock.lock-index (record { 0 = 0 })) h.parked) (holding_taken (take c.loop-lock.lock-index c.args.locks.now) c.loop-lock.invariant) ∙ c.requires.not_parked c.loop-lock.lock-index _ c.loop-lock-test.true)
    (omega (arith, room_left c.args.locks.now c.loop-lock.lock-index (omega (arith, c.loop-lock-test.true)) c.loop-lock.invariant c.requires.room))
    c.if-not-lock.ensures.answer c.lock.ensures.taken)

pub returns-then-not-lock-clause-answer : goal.returns-then-not-lock-clause-answer
returns-then-not-lock-clause-answer c = makes_answer (stopped c)
    ∙ can_all_taken c.args.work.now.state c.args.work.now.worker c.args.locks.now c.state.ensures.good.all_alone (recursion_from_All (λ l. has_parked c.args.work.now.state c.args.work.now.worker l ≡ false) c.args.locks.now c.requires.not_parked) c.requires.not_blocked

pub returns-then-not-lock-clause-taken : goal.returns-then-not-lock-clause-taken
returns-then-not-lock-clause-taken c = stopped c

pub loop-lock-preserved : goal.loop-lock-preserved
loop-lock-preserved c = next_lock c.args.locks.now c.loop-lock.lock-index _ c.loop-lock-test.true c.loop-lock.invariant c.lock.ensures.good.all_alone
    (still_named (Lock (get_or c.args.locks.now c.loop-lock.lock-index (record { 0 = 0 }))) c.loop-lock.invariant (c.requires.in_range c.loop-lock.lock-index _ c.loop-lock-test.true))
    (ap (λ (h : Holding). stands_in (get_or c.args.locks.now c.loop-lock.lock-index (record { 0 = 0 })) h.parked) (holding_taken (take c.loop-lock.lock-index c.args.locks.now) c.loop-lock.invariant) ∙ c.requires.not_parked c.loop-lock.lock-index _ c.loop-lock-test.true)
    (omega (arith, room_left c.args.locks.now c.loop-lock.lock-index (omega (arith, c.loop-lock-test.true)) c.loop-lock.invariant c.requires.room))
    c.if-not-lock.ensures.answer c.lock.ensures.taken

pub lease-requires-clause-not_blocked : goal.lease-requires-clause-not_blocked
lease-requires-clause-not_blocked c = ap (λ (h : Holding). h.blocked) (holding_taken (take c.loop-lock.lock-index c.args.locks.now) c.loop-lock.invariant) ∙ c.requires.not_blocked

pub lease-requires-clause-room : goal.lease-requires-clause-room
lease-requires-clause-room c = omega (arith, room_left c.args.locks.now c.loop-lock.lock-index (omega (arith, c.loop-lock-test.false)) c.loop-lock.invariant c.requires.room)

whole : (c : goal.After-lease) → Makes c.args.work.now c.lease.new.self (all_taken c.args.work.now.state c.args.work.now.worker c.args.locks.now) c.lease.result
whole c = then_lease c.args.locks.now c.loop-lock.lock-index (omega (arith, c.loop-lock-test.false)) c.loop-lock.invariant
    (ap (λ (h : Holding). h.blocked) (holding_taken (take c.loop-lock.lock-index c.args.locks.now) c.loop-lock.invariant) ∙ c.requires.not_blocked)
    (omega (arith, room_left c.args.locks.now c.loop-lock.lock-index (omega (arith, c.loop-lock-test.false)) c.loop-lock.invariant c.requires.room))
    c.lease.ensures.answer c.lease.ensures.taken

pub returns-clause-answer : goal.returns-clause-answer
returns-clause-answer c = makes_answer (whole c)
    ∙ can_all_taken c.args.work.now.state c.args.work.now.worker c.args.locks.now c.state.ensures.good.all_alone (recursion_from_All (λ l. has_parked c.args.work.now.state c.args.work.now.worker l ≡ false) c.args.locks.now c.requires.not_parked) c.requires.not_blocked

pub returns-clause-taken : goal.returns-clause-taken
returns-clause-taken c = whole c

pub returns-clause-locks : goal.returns-clause-locks
returns-clause-locks c = λ all. has_locks c.args.locks.now c.requires.in_range (subst (Makes c.args.work.now c.lease.new.self (all_taken c.args.work.now.state c.args.work.now.worker c.args.locks.now)) all (whole c))
