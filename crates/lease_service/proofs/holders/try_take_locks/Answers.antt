use Rattle.std.proofs.Common.{rules}
use Rattle.lease_service.proofs.Taking.{shows_taken, stopped_short}
use Rattle.lease_service.proofs.holders.try_take_locks.Goals as goal

pub unreachable-requires : goal.unreachable-requires
unreachable-requires g c = let short = stopped_short _ c.args.locks.now c.requires.may (c.in-Err-Stopped.ensures.stopped c.in-Err-Stopped.field-0-0 (search rules)) in cc (short.0)

pub returns-in-Ok-true-clause-taken : goal.returns-in-Ok-true-clause-taken
returns-in-Ok-true-clause-taken g c = λ _. shows_taken c.args.locks.now (c.in-Ok-true.ensures.finished (search rules))
