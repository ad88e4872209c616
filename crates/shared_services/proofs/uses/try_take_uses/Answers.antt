use Rattle.std.proofs.Common.{rules}
use Rattle.shared_services.proofs.TakenUses.{has_taken, stopped_short}
use Rattle.shared_services.proofs.uses.try_take_uses.Goals as goal

pub unreachable-requires : goal.unreachable-requires
unreachable-requires g c = let short = stopped_short _ c.requires.may (c.in-Err-Stopped.ensures.stopped c.in-Err-Stopped.field-0-0 (search rules)) in cc (short.0)

pub returns-in-Ok-true-clause-taken : goal.returns-in-Ok-true-clause-taken
returns-in-Ok-true-clause-taken g c = λ _. has_taken c.requires.may (c.in-Ok-true.ensures.finished (search rules))
