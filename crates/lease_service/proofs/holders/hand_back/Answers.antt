use Rattle.std.proofs.Common.{rules}
use Rattle.lease_service.proofs.HandingBack.{never_stopped, shows_given_back}
use Rattle.lease_service.proofs.holders.hand_back.Goals as goal

pub unreachable-requires-in-Err-Stopped : goal.unreachable-requires-in-Err-Stopped
unreachable-requires-in-Err-Stopped g c = never_stopped c.requires.claimed c.requires.not_blocked c.requires.something (c.in-Err-Stopped.ensures.stopped c.in-Err-Stopped.field-0-0 (search rules))

pub returns-in-Ok-true-clause-given_back : goal.returns-in-Ok-true-clause-given_back
returns-in-Ok-true-clause-given_back g c = shows_given_back (c.in-Ok-true.ensures.finished (search rules))
