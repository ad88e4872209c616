use Rattle.std.proofs.Common.{All, drop}
use Rattle.daemon_requirements.specs.Covers.{Covers}
use Rattle.daemon_manager.proofs.idle.IdleDaemons.last_covering.Given as goal

abbrev pub invariant-loop-place : goal.invariant-loop-place
invariant-loop-place g l = All (λ i. ¬ Covers (g.L.Linked.requirements i.link) l.asked) (drop l.place l.self)
