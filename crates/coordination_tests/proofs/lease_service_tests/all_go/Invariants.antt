use Rattle.std.proofs.Common.{◌≡◌, length}
use Rattle.std.specs.List.{All}
use Rattle.coordination_tests.proofs.lease_service_tests.all_go.Given as goal

-- each pass is still one of three locks, of the same service
abbrev pub invariant-loop-turn : goal.invariant-loop-turn
invariant-loop-turn g l =
    All (λ p. p.service ≡ l.service.service) l.passes × All (λ p. p.sight.seen.graph.locks ≡ 3) l.passes × (length l.passes ≡ 2)
