-- the passes are still of the same service
use Rattle.std.proofs.Common.{◌≡◌}
use Rattle.std.specs.List.{All}
use Rattle.coordination_tests.proofs.giving_tests.take_rest.Given as goal

abbrev pub invariant-loop-pass : goal.invariant-loop-pass
invariant-loop-pass g l = All (λ p. p.service ≡ l.service.service) l.pass-items
