-- what the passes and views that are left are of
use Rattle.std.proofs.Common.{◌≡◌, Some}
use Rattle.std.specs.List.{All}
use Rattle.history_views_tests.proofs.looking_tests.players.Given as goal

abbrev pub invariant-loop : goal.invariant-loop
invariant-loop g l = record {
  passes : All (λ p. p.service ≡ l.service.service) l.passes.items;
  views : All (λ v. l.service.service.ledger ≡ Some v.ledger) l.views.items;
}
