-- pass and view are still of the service
use Rattle.std.proofs.Common.{◌≡◌, Some}
use Rattle.history_views_tests.proofs.turn_tests.are_whole.Given as goal

abbrev pub invariant-loop : goal.invariant-loop
invariant-loop g l = record {
  pass : l.pass.service ≡ l.service.service;
  view : l.service.service.ledger ≡ Some l.view.ledger;
}
