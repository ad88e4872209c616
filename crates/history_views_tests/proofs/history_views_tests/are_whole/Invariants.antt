use Rattle.std.proofs.Common.{◌≡◌}
use Rattle.history_views_tests.proofs.history_views_tests.are_whole.Given as goal

-- book and view are of the same ledgers still
abbrev pub invariant-loop-worker : goal.invariant-loop-worker
invariant-loop-worker g l = (l.shown.ledger ≡ l.initial.shown.ledger) × (l.view.ledger ≡ l.initial.view.ledger)
