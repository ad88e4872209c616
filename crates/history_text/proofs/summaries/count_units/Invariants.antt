use Rattle.std.proofs.Common.{◌≡◌}
use Rattle.std.specs.List.{count_by}
use Rattle.item_actions.specs.Value.{passes}
use Rattle.lock_journal.specs.Closings.{outcome_in}
use Rattle.history_text.specs.Results.{below, fails, was_skipped}
use Rattle.history_text.proofs.summaries.count_units.Given as goal

abbrev pub invariant-loop-unit : goal.invariant-loop-unit
invariant-loop-unit l = record {
  passed : l.counts.passed ≡ count_by passes (below l.unit (outcome_in l.book.history));
  failed : l.counts.failed ≡ count_by fails (below l.unit (outcome_in l.book.history));
  skipped : l.counts.skipped ≡ count_by was_skipped (below l.unit (outcome_in l.book.history));
}
