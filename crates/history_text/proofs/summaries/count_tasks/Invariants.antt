use Rattle.std.proofs.Common.{◌≡◌}
use Rattle.std.specs.List.{count_by}
use Rattle.history_text.specs.Results.{below, has_failed, is_skipped, task_marks}
use Rattle.lock_transforms.specs.Table.{has_passed}
use Rattle.history_text.proofs.summaries.count_tasks.Given as goal

abbrev pub invariant-loop-task : goal.invariant-loop-task
invariant-loop-task l = record {
  passed : l.counts.passed ≡ count_by has_passed (below l.task (task_marks l.book.state));
  failed : l.counts.failed ≡ count_by has_failed (below l.task (task_marks l.book.state));
  skipped : l.counts.skipped ≡ count_by is_skipped (below l.task (task_marks l.book.state));
}
