use Rattle.std.proofs.Common.{arith}
use Rattle.history_text.specs.Results.{has_failed, is_skipped, task_marks}
use Rattle.lock_transforms.specs.Table.{has_passed}
use Rattle.history_text.proofs.Counting.{counted, count_below-le}
use Rattle.history_text.proofs.summaries.count_tasks.Goals as goal

pub add_task-requires-clause-passed : goal.add_task-requires-clause-passed
add_task-requires-clause-passed c = omega (arith, c.loop-task.invariant.passed, count_below-le has_passed (task_marks c.args.book.now.state) c.loop-task.task)

pub add_task-requires-clause-failed : goal.add_task-requires-clause-failed
add_task-requires-clause-failed c = omega (arith, c.loop-task.invariant.failed, count_below-le has_failed (task_marks c.args.book.now.state) c.loop-task.task)

pub add_task-requires-clause-skipped : goal.add_task-requires-clause-skipped
add_task-requires-clause-skipped c = omega (arith, c.loop-task.invariant.skipped, count_below-le is_skipped (task_marks c.args.book.now.state) c.loop-task.task)

pub loop-task-preserved : goal.loop-task-preserved
loop-task-preserved c =
    let marks = task_marks c.args.book.now.state in
    record {
      passed = counted has_passed marks _ _ _ _ c.loop-task.invariant.passed c.mark_of.ensures c.add_task.ensures.passed;
      failed = counted has_failed marks _ _ _ _ c.loop-task.invariant.failed c.mark_of.ensures c.add_task.ensures.failed;
      skipped = counted is_skipped marks _ _ _ _ c.loop-task.invariant.skipped c.mark_of.ensures c.add_task.ensures.skipped;
    }
