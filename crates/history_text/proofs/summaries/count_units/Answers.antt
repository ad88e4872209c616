use Rattle.std.proofs.Common.{arith}
use Rattle.history_text.specs.Results.{fails, was_skipped}
use Rattle.item_actions.specs.Value.{passes}
use Rattle.lock_journal.specs.Closings.{outcome_in}
use Rattle.history_text.proofs.Counting.{counted, count_below-le}
use Rattle.history_text.proofs.summaries.count_units.Goals as goal

pub add_unit-requires-clause-passed : goal.add_unit-requires-clause-passed
add_unit-requires-clause-passed c = omega (arith, c.loop-unit.invariant.passed, count_below-le passes (outcome_in c.args.book.now.history) c.loop-unit.unit)

pub add_unit-requires-clause-failed : goal.add_unit-requires-clause-failed
add_unit-requires-clause-failed c = omega (arith, c.loop-unit.invariant.failed, count_below-le fails (outcome_in c.args.book.now.history) c.loop-unit.unit)

pub add_unit-requires-clause-skipped : goal.add_unit-requires-clause-skipped
add_unit-requires-clause-skipped c = omega (arith, c.loop-unit.invariant.skipped, count_below-le was_skipped (outcome_in c.args.book.now.history) c.loop-unit.unit)

pub loop-unit-preserved : goal.loop-unit-preserved
loop-unit-preserved c =
    let outcomes = outcome_in c.args.book.now.history in
    record {
      passed = counted passes outcomes _ _ _ _ c.loop-unit.invariant.passed c.outcome_of.ensures c.add_unit.ensures.passed;
      failed = counted fails outcomes _ _ _ _ c.loop-unit.invariant.failed c.outcome_of.ensures c.add_unit.ensures.failed;
      skipped = counted was_skipped outcomes _ _ _ _ c.loop-unit.invariant.skipped c.outcome_of.ensures c.add_unit.ensures.skipped;
    }
