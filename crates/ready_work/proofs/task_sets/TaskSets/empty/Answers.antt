use Rattle.std.proofs.Common.{length, ap, arith}
use Rattle.ready_work.proofs.Counting.{no_counts}
use Rattle.ready_work.proofs.task_sets.TaskSets.empty.Goals as goal

pub returns-clause-dependency_counts : goal.returns-clause-dependency_counts
returns-clause-dependency_counts c = record {
  unpassed = no_counts c.args.graph.now c.in_ok-unpassed.unpassed c.in_ok-unpassed.ensures.none c.in_ok-unpassed.ensures.zero;
  fallen = no_counts c.args.graph.now c.in_ok-fallen.fallen c.in_ok-fallen.ensures.none c.in_ok-fallen.ensures.zero;
}

pub returns-clause-room : goal.returns-clause-room
returns-clause-room c =
    let size = ap length c.tasks.ensures.value in
    let few = c.tasks.ensures.fits.few_tasks in
    let skippable = c.in_ok-skippable.ensures.room in
    let startable = c.in_ok-startable.ensures.room in
    let unended = c.in_ok-unended.ensures.room in
    let unpassed = c.in_ok-unpassed.ensures.size in
    let fallen = c.in_ok-fallen.ensures.size in
    record {
      skippable = omega arith;
      startable = omega arith;
      unended = omega arith;
      unpassed = record { counted = omega (arith, unpassed.counted); counts = omega (arith, unpassed.counts) };
      fallen = record { counted = omega (arith, fallen.counted); counts = omega (arith, fallen.counts) };
    }
