use Rattle.std.proofs.Common.{length, map, refl, arith}
use Rattle.std.proofs.lemmas.Option.{slice_get_read}
use Rattle.lock_journal.specs.Closings.{outcome_in}
use Rattle.plan_reader.specs.PlanView.{plan_task_view}
use Rattle.plan_reader.specs.Units.{task_units}
use Rattle.history_text.specs.Results.{task_marks}
use Rattle.history_text.proofs.lemmas.Numbering.{slice_get_through}
use Rattle.history_text.proofs.Parts.{within_whole, length-flat_map-next, adds_task}
use Rattle.history_text.proofs.results.write_tasks.Goals as goal

pub write_task-next-requires-clause-within : goal.write_task-next-requires-clause-within
write_task-next-requires-clause-within g c =
    let i = c.loop-index.index in
    let tasks = c.args.tasks.now in
    let task = c.index-tasks-index.result in
    let here = slice_get_through plan_task_view tasks i task (slice_get_read tasks (length tasks) i task refl c.loop-index-test.true c.index-tasks-index.is) in
    omega (arith, within_whole task_units (map plan_task_view tasks) i (plan_task_view task) here, c.loop-index.invariant.next, c.requires.units)

pub loop-index-preserved : goal.loop-index-preserved
loop-index-preserved g c =
    let i = c.loop-index.index in
    let tasks = c.args.tasks.now in
    let task = c.index-tasks-index.result in
    let here = slice_get_through plan_task_view tasks i task (slice_get_read tasks (length tasks) i task refl c.loop-index-test.true c.index-tasks-index.is) in
    record {
      text = adds_task (task_marks c.args.book.now.state) (outcome_in c.args.book.now.history) c.loop-index.next (map plan_task_view tasks) i (plan_task_view task) c.loop-index.invariant.next here c.loop-index.invariant.text c.write_task-next.ensures.text;
      next = omega (arith, length-flat_map-next task_units (map plan_task_view tasks) i (plan_task_view task) here, c.loop-index.invariant.next, c.write_task-next.ensures.next);
    }
