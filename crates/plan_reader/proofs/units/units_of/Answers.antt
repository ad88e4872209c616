use Rattle.std.proofs.Common.{◌∙◌, arith}
use Rattle.plan_reader.specs.PlanView.{plan_task_view}
use Rattle.plan_reader.specs.Units.{task_units}
use Rattle.plan_reader.proofs.UnitLists.{all_parts}
use Rattle.plan_reader.proofs.units.units_of.Goals as goal

pub returns : goal.returns
returns c = record {
  units = c.loop-task.invariant ∙ all_parts task_units plan_task_view c.tasks-task-items.result.now c.args.plan.now.tasks c.loop-task.task-index (omega arith) c.tasks-task-items.ensures.value;
}
