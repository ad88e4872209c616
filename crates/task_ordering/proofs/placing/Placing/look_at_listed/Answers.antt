use Rattle.std.proofs.Common.{length, ◌∙◌, arith}
use Rattle.ready_work.specs.Rank.{lists_of}
use Rattle.task_ordering.proofs.Settling.{listed_next, none_listed}
use Rattle.task_ordering.proofs.placing.Placing.look_at_listed.Goals as goal

pub loop-task-preserved : goal.loop-task-preserved
loop-task-preserved c = record {
  sound = c.look_at.ensures.sound;
  settled = listed_next c.args.to_run.now (lists_of c.args.befores.now) c.loop-task.self c.look_at.new.self c.args.list.now c.loop-task.task-index c.loop-task-test.true c.look_at.ensures.looks c.loop-task.invariant.settled;
  placed = c.look_at.ensures.looks.placed ∙ c.loop-task.invariant.placed;
}

pub returns-clause-settled : goal.returns-clause-settled
returns-clause-settled c =
    none_listed (length c.args.befores.now) c.args.to_run.now (lists_of c.args.befores.now) c.loop-task.self c.args.list.now c.loop-task.task-index (omega (arith, c.loop-task-test.false)) c.loop-task.invariant.settled
