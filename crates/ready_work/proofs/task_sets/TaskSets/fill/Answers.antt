use Rattle.std.proofs.Common.{◌≡◌, ℕ, length, ap, arith, sym, subst}
use Rattle.ready_work.specs.Sets.{NoNumber}
use Rattle.ready_work.specs.TaskSets.{HasTaskRoom}
use Rattle.ready_work.proofs.TaskLooks.{all_tasks_below, closed_kept, no_task_below, one_task_below, room_after, sets_kept}
use Rattle.ready_work.proofs.task_sets.TaskSets.fill.Goals as goal

pub loop-task-init : goal.loop-task-init
loop-task-init c = (no_task_below c.args.state.now c.args.self.now c.requires.empty, subst (λ (n : ℕ). HasTaskRoom n c.args.self.now) (sym c.requires.belongs.tasks) c.requires.room, c.requires.closed)

pub loop-task-preserved : goal.loop-task-preserved
loop-task-preserved c = (
  one_task_below c.args.state.now c.loop-task.task c.args.self.now.unpassed c.args.self.now.fallen c.loop-task.self c.look_at.new.self c.look_at.ensures.tasks c.loop-task.invariant.0,
  room_after (length c.args.state.now.tasks) c.args.state.now (λ (k : ℕ). k ≡ c.loop-task.task) c.loop-task.self c.look_at.new.self c.look_at.ensures.tasks c.loop-task.invariant.1,
  closed_kept c.args.graph.now c.loop-task.self.startable c.look_at.new.self.startable c.look_at.ensures.tasks.locks c.look_at.ensures.free c.loop-task.invariant.2,
)

pub returns-clause-sets : goal.returns-clause-sets
returns-clause-sets c =
    let size = ap length c.tasks.ensures.value in
    let few = c.tasks.ensures.fits.few_tasks in
    let past = c.loop-task-test.false in
    let same = c.requires.belongs.tasks in
    sets_kept c.args.state.now NoNumber c.loop-task.self c.put_locks.new.self c.put_locks.ensures.tasks
    (all_tasks_below c.args.state.now c.loop-task.task c.args.self.now.unpassed c.args.self.now.fallen c.loop-task.self (omega arith) c.loop-task.invariant.0)
