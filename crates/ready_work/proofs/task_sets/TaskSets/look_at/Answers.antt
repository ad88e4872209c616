use Rattle.std.proofs.Common.{refl}
use Rattle.ready_work.specs.TaskSets.{CanSkipByCount, IsStartableByCount, IsUnendedIn}
use Rattle.ready_work.proofs.Looking.{looks_put}
use Rattle.ready_work.proofs.TaskLooks.{skip_right, startable_right, unended_right}
use Rattle.ready_work.proofs.task_sets.TaskSets.look_at.Goals as goal

pub returns-clause-tasks : goal.returns-clause-tasks
returns-clause-tasks c =
    let s = c.args.state.now in
    let old = c.args.self.now in record {
      skippable = looks_put (CanSkipByCount s old.fallen) c.args.task c.can_skip-can_skip.result old.skippable c.put.new.self c.put.ensures.room c.put.ensures.put c.put.ensures.others
          (skip_right s old.fallen c.args.task c.count.result c.mark-mark.result c.can_skip-can_skip.result c.requires.within c.mark-mark.ensures c.count.ensures c.can_skip-can_skip.ensures);
      startable = looks_put (IsStartableByCount s old.unpassed) c.args.task c.is_startable-is_startable.result old.startable.tasks c.put-3.new.self.tasks c.put-3.ensures.room c.put-3.ensures.put c.put-3.ensures.others
          (startable_right s old.unpassed c.args.task c.count-2.result c.mark-mark.result c.is_startable-is_startable.result c.requires.within c.mark-mark.ensures c.count-2.ensures c.is_startable-is_startable.ensures);
      unended = looks_put (IsUnendedIn s) c.args.task _ old.unended c.put-2.new.self c.put-2.ensures.room c.put-2.ensures.put c.put-2.ensures.others (unended_right s c.args.task c.mark-mark.result c.has_ended.result c.requires.within c.mark-mark.ensures c.has_ended.ensures);
      locks = c.put-3.ensures.locks;
      unpassed = refl;
      fallen = refl;
    }
