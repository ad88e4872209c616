use Rattle.std.proofs.Common.{◌≡◌, ◌<◌, length, ap, inl, inr, arith}
use Rattle.std.proofs.lemmas.Bool.{cases_lt}
use Rattle.lock_transforms.specs.MostChanges.{changes_below}
use Rattle.lock_transforms.proofs.kinds.most.room_for_any.Goals as goal

pub loop-task-preserved : goal.loop-task-preserved
loop-task-preserved c =
    let within : c.loop-task.task < length c.args.graph.now.tasks = omega (arith, c.loop-task-test.true, c.len-task-end.ensures, ap length c.tasks.ensures.value) in
    record {
      few = omega (arith, c.loop-task.invariant.few, c.max-room-in-loop-task.ensures);
      locks = omega (arith, c.loop-task.invariant.locks, c.max-room-in-loop-task.ensures);
      tasks = λ t low. elim (cases_lt t c.loop-task.task) [
        | inl below ↦ omega (arith, c.loop-task.invariant.tasks t below, c.max-room-in-loop-task.ensures)
        | inr past ↦
            let same : t ≡ c.loop-task.task = omega (arith, low, past) in
            omega (arith, ap (changes_below c.args.graph.now) same, c.changes_below.ensures.value, c.max-room-in-loop-task.ensures)
      ];
      least = λ room enough. omega (arith, c.loop-task.invariant.least room enough, enough.tasks c.loop-task.task within, c.changes_below.ensures.value, c.max-room-in-loop-task.ensures);
      below = omega (arith, c.loop-task.invariant.below, c.changes_below.ensures.few, c.max-room-in-loop-task.ensures);
    }
