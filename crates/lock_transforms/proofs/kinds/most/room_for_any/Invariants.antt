use Rattle.std.proofs.Common.{◌+◌, ◌*◌, ◌^◌, ◌<◌, ◌≤◌, ℕ}
use Rattle.lock_transforms.specs.MostChanges.{IsRoomFor, changes_below}
use Rattle.lock_transforms.proofs.kinds.most.room_for_any.Given as goal

abbrev pub invariant-loop-task : goal.invariant-loop-task
invariant-loop-task l =
    record {
      few : 4 ≤ l.room;
      locks : 3 + 2 * l.graph.locks ≤ l.room;
      tasks : (t : ℕ) → t < l.task → 3 + changes_below l.graph t ≤ l.room;
      least : (room : ℕ) → IsRoomFor l.graph room → l.room ≤ room;
      below : l.room < 2 ^ 34;
    }
