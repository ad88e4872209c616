-- What an idle worker chose, and has begun, and what a parked one has claimed.
use Rattle.std.specs.Prelude.{ℕ, ◌<◌, length}
use Rattle.coordination.specs.Holds.{HoldsNothing}
use Rattle.coordination.specs.declared.rule.Sight.{Sight}
use Rattle.async_tracker.specs.NextWork.{HasClaimed}
use Rattle.async_tracker.specs.ParkedView.{ParkedView}
use Rattle.async_tracker.specs.Shows.{IsParkedBy}
use Rattle.async_tracker.specs.declared.next_work.NextWork.{NextWork}
use Rattle.async_tracker.specs.declared.next_work.NextWork.TheVariants as next
use Rattle.build_workers.specs.Points.{CanHelp, HasFinishedWork, RunsTask}

-- What a worker has once it has chosen: the item that it claimed, when it had nothing, or the task that it started, which is one of the graph,
-- or nothing; and where it finishes it has seen all tasks ended.
abbrev pub HasBegun : Sight → NextWork → Type 0
HasBegun s (next.Claim u) = (idle : Sight) × HoldsNothing idle × HasClaimed u idle s
HasBegun s next.Beside = HoldsNothing s
HasBegun s (next.Skip t) = HoldsNothing s
HasBegun s (next.Start t) = (t < length s.seen.graph.tasks) × RunsTask t s
HasBegun s next.Finish = HasFinishedWork s

-- the worker was parked with a free hand, and has claimed the item since
abbrev pub HasClaimedParked : ParkedView → ℕ → Sight → Sight → Type 0
HasClaimedParked p u base s = IsParkedBy base p × CanHelp base × HasClaimed u base s
