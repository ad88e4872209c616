-- What a decision says that a worker does next.
use Rattle.std.specs.Prelude.{ℕ, true, not}
use Rattle.async_tracker.specs.declared.next_work.NextWork.{NextWork}
use Rattle.async_tracker.specs.declared.next_work.NextWork.TheVariants as next
use Rattle.async_tracker.specs.declared.next_work.ParkedWork.{ParkedWork}
use Rattle.async_tracker.specs.declared.next_work.ParkedWork.TheVariants as parked
use Rattle.single_steps.specs.declared.task_moves.TaskMove.{TaskMove}
use Rattle.single_steps.specs.declared.task_moves.TaskMove.TheVariants as moves
use Rattle.coordination.specs.declared.decisions.Decided.TheVariants as decided
use Rattle.planned_work.specs.declared.answers.Next.{Next}
use Rattle.planned_work.specs.declared.answers.Next.TheVariants.{Do, GoesOn, Busy, Again, NoMemory, Stuck}
use Rattle.planned_work.specs.declared.answers.Work.TheVariants as works
use Rattle.planned_work.specs.declared.trying.Behind.{Behind}
use Rattle.planned_work.specs.declared.trying.Behind.TheVariants as behind
use Rattle.planned_work.specs.declared.trying.Tried.{Tried}
use Rattle.planned_work.specs.declared.trying.Tried.TheVariants as tried

abbrev pub idle_next : Tried NextWork → Next
idle_next (tried.Decided (decided.Entered (next.Claim u) true)) = Do (works.Item u)
idle_next (tried.Decided (decided.Entered (next.Start t) true)) = Do (works.Task t)
idle_next (tried.Decided (decided.Entered (next.Skip t) true)) = GoesOn
idle_next (tried.Decided (decided.Answered next.Finish)) = Do works.Ended
idle_next (tried.Decided _) = Stuck
idle_next tried.Unanswered = Busy
idle_next tried.NoMemory = NoMemory
idle_next tried.Again = Again

abbrev pub parked_next : ℕ → Tried ParkedWork → Next
parked_next a (tried.Decided (decided.Entered (parked.Claim u) true)) = Do (works.Item u)
parked_next a (tried.Decided (decided.Entered (parked.Resume failed) true)) = Do (works.Action a (not failed))
parked_next a (tried.Decided _) = Stuck
parked_next a tried.Unanswered = Busy
parked_next a tried.NoMemory = NoMemory
parked_next a tried.Again = Again

abbrev pub moved_next : Tried TaskMove → Next
moved_next (tried.Decided (decided.Entered (moves.Fetch u) true)) = Do (works.Fetch u)
moved_next (tried.Decided (decided.Entered (moves.Submit a) true)) = GoesOn
moved_next (tried.Decided (decided.Entered (moves.Park a) true)) = GoesOn
moved_next (tried.Decided (decided.Entered moves.End true)) = GoesOn
moved_next (tried.Decided _) = Stuck
moved_next tried.Unanswered = Busy
moved_next tried.NoMemory = NoMemory
moved_next tried.Again = Again

abbrev pub unless_stuck : Next → Next
unless_stuck Stuck = GoesOn
unless_stuck n = n

abbrev pub idle_then : Behind NextWork → Next
idle_then (behind.Decided d) = unless_stuck (idle_next (tried.Decided d))
idle_then behind.Alone = GoesOn
idle_then behind.NoMemory = NoMemory
idle_then behind.Retry = Stuck
idle_then behind.Again = Again

abbrev pub parked_then : ℕ → Behind ParkedWork → Next
parked_then a (behind.Decided d) = unless_stuck (parked_next a (tried.Decided d))
parked_then a behind.Alone = GoesOn
parked_then a behind.NoMemory = NoMemory
parked_then a behind.Retry = Stuck
parked_then a behind.Again = Again
