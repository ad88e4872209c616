-- What a worker does next that runs a task and isn't parked in it.
use Rattle.std.specs.Prelude.{ℕ, ◌≡◌, ◌⊎◌, ◌&&◌, ◌||◌, Bool, true, false, Option, Some, None, find, if◌then◌else◌}
use Rattle.lock_journal.specs.Names.{same_mark, GraphView, action_of, actions_of, StateView, holding_of, mark_of, WorkerId, Queued, Waiting, ActionOf}
use Rattle.lock_journal.specs.Names.{UnitOf, earlier_passed}
use Rattle.async_tracker.specs.declared.work_steps.WorkStep.{WorkStep}
use Rattle.async_tracker.specs.declared.work_steps.WorkStep.TheVariants as steps
use Rattle.single_steps.specs.declared.task_moves.TaskMove.{TaskMove}
use Rattle.single_steps.specs.declared.task_moves.TaskMove.TheVariants as moves

-- the action is queued
abbrev pub is_queued : StateView → ℕ → Bool
is_queued s a = same_mark (mark_of s (ActionOf a)) Queued

-- it is, or it waits and each earlier one of its task has passed with its units
abbrev pub can_come : GraphView → StateView → ℕ → Bool
can_come g s a = is_queued s a || (same_mark (mark_of s (ActionOf a)) Waiting && earlier_passed g s a)

-- the first action of the task that can come next
abbrev pub first_to_come : GraphView → StateView → ℕ → Option ℕ
first_to_come g s t = find (can_come g s) (actions_of g t)

-- the action has a fetch, which waits
abbrev pub fetch_waits : GraphView → StateView → ℕ → Bool
fetch_waits g s a = (action_of g a).fetch && same_mark (mark_of s (UnitOf (action_of g a).first_unit)) Waiting

-- what comes next of the action: the wait for its items where it is queued, or its fetch where that waits, and else its items
abbrev pub comes_with : GraphView → StateView → ℕ → TaskMove
comes_with g s a = if is_queued s a then moves.Park a else if fetch_waits g s a then moves.Fetch (action_of g a).first_unit else moves.Submit a

-- The worker goes on with the first action that can come next. It ends the task where none can, or where it has no lease any more.
abbrev pub IsNextInTask : GraphView → WorkerId → StateView → ℕ → TaskMove → Type 0
IsNextInTask g w s t moves.End = ((holding_of s w).lease ≡ false) ⊎ (first_to_come g s t ≡ None)
IsNextInTask g w s t next = ((holding_of s w).lease ≡ true) × (a : ℕ) × (first_to_come g s t ≡ Some a) × (next ≡ comes_with g s a)

abbrev pub step_of_move : ℕ → TaskMove → Option WorkStep
step_of_move t (moves.Fetch u) = Some (steps.Fetch u)
step_of_move t (moves.Submit a) = Some (steps.Submit a)
step_of_move t (moves.Park a) = Some (steps.Park a)
step_of_move t moves.End = Some (steps.End t)
