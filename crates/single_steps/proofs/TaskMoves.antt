-- What a worker does next in its task, from what comes next of an action.
use Rattle.std.proofs.Common.{◌≡◌, ℕ, Bool, true, false, Some}
use Rattle.std.specs.Prelude.{if◌then◌else◌}
use Rattle.lock_journal.specs.Names.{GraphView, StateView, holding_of, WorkerId}
use Rattle.single_steps.specs.TaskMoves.{IsNextInTask, comes_with, fetch_waits, first_to_come, is_queued}
use Rattle.single_steps.specs.declared.task_moves.TaskMove.{TaskMove}
use Rattle.single_steps.specs.declared.task_moves.TaskMove.TheVariants as moves

no_end : (queued waits : Bool) (u a : ℕ) → moves.End ≡ (if queued then moves.Park a else if waits then moves.Fetch u else moves.Submit a) → ⊥
no_end true waits u a is = cc
no_end false true u a is = cc
no_end false false u a is = cc

-- the first action that can come next comes
pub comes_next : (g : GraphView) (w : WorkerId) (s : StateView) (t a : ℕ) (next : TaskMove) → (holding_of s w).lease ≡ true → first_to_come g s t ≡ Some a → next ≡ comes_with g s a → IsNextInTask g w s t next
comes_next g w s t a moves.End lease first is = absurd (no_end (is_queued s a) (fetch_waits g s a) _ a is)
comes_next g w s t a (moves.Fetch u) lease first is = (lease, a, first, is)
comes_next g w s t a (moves.Submit b) lease first is = (lease, a, first, is)
comes_next g w s t a (moves.Park b) lease first is = (lease, a, first, is)
