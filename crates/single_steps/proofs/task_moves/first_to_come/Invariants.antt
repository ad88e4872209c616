use Rattle.std.proofs.Common.{◌≡◌, ℕ, ◌<◌, ◌≤◌, false}
use Rattle.resource_lock.specs.GraphView.{task_of}
use Rattle.single_steps.specs.TaskMoves.{can_come}
use Rattle.single_steps.proofs.task_moves.first_to_come.Given as goal

-- none of the task's actions before this one can come next
abbrev pub invariant-loop-action : goal.invariant-loop-action
invariant-loop-action l = (k : ℕ) → (task_of l.book.graph l.task).first_action ≤ k → k < l.action → can_come l.book.graph l.book.state k ≡ false
