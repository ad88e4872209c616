use Rattle.std.proofs.Common.{◌↔◌, drop}
use Rattle.resource_lock.specs.Fits.{Follow}
use Rattle.resource_lock.proofs.fitting.actions_follow.Given as goal

-- what is asked of all tasks is what is asked of those that are left
abbrev pub invariant-loop-task : goal.invariant-loop-task
invariant-loop-task l = Follow (λ t. t.first_action) (λ t. t.actions) 0 l.tasks l.stop ↔ Follow (λ t. t.first_action) (λ t. t.actions) l.next (drop l.task-index l.tasks) l.stop
