use Rattle.std.proofs.Common.{ℕ, ◌<◌, get_or}
use Rattle.resource_lock.specs.GraphView.{no_action}
use Rattle.resource_lock.specs.Parts.{IsFitAction}
use Rattle.resource_lock.proofs.fitting.actions_fit.Given as goal

abbrev pub invariant-loop-number : goal.invariant-loop-number
invariant-loop-number l = (a : ℕ) → a < l.number → IsFitAction l.tasks a (get_or l.actions a no_action)
