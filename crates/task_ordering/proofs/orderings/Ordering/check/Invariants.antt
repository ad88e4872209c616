use Rattle.task_ordering.proofs.Checks.{HasChecked}
use Rattle.task_ordering.proofs.orderings.Ordering.check.Given as goal

abbrev pub invariant-loop-place : goal.invariant-loop-place
invariant-loop-place g l = HasChecked l.self.befores (g.H.Entries.entries l.history) l.place l.ended.marks.items
