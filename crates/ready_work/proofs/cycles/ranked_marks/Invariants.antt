use Rattle.std.proofs.Common.{length}
use Rattle.ready_work.specs.Rank.{lists_of}
use Rattle.ready_work.specs.Search.{IsSoundSearch, WaitBelow, work_left}
use Rattle.ready_work.proofs.cycles.ranked_marks.Given as goal

abbrev pub invariant-loop-popped : goal.invariant-loop-popped
invariant-loop-popped l = IsSoundSearch (lists_of l.rows) l.search × WaitBelow (length l.rows) (lists_of l.rows) l.search

abbrev pub decreases-loop-popped : goal.decreases-loop-popped
decreases-loop-popped l = work_left l.search
