use Rattle.ready_work.specs.Rank.{lists_of}
use Rattle.ready_work.specs.Search.{IsSoundSearch, WaitBelow}
use Rattle.ready_work.proofs.rank_search.Search.look_at_all.Given as goal

abbrev pub invariant-loop-task : goal.invariant-loop-task
invariant-loop-task l = IsSoundSearch (lists_of l.rows) l.self × WaitBelow l.task (lists_of l.rows) l.self
