use Rattle.std.proofs.Common.{◌≤◌, drop}
use Rattle.ready_work.specs.Rank.{lists_of}
use Rattle.ready_work.specs.Search.{IsSoundSearch, WaitOrListed, work_left}
use Rattle.ready_work.proofs.rank_search.Search.look_at_listed.Given as goal

abbrev pub invariant-loop-task : goal.invariant-loop-task
invariant-loop-task l = IsSoundSearch (lists_of l.rows) l.self × WaitOrListed (lists_of l.rows) l.self l.popped (drop l.task-index l.list) × (work_left l.self ≤ work_left l.initial.self)
