use Rattle.std.proofs.Common.{◌≡◌, map, take}
use Rattle.state_tests.specs.Rows.{task_view}
use Rattle.state_tests.proofs.graphs.tasks_of.Given as goal

-- the tasks of the rows so far
abbrev pub invariant-loop-row : goal.invariant-loop-row
invariant-loop-row l = l.tasks ≡ map task_view (take l.row-index l.rows)
