use Rattle.std.proofs.Common.{◌≡◌, ◌+◌, take}
use Rattle.std.specs.List.{sum_by}
use Rattle.plan_document.specs.View.{view}
use Rattle.plan_reader.specs.Rows.{unit_count}
use Rattle.plan_reader.proofs.limits.room_after_actions.Given as goal

abbrev pub invariant-loop-action : goal.invariant-loop-action
invariant-loop-action l = l.room + sum_by (λ v. unit_count (view v)) (take l.action-index l.actions) ≡ l.fn.room
