use Rattle.plan_document.specs.View.{view}
use Rattle.std.proofs.Common.{arith}
use Rattle.plan_reader.specs.Rows.{unit_count}
use Rattle.plan_reader.proofs.Rooms.{too_many}
use Rattle.plan_reader.proofs.limits.room_after_actions.Goals as goal

pub returns-in_err-room : goal.returns-in_err-room
returns-in_err-room c =
    rw c.from_residual.ensures
    (too_many (λ v. unit_count (view v)) c.args.actions.now c.loop-action.action-index c.action-item.result _ _ c.loop-action-test.true c.action-item.is c.loop-action.invariant (omega (arith, c.unit_count.ensures, c.in_err-room.ensures)))
