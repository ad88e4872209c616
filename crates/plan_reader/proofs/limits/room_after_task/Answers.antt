use Rattle.std.proofs.Common.{sym, subst}
use Rattle.plan_reader.specs.Rooms.{IsLeft}
use Rattle.plan_reader.specs.Rows.{unit_count}
use Rattle.plan_reader.proofs.Lists.{sum_by_of_elements}
use Rattle.plan_reader.proofs.limits.room_after_task.Goals as goal

pub returns : goal.returns
returns c = subst (λ n. IsLeft c.args.room n c.room_after_actions.result) (sym (sum_by_of_elements unit_count _ _ c.actions_of.ensures)) c.room_after_actions.ensures
