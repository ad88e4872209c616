use Rattle.std.proofs.Common.{sym, subst}
use Rattle.plan_reader.specs.declared.limits.TheConstants.{MAX_UNITS}
use Rattle.plan_reader.specs.Rooms.{IsLeft}
use Rattle.plan_reader.specs.Rows.{task_unit_count}
use Rattle.plan_reader.proofs.Lists.{sum_by_of_elements}
use Rattle.plan_reader.proofs.Rooms.{is_too_small}
use Rattle.plan_reader.proofs.limits.has_many_units.Goals as goal

pub returns : goal.returns
returns c =
    let left = subst (λ n. IsLeft MAX_UNITS n c.room_after_tasks.result) (sym (sum_by_of_elements task_unit_count _ _ c.tasks_of.ensures)) c.room_after_tasks.ensures in
    is_too_small MAX_UNITS _ c.room_after_tasks.result c.is_none.result left (sym c.is_none.ensures)
