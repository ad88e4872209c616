use Rattle.planned_work.proofs.UnitPlaces.{all_bare}
use Rattle.planned_work.proofs.plan_graphs.tasks_without_names.Goals as goal

pub returns : goal.returns
returns c =
    let rows = c.rows-row-items in
    all_bare c.args.tasks.now c.loop-row.made rows.result.now rows.ensures.0 c.loop-row.row-index rows.ensures.1 c.loop-row-test.false c.loop-row.invariant
