use Rattle.std.proofs.Common.{◌<◌, List, length, get_or, sym, ap, ◌∙◌, arith}
use Rattle.std.proofs.lemmas.List.{get_or_default}
use Rattle.resource_lock.specs.GraphView.{GraphTaskView, no_row}
use Rattle.resource_lock.proofs.TaskRows.{length-tasks_from, task_read}
use Rattle.resource_lock.proofs.graph_tasks.GraphTasks.after.Goals as goal

pub at-requires : goal.at-requires
at-requires c =
    omega (arith, c.requires, ap (λ (ts : List GraphTaskView). length ts) c.self.view_is, length-tasks_from c.self.inside.rows.items c.self.inside.after, c.self.invariant)

pub returns : goal.returns
returns c =
    let lt : c.args.task < length c.self.inside.rows.items =
    omega (arith, c.requires, ap (λ (ts : List GraphTaskView). length ts) c.self.view_is, length-tasks_from c.self.inside.rows.items c.self.inside.after) in
    let row = get_or c.self.inside.rows.items c.args.task no_row in
    let same = get_or_default c.self.inside.rows.items c.args.task no_row row lt in
    c.at.ensures ∙ sym (ap (λ (t : GraphTaskView). t.after) (task_read c.self.inside.rows.items c.self.inside.after c.args.self.now c.self.view_is c.args.task row c.requires same))
