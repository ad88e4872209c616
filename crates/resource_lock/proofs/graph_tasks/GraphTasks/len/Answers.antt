use Rattle.std.proofs.Common.{List, length, sym, ap, ◌∙◌}
use Rattle.resource_lock.specs.GraphView.{GraphTaskView}
use Rattle.resource_lock.proofs.TaskRows.{length-tasks_from}
use Rattle.resource_lock.proofs.graph_tasks.GraphTasks.len.Goals as goal

pub returns : goal.returns
returns c =
    c.len.ensures ∙ c.self.inside.rows.ok.0 ∙ sym (length-tasks_from c.self.inside.rows.items c.self.inside.after) ∙ ap (λ (ts : List GraphTaskView). length ts) c.self.view_is
