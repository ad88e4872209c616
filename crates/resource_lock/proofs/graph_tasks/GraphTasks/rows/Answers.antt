use Rattle.std.proofs.Common.{List, ap, ◌∙◌}
use Rattle.resource_lock.specs.GraphTasks.{tasks_from}
use Rattle.resource_lock.specs.declared.graph_tasks.GraphTask.{GraphTask}
use Rattle.resource_lock.proofs.graph_tasks.GraphTasks.rows.Goals as goal

pub returns : goal.returns
returns c = (c.self.inside.after, ap (λ (ts : List GraphTask). tasks_from ts c.self.inside.after) c.deref.ensures.value ∙ c.self.view_is)
