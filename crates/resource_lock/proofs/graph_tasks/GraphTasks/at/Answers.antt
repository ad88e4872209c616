use Rattle.std.proofs.Common.{List, length, sym, ap, arith}
use Rattle.resource_lock.specs.GraphView.{GraphTaskView}
use Rattle.resource_lock.proofs.TaskRows.{length-tasks_from, task_read}
use Rattle.resource_lock.proofs.graph_tasks.GraphTasks.at.Goals as goal

pub index-requires : goal.index-requires
index-requires c =
    omega (arith, c.requires, ap (λ (ts : List GraphTaskView). length ts) c.self.view_is, length-tasks_from c.self.inside.rows.items c.self.inside.after, c.self.inside.rows.ok.0)

pub returns-clause-lock : goal.returns-clause-lock
returns-clause-lock c =
    sym (ap (λ (t : GraphTaskView). t.lock) (task_read c.self.inside.rows.items c.self.inside.after c.args.self.now c.self.view_is c.args.task c.index.result.now c.requires c.index.ensures))

pub returns-clause-first : goal.returns-clause-first
returns-clause-first c =
    sym (ap (λ (t : GraphTaskView). t.first_action) (task_read c.self.inside.rows.items c.self.inside.after c.args.self.now c.self.view_is c.args.task c.index.result.now c.requires c.index.ensures))

pub returns-clause-actions : goal.returns-clause-actions
returns-clause-actions c =
    sym (ap (λ (t : GraphTaskView). t.actions) (task_read c.self.inside.rows.items c.self.inside.after c.args.self.now c.self.view_is c.args.task c.index.result.now c.requires c.index.ensures))
