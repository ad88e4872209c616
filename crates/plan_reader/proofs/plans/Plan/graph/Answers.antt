use Rattle.std.proofs.Common.{◌∙◌, sym, subst, ap, refl, arith}
use Rattle.resource_lock.specs.Fits.{Fits}
use Rattle.plan_reader.specs.Graph.{task_lock, tasks_from, all_actions_from}
use Rattle.plan_reader.proofs.Fitting.{graph_fits, same_graph}
use Rattle.plan_reader.proofs.plans.Plan.graph.Goals as goal

pub overflow_add-locks : goal.overflow_add-locks
overflow_add-locks c = omega (arith, c.all_projects_lock-all.ensures.few)

pub new-requires : goal.new-requires
new-requires c =
    subst Fits
    (sym (same_graph c.args.self.now c.args.workers c.args.max_leases _ c.all_projects_lock-all.result c.args.parallel c.in_ok-tasks.tasks c.in_ok-actions.actions.items c.all_projects_lock-all.ensures.lock refl
    (c.in_ok-tasks.ensures ∙ ap (tasks_from (task_lock c.all_projects_lock-all.result c.args.parallel) 0) c.tasks.ensures.value) (c.in_ok-actions.ensures ∙ ap (all_actions_from 0 0) c.tasks-2.ensures.value)))
    (graph_fits c.args.self.now c.args.workers c.args.max_leases c.args.parallel c.tasks.ensures.plan c.requires.some_worker c.requires.few_workers c.requires.some_lease c.requires.few_leases)

pub returns : goal.returns
returns c =
    c.new.ensures
    ∙ same_graph c.args.self.now c.args.workers c.args.max_leases _ c.all_projects_lock-all.result c.args.parallel c.in_ok-tasks.tasks c.in_ok-actions.actions.items c.all_projects_lock-all.ensures.lock refl
    (c.in_ok-tasks.ensures ∙ ap (tasks_from (task_lock c.all_projects_lock-all.result c.args.parallel) 0) c.tasks.ensures.value) (c.in_ok-actions.ensures ∙ ap (all_actions_from 0 0) c.tasks-2.ensures.value)
