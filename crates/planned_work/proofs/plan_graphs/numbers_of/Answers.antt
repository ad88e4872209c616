use Rattle.std.proofs.Common.{◌++◌, List, map, sym, subst, ap, ◌∙◌}
use Rattle.lock_journal.specs.Names.{Fits, GraphTaskView}
use Rattle.planned_work.specs.Numbers.{task_without_names}
use Rattle.planned_work.proofs.UnitPlaces.{fits_without, made_without}
use Rattle.planned_work.proofs.plan_graphs.numbers_of.Goals as goal

pub new-requires : goal.new-requires
new-requires c =
    let g = c.args.graph.now in
    let tasks = c.in_ok-tasks.ensures ∙ ap (λ (ts : List GraphTaskView). map task_without_names ts) c.tasks.ensures.value in
    let actions = c.in_ok-extend_from_slice.ensures.items ∙ ap (λ l. l ++ c.actions-2.result.now) c.in_ok-actions.ensures.items ∙ c.actions-2.ensures.value in
    subst Fits (sym (made_without g _ _ _ _ _ _ c.tasks.ensures.fits c.locks.ensures c.all.ensures c.workers.ensures c.max_leases.ensures tasks actions)) (fits_without g c.tasks.ensures.fits)

pub returns : goal.returns
returns c =
    let g = c.args.graph.now in
    let tasks = c.in_ok-tasks.ensures ∙ ap (λ (ts : List GraphTaskView). map task_without_names ts) c.tasks.ensures.value in
    let actions = c.in_ok-extend_from_slice.ensures.items ∙ ap (λ l. l ++ c.actions-2.result.now) c.in_ok-actions.ensures.items ∙ c.actions-2.ensures.value in
    c.new.ensures ∙ made_without g _ _ _ _ _ _ c.tasks.ensures.fits c.locks.ensures c.all.ensures c.workers.ensures c.max_leases.ensures tasks actions
