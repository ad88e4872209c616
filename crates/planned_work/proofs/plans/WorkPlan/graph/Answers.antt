use Rattle.std.proofs.Common.{◌≡◌, ◌≤◌, ℕ, List, None, refl, sym, ap, subst, ◌∙◌, arith}
use Rattle.std.proofs.lemmas.Bool.{false≢true}
use Rattle.lock_journal.specs.Names.{Fits, MAX_UNITS}
use Rattle.ready_work.specs.Rank.{InRange, IsFirstCycle, lists_of}
use Rattle.planned_work.specs.Fitting.{IsPlanFit}
use Rattle.planned_work.specs.Graphs.{actions_in, all_actions_from, graph_of_plan}
use Rattle.planned_work.specs.Plans.{PlannedTaskView}
use Rattle.planned_work.proofs.GraphSteps.{few_in_all, graph_afters, graph_made, rows_made}
use Rattle.planned_work.proofs.LastReleases.{plans_release_last}
use Rattle.planned_work.proofs.PlanRuns.{in_range}
use Rattle.planned_work.proofs.plans.WorkPlan.graph.Goals as goal

pub graph_tasks-requires-clause-few : goal.graph_tasks-requires-clause-few
graph_tasks-requires-clause-few c =
    let plan = c.tasks.ensures.plan in
    let few = few_in_all c.args.self.now.tasks plan.some_item in
    let most = plan.few_units in
    subst (λ (ts : List PlannedTaskView). actions_in ts ≤ MAX_UNITS) (sym c.tasks.ensures.value) (omega (arith, few, most))

pub returns-then-not-fits-clause-err : goal.returns-then-not-fits-clause-err
returns-then-not-fits-clause-err c =
    let p = c.args.self.now in
    let rows = rows_made p _ _ _ c.in-Ok.ensures c.tasks.ensures.value c.after.ensures.value in
    let actions = c.deref.ensures.value ∙ c.in-Ok-graph_actions.ensures ∙ ap (all_actions_from 0 0) c.tasks-2.ensures.value in
    λ fits. absurd (false≢true (c.if-not-fits.ensures.1 (subst Fits (sym (graph_made p c.args.workers c.args.max_leases _ _ _ _ c.locks-locks.ensures c.locks.ensures rows actions)) fits)))

pub first_cycle-requires : goal.first_cycle-requires
first_cycle-requires c =
    let p = c.args.self.now in
    let rows = rows_made p _ _ _ c.in-Ok.ensures c.tasks.ensures.value c.after.ensures.value in
    let actions = c.deref.ensures.value ∙ c.in-Ok-graph_actions.ensures ∙ ap (all_actions_from 0 0) c.tasks-2.ensures.value in
    let fits = subst Fits (graph_made p c.args.workers c.args.max_leases _ _ _ _ c.locks-locks.ensures c.locks.ensures rows actions) (c.if-not-fits.ensures.0 refl) in
    subst InRange (graph_afters p c.args.workers c.args.max_leases c.tasks.ensures.plan ∙ sym c.after-2.ensures.value) (in_range (graph_of_plan p c.args.workers c.args.max_leases) fits)

module _ (c : goal.After-new) where
  abbrev made : c.new.result ≡ graph_of_plan c.args.self.now c.args.workers c.args.max_leases
  made =
      let p = c.args.self.now in
      let rows = rows_made p _ _ _ c.in-Ok.ensures c.tasks.ensures.value c.after.ensures.value in
      let actions = c.in-Ok-graph_actions.ensures ∙ ap (all_actions_from 0 0) c.tasks-2.ensures.value in
      c.new.ensures ∙ graph_made p c.args.workers c.args.max_leases _ _ _ _ c.locks-locks.ensures c.locks.ensures rows actions

pub returns-in-Ok-None-clause-graph : goal.returns-in-Ok-None-clause-graph
returns-in-Ok-None-clause-graph c = made c

pub returns-in-Ok-None-clause-fit : goal.returns-in-Ok-None-clause-fit
returns-in-Ok-None-clause-fit c =
    let p = c.args.self.now in
    let first : IsFirstCycle (lists_of c.after-2.result.now) None = subst (IsFirstCycle (lists_of c.after-2.result.now)) c.in-Ok-None.field-0-is c.in-Ok-None.ensures in
    let rows = rows_made p _ _ _ c.in-Ok.ensures c.tasks.ensures.value c.after.ensures.value in
    let actions = c.deref.ensures.value ∙ c.in-Ok-graph_actions.ensures ∙ ap (all_actions_from 0 0) c.tasks-2.ensures.value in
    let fits = subst Fits (graph_made p c.args.workers c.args.max_leases _ _ _ _ c.locks-locks.ensures c.locks.ensures rows actions) (c.if-not-fits.ensures.0 refl) in
    let ranks = subst (λ (d : List (List ℕ)). IsFirstCycle d None) (c.after-2.ensures.value ∙ sym (graph_afters p c.args.workers c.args.max_leases c.tasks.ensures.plan)) first in
    subst IsPlanFit (sym (made c)) (record { fits = fits; ranks = ranks; last = plans_release_last p c.args.workers c.args.max_leases c.tasks.ensures.plan })
