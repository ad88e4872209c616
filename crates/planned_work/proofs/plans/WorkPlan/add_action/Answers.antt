use Rattle.std.proofs.Common.{◌≡◌, false, ◌+◌, ◌≤◌, ◌<◌, ◌++◌, ◌∷◌, [], refl, ap, sym, subst, ◌∙◌, length, map, arith}
use Rattle.std.specs.Prelude.{set}
use Rattle.std.proofs.lemmas.List.{length-map}
use Rattle.lock_journal.specs.Names.{fetches, MAX_UNITS}
use Rattle.planned_work.specs.Plans.{IsWorkPlan, WorkPlanView, plan_view, planned_task_view, releases, task_in_plan, units_of_action, with_action}
use Rattle.planned_work.proofs.PlanKept.{action_added, action_kept, task_same, task_there}
use Rattle.planned_work.proofs.UnitPlaces.{byte_is}
use Rattle.planned_work.proofs.plans.WorkPlan.add_action.Goals as goal

module _ (c : goal.Then-is_err) where
  same : plan_view c.self.inside.locks (set c.self.inside.tasks.items c.args.task (record { lock = c.index_mut.result.now.lock; actions = c.push.new.self })) c.self.inside.after.items ≡ plan_view c.self.inside.locks c.self.inside.tasks.items c.self.inside.after.items
  same =
      let i = c.self.inside in
      let low : c.args.task < length i.tasks.items = (let lt = c.if-task-len.false in let len = c.len.ensures in omega (arith, lt, len, i.tasks.ok.0)) in
      let there = task_there i.locks i.tasks.items i.after.items c.args.task c.index_mut.result.now low c.index_mut.ensures.value in
      let items : c.push.new.self.items ≡ c.index_mut.result.now.actions.items = rw (c.push.ensures.items, c.is_err.ensures.negation, c.if-is_err.true) refl in
      task_same i.locks i.tasks.items i.after.items c.args.task _ (rw items there)

pub invariant_of-self-then-is_err : goal.invariant_of-self-then-is_err
invariant_of-self-then-is_err c = subst (λ (p : WorkPlanView). IsWorkPlan p c.self.inside.units) (sym (same c)) c.self.invariant

pub returns-then-is_err-clause-kept : goal.returns-then-is_err-clause-kept
returns-then-is_err-clause-kept c = same c ∙ c.self.view_is

module _ (c : goal.After-self-3-1) where
  low : c.args.task < length c.self.inside.tasks.items
  low = let lt = c.if-task-len.false in let len = c.len.ensures in let ok = c.self.inside.tasks.ok.0 in omega (arith, lt, len, ok)

  there_is : c.args.task < length (map planned_task_view c.self.inside.tasks.items)
  there_is = let size = length-map c.self.inside.tasks.items planned_task_view in let lt = low in omega (arith, size, lt)

  there : planned_task_view c.index_mut.result.now ≡ task_in_plan (plan_view c.self.inside.locks c.self.inside.tasks.items c.self.inside.after.items) c.args.task
  there = task_there c.self.inside.locks c.self.inside.tasks.items c.self.inside.after.items c.args.task c.index_mut.result.now low c.index_mut.ensures.value

  added : plan_view c.self.inside.locks (set c.self.inside.tasks.items c.args.task (record { lock = c.index_mut.result.now.lock; actions = c.push.new.self })) c.self.inside.after.items
      ≡ with_action c.args.task c.args.action (plan_view c.self.inside.locks c.self.inside.tasks.items c.self.inside.after.items)
  added =
      let i = c.self.inside in
      let items : c.push.new.self.items ≡ c.index_mut.result.now.actions.items ++ c.args.action ∷ [] = rw (c.push.ensures.items, c.is_err.ensures.negation, c.if-is_err.false) refl in
      action_added i.locks i.tasks.items i.after.items c.args.task _ c.args.action (rw (items, sym there) refl)

pub invariant_of-self-2 : goal.invariant_of-self-2
invariant_of-self-2 c =
    let i = c.self.inside in
    let fetch : c.from-2.result ≡ fetches c.args.action.fetch = c.from-2.ensures ∙ byte_is c.args.action.fetch in
    let units : i.units + c.from.result + c.from-2.result ≡ i.units + units_of_action c.args.action = (let items = c.from.ensures in omega (arith, items, fetch)) in
    let few : i.units + units_of_action c.args.action ≤ MAX_UNITS = (let most = c.if-units-gt-MAX_UNITS.false in omega (arith, most, units)) in
    let last : releases (task_in_plan (plan_view i.locks i.tasks.items i.after.items) c.args.task).actions ≡ false = ap (λ k. releases k.actions) (sym (there c)) ∙ ap releases (sym c.deref.ensures.value) ∙ sym c.releases.ensures ∙ c.if-releases.false in
    rw units (subst (λ (p : WorkPlanView). IsWorkPlan p (i.units + units_of_action c.args.action)) (sym (added c)) (action_kept (plan_view i.locks i.tasks.items i.after.items) i.units c.args.task c.args.action c.self.invariant (there_is c) (omega (arith, c.if-action-eq0.false)) last few))

pub returns-clause-made : goal.returns-clause-made
returns-clause-made c =
    let i = c.self.inside in
    subst (λ (p : WorkPlanView). (c.len-place.result ≡ length (task_in_plan p c.args.task).actions) × (plan_view i.locks (set i.tasks.items c.args.task (record { lock = c.index_mut.result.now.lock; actions = c.push.new.self })) i.after.items ≡ with_action c.args.task c.args.action p)) c.self.view_is
    (c.len-place.ensures ∙ c.index_mut.result.now.actions.ok.0 ∙ ap (λ k. length k.actions) (there c), added c)
