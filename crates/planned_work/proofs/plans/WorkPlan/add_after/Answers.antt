use Rattle.std.proofs.Common.{◌≡◌, ◌<◌, ◌++◌, ap, subst, ◌∙◌, length, arith}
use Rattle.std.specs.Prelude.{cond, is_ok, set}
use Rattle.planned_work.specs.Plans.{WorkPlanView, names_in_plan, plan_view, with_names}
use Rattle.planned_work.proofs.PlanKept.{names_added, names_same, names_there}
use Rattle.planned_work.proofs.plans.WorkPlan.add_after.Goals as goal
use Rattle.planned_work.proofs.plans.WorkPlan.add_after.Goals.{in-Ok, in-Err}

there : (c : goal.Joined-extend_from_slice) → c.index_mut-names.result.now.items ≡ names_in_plan (plan_view c.self.inside.locks c.self.inside.tasks.items c.self.inside.after.items) c.args.task
there c =
    let i = c.self.inside in
    let low : c.args.task < length i.after.items = (let lt = c.if-task-len.false in let len = c.len.ensures in let ok = i.after.ok.0 in omega (arith, lt, len, ok)) in
    names_there i.locks i.tasks.items i.after.items c.args.task c.index_mut-names.result.now low c.index_mut-names.ensures.value

pub returns-clause-made : goal.returns-clause-made
returns-clause-made c = elim c.match-extend_from_slice.branch [
  | in-Ok w ↦
      let i = c.self.inside in
      let items : c.extend_from_slice.new.self.items ≡ c.index_mut-names.result.now.items ++ c.args.before.now = c.extend_from_slice.ensures.items ∙ ap (λ b. cond b (c.index_mut-names.result.now.items ++ c.args.before.now) c.index_mut-names.result.now.items) (ap is_ok w.in-Ok.is) in
      rw w.result-is (subst (λ (p : WorkPlanView). plan_view i.locks i.tasks.items (set i.after.items c.args.task c.extend_from_slice.new.self) ≡ with_names c.args.task c.args.before.now p) c.self.view_is
      (names_added i.locks i.tasks.items i.after.items c.args.task c.extend_from_slice.new.self c.args.before.now (items ∙ ap (λ l. l ++ c.args.before.now) (there c))))
  | in-Err w ↦ rw w.result-is _
]

pub returns-clause-kept : goal.returns-clause-kept
returns-clause-kept c = elim c.match-extend_from_slice.branch [
  | in-Ok w ↦ rw w.result-is _
  | in-Err w ↦
      let i = c.self.inside in
      let items : c.extend_from_slice.new.self.items ≡ c.index_mut-names.result.now.items = c.extend_from_slice.ensures.items ∙ ap (λ b. cond b (c.index_mut-names.result.now.items ++ c.args.before.now) c.index_mut-names.result.now.items) (ap is_ok w.in-Err.is) in
      rw w.result-is (names_same i.locks i.tasks.items i.after.items c.args.task c.extend_from_slice.new.self (items ∙ there c) ∙ c.self.view_is)
]
