use Rattle.std.proofs.Common.{◌≡◌, rules, subst, sym}
use Rattle.plan_reader.specs.PlanView.{PlanView}
use Rattle.history_text.specs.HistoryView.{HistoryView}
use Rattle.history_check.specs.CheckView.{CheckView, IsCheckOf}
use Rattle.history_check.specs.Verdict.{IsVerdict}
use Rattle.history_check.proofs.checks.HistoryCheck.answer.Goals as goal

pub returns : goal.returns
returns g c =
    let same : c.args.self.now ≡ c.self.inside.entries = search rules in
    subst (λ (v : CheckView). (p : PlanView) (h : HistoryView) → IsCheckOf p h v → IsVerdict v.graph h.locks h.entries c.answer.result) (sym same) c.answer.ensures
