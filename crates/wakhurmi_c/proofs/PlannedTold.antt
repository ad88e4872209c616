-- What is told of a call is so of the handle's worker.
use Rattle.std.proofs.Common.{◌≡◌, Bool, sym, subst}
use Rattle.coordination.specs.declared.rule.Sight.{Sight}
use Rattle.planned_work.specs.Done.{ends_hold}
use Rattle.planned_work.specs.Rings.{WakesBy}
use Rattle.planned_work.specs.declared.answers.Answer.{Answer}
use Rattle.planned_work.specs.declared.answers.Next.{Next}
use Rattle.planned_work.specs.declared.rings.Rings.{Rings}
use Rattle.planned_work.specs.declared.workers.PlanWorker.{PlanWorker}
use Rattle.wakhurmi_c.specs.PlanNumbers.{answer_as, next_as, plan_answer_of}
use Rattle.wakhurmi_c.specs.PlannedCalls.{TellsAnswer, TellsNext, TellsRings, TellsWork}
use Rattle.wakhurmi_c.specs.declared.plan_answers.PlanTold.{PlanTold}
use Rattle.wakhurmi_c.specs.declared.plan_answers.PlanWork.{PlanWork}

-- the worker before the call was the handle's, and the one behind it is
module _ (old new before behind : PlanWorker) (was : before ≡ old) (is : new ≡ behind) where
  pub answer_told : (Leaves : Sight → Sight → Answer → Type 0) (came : Answer) (rings : Rings) (told : PlanTold) → Leaves before.pass.sight behind.pass.sight came → WakesBy (ends_hold came) behind.pass.sight rings
      → plan_answer_of told.answer ≡ answer_as came → TellsRings told rings → TellsAnswer new.pass.sight told (Leaves old.pass.sight new.pass.sight)
  answer_told Leaves came rings told left wakes answer woken = record {
    came = came;
    rings = rings;
    left = subst (λ (w : PlanWorker). Leaves w.pass.sight new.pass.sight came) was (subst (λ (w : PlanWorker). Leaves before.pass.sight w.pass.sight came) (sym is) left);
    answer = answer;
    wakes = subst (λ (w : PlanWorker). WakesBy (ends_hold came) w.pass.sight rings) (sym is) wakes;
    woken = woken;
  }

  pub next_told : (held : Next → Bool) (Leaves : Sight → Sight → Next → Type 0) (next : Next) (rings : Rings) (work : PlanWork) (told : PlanTold) → Leaves before.pass.sight behind.pass.sight next
      → WakesBy (held next) behind.pass.sight rings → TellsWork behind.pass.sight.seen.graph work next → plan_answer_of told.answer ≡ next_as next → TellsRings told rings
      → TellsNext held new.pass.sight work told (Leaves old.pass.sight new.pass.sight)
  next_told held Leaves next rings work told left wakes given answer woken = record {
    next = next;
    rings = rings;
    left = subst (λ (w : PlanWorker). Leaves w.pass.sight new.pass.sight next) was (subst (λ (w : PlanWorker). Leaves before.pass.sight w.pass.sight next) (sym is) left);
    answer = answer;
    work_is = subst (λ (w : PlanWorker). TellsWork w.pass.sight.seen.graph work next) (sym is) given;
    wakes = subst (λ (w : PlanWorker). WakesBy (held next) w.pass.sight rings) (sym is) wakes;
    woken = woken;
  }
