use Rattle.std.proofs.Common.{ℕ, ◌≡◌, ◌∙◌, Option, Some, None, IfNone, IfSome, sym, subst}
use Rattle.lock_journal.specs.BookView.{BookView}
use Rattle.planned_work.specs.declared.numbers.Numbered.{Numbered}
use Rattle.wakhurmi_c.specs.OutcomeCalls.{IsUntold, TellsUnit, item_asked}
use Rattle.wakhurmi_c.specs.PlanNumbers.{plan_answer_of}
use Rattle.wakhurmi_c.specs.declared.plan_answers.PlanAnswer.{PlanAnswer}
use Rattle.wakhurmi_c.specs.declared.plan_answers.PlanAnswer.TheVariants.{Done, BadNumber}
use Rattle.wakhurmi_c.specs.declared.plan_answers.PlanOutcome.{PlanOutcome}
use Rattle.wakhurmi_c.proofs.outcome_calls.wakhurmi_c_item_outcome.Goals as goal

-- what is written is what was found
told_as : (book : BookView) (place : Numbered) (told : Option PlanOutcome) (old new : PlanOutcome) (answer : PlanAnswer) → IfSome told (λ t. TellsUnit book place t Done) → IfNone told (IsUntold book place)
    → IfSome told (λ t. (new ≡ t) × (answer ≡ Done)) → IfNone told ((new ≡ old) × (answer ≡ BadNumber)) → TellsUnit book place new answer
told_as book place (Some t) old new answer some none written refused = subst (TellsUnit book place new) (sym written.1) (subst (λ o. TellsUnit book place o Done) (sym written.0) some)
told_as book place None old new answer some none written refused = subst (TellsUnit book place new) (sym refused.1) none

pub returns-clause-told : goal.returns-clause-told
returns-clause-told c =
    let found = c.deref.ensures ∙ c.take-found.ensures.book in
    let place : Option ℕ → Numbered = λ item. record { task = c.args.task; action = c.args.action; item = item } in
    let told =
    told_as c.deref.result.now (place c.item_asked-item.result) c.unit_told-told.result c.args.outcome.now c.answer_with.new.outcome (plan_answer_of c.answer_with.result) c.unit_told-told.ensures.some c.unit_told-told.ensures.none
    c.answer_with.ensures.some c.answer_with.ensures.none in
    λ full. subst (λ (book : BookView). TellsUnit book (place (item_asked c.args.item)) c.answer_with.new.outcome (plan_answer_of c.answer_with.result)) found
    (subst (λ item. TellsUnit c.deref.result.now (place item) c.answer_with.new.outcome (plan_answer_of c.answer_with.result)) c.item_asked-item.ensures told)
