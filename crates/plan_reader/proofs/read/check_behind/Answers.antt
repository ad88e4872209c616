use Rattle.std.proofs.Common.{[], ◌∷◌, None}
use Rattle.std.proofs.lemmas.Result.{IfOk-weaker, IfErr-weaker}
use Rattle.plan_document.specs.View.{view}
use Rattle.plan_reader.specs.declared.rows.Row.TheVariants.{ReleaseNotLast, ClassLoader, TooMany, BadRequirements}
use Rattle.plan_reader.specs.Search.{row_refusal, refusal_behind}
use Rattle.plan_reader.specs.Reading.{RefusesBy}
use Rattle.plan_reader.proofs.Answering.{sooner, later, found_on, none_behind, third_refused}
use Rattle.plan_reader.proofs.read.check_behind.Goals as goal

pub returns-in_err-check-clause-err : goal.returns-in_err-check-clause-err
returns-in_err-check-clause-err c =
    let d = view c.args.document.now in
    found_on (refusal_behind d) _ _ c.from_residual.ensures.1 (sooner (row_refusal d ReleaseNotLast) _ _ c.in_err-check.ensures.err)

pub returns-in_err-check-2-clause-err : goal.returns-in_err-check-2-clause-err
returns-in_err-check-2-clause-err c =
    let d = view c.args.document.now in
    found_on (refusal_behind d) _ _ c.from_residual-in_err-check-2.ensures.1 (later (row_refusal d ReleaseNotLast) _ _ c.in_ok-check.ensures.ok (sooner (row_refusal d ClassLoader) _ _ c.in_err-check-2.ensures.err))

pub returns-in_err-check-3-clause-err : goal.returns-in_err-check-3-clause-err
returns-in_err-check-3-clause-err c =
    let d = view c.args.document.now in
    found_on (refusal_behind d) _ _ c.from_residual-in_err-check-3.ensures.1
    (third_refused d ReleaseNotLast ClassLoader (TooMany ∷ BadRequirements ∷ []) _ c.in_ok-check.ensures.ok c.in_ok-check-2.ensures.ok (sooner (row_refusal d TooMany) _ _ c.in_err-check-3.ensures.err))

pub returns-clause-ok : goal.returns-clause-ok
returns-clause-ok c =
    IfOk-weaker c.check-4.result _ _ (λ _ none. none_behind (view c.args.document.now) c.in_ok-check.ensures.ok c.in_ok-check-2.ensures.ok c.in_ok-check-3.ensures.ok none) c.check-4.ensures.ok

pub returns-clause-err : goal.returns-clause-err
returns-clause-err c =
    let d = view c.args.document.now in
    IfErr-weaker c.check-4.result _ (RefusesBy (refusal_behind d))
    (λ e found. third_refused d ReleaseNotLast ClassLoader (TooMany ∷ BadRequirements ∷ []) e c.in_ok-check.ensures.ok c.in_ok-check-2.ensures.ok
    (later (row_refusal d TooMany) _ e c.in_ok-check-3.ensures.ok (sooner (row_refusal d BadRequirements) None e found)))
    c.check-4.ensures.err
