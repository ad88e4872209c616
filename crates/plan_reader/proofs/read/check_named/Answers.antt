use Rattle.std.proofs.Common.{ap, ◌∙◌}
use Rattle.ready_work.specs.Rank.{lists_of}
use Rattle.plan_document.specs.View.{view}
use Rattle.plan_table.specs.Search.{table_refusal}
use Rattle.plan_reader.specs.Search.{twice_refusal, refusal_before}
use Rattle.plan_reader.specs.Reading.{AnswersBy}
use Rattle.plan_reader.proofs.Answering.{later, refused, none_before, ranks_refused, passed_on}
use Rattle.plan_reader.proofs.read.check_named.Goals as goal

pub returns-in_err-dependencies-clause-err : goal.returns-in_err-dependencies-clause-err
returns-in_err-dependencies-clause-err c =
    let d = view c.args.document.now in
    passed_on (AnswersBy (refusal_before d) d) _ _ c.from_residual.ensures.1 (refused d _ (later (table_refusal d) _ _ c.requires.formed (later (twice_refusal d) _ _ c.requires.once c.in_err-dependencies.ensures.err)))

pub check_ranked-requires-clause-dependencies : goal.check_ranked-requires-clause-dependencies
check_ranked-requires-clause-dependencies c = ap lists_of c.deref.ensures.value ∙ c.in_ok-dependencies.ensures.dependencies

pub check_ranked-requires-clause-before : goal.check_ranked-requires-clause-before
check_ranked-requires-clause-before c = none_before (view c.args.document.now) c.requires.formed c.requires.once c.in_ok-dependencies.ensures.ok

pub returns-in_err-check_ranked-clause-err : goal.returns-in_err-check_ranked-clause-err
returns-in_err-check_ranked-clause-err c =
    let d = view c.args.document.now in
    let none = none_before d c.requires.formed c.requires.once c.in_ok-dependencies.ensures.ok in
    passed_on (AnswersBy (refusal_before d) d) _ _ c.from_residual-in_err-check_ranked.ensures.1 (ranks_refused d _ none c.in_err-check_ranked.ensures.err)
