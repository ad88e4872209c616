use Rattle.plan_document.specs.View.{view}
use Rattle.plan_reader.specs.Search.{refusal_before}
use Rattle.plan_reader.specs.Reading.{AnswersBy}
use Rattle.plan_reader.proofs.Answering.{answered, answers_by, handed_on}
use Rattle.plan_reader.proofs.read.read_tables.Goals as goal

pub returns-in_err-dependencies : goal.returns-in_err-dependencies
returns-in_err-dependencies c =
    let d = view c.args.document in
    handed_on (AnswersBy (refusal_before d) d) _ _ c.from_residual.ensures.1 c.in_err-dependencies.ensures.err

pub returns : goal.returns
returns c =
    let d = view c.args.document in
    let fine = c.in_ok-dependencies.ensures.accepted in
    answers_by d _ fine.before (answered d _ fine.ranked fine.behind c.plan_of.ensures.plan c.plan_of.ensures.memory)
