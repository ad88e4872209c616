use Rattle.history_text.specs.HistoryView.{history_view}
use Rattle.history_check.proofs.Admissions.{finished_whole}
use Rattle.whole_histories.proofs.whole.admit.Goals as goal

pub returns : goal.returns
returns c =
    finished_whole c.args.plan.now (history_view c.args.history.now) c.in_ok-check.check c.in_ok-check.ensures c.answer-answer.result c.finish.result
    (c.answer-answer.ensures c.args.plan.now (history_view c.args.history.now) c.in_ok-check.ensures) c.finish.ensures
