use Rattle.history_text.specs.HistoryView.{history_view}
use Rattle.whole_histories.proofs.OneByOne.{answered}
use Rattle.whole_histories.proofs.whole.check.Goals as goal

pub returns : goal.returns
returns c = answered c.args.plan.now (history_view c.args.history.now) c.in_ok-check.check c.answer.result c.in_ok-check.ensures c.answer.ensures
