use Rattle.std.proofs.Common.{sym, ap, ◌∙◌}
use Rattle.planned_work.specs.Done.{had_hold_closing}
use Rattle.planned_work.proofs.Held.{answer_held, wakes_at}
use Rattle.planned_work.specs.Done.{ends_hold}
use Rattle.planned_work.proofs.workers.PlanWorker.done_next_in.Goals as goal

pub returns-in-Fetch-clause-wakes : goal.returns-in-Fetch-clause-wakes
returns-in-Fetch-clause-wakes c =
    let t = c.take_up-answer in
    wakes_at (ends_hold t.result.0) (had_hold_closing c.next_of_answer.result) t.new.self.pass.sight t.result.1 (answer_held t.result.0 ∙ ap had_hold_closing (sym c.next_of_answer.ensures)) t.ensures.wakes
