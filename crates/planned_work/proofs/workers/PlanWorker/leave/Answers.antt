use Rattle.std.proofs.Common.{sym, ◌∙◌}
use Rattle.planned_work.proofs.Never.{leave_answers}
use Rattle.planned_work.proofs.workers.PlanWorker.leave.Goals as goal

pub returns-in-Section-clause-never : goal.returns-in-Section-clause-never
returns-in-Section-clause-never c =
    let t = c.take_up in
    leave_answers c.args.self.now.pass.sight t.new.self.pass.sight t.result.0 (sym c.place_of.ensures ∙ c.in-Section.is) t.ensures.left
