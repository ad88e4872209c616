use Rattle.std.proofs.Common.{rules, sym, ap, ◌∙◌, subst}
use Rattle.planned_work.specs.Done.{ends_hold}
use Rattle.planned_work.specs.Sections.{EnterLeaves}
use Rattle.planned_work.specs.Trying.{had_hold_run}
use Rattle.planned_work.proofs.Held.{ran_held, wakes_at}
use Rattle.planned_work.proofs.Leaving.{entry_leaves}
use Rattle.planned_work.proofs.Never.{enter_answers}
use Rattle.planned_work.proofs.workers.PlanWorker.enter.Goals as goal

pub try_run-ran-requires-clause-never_fails : goal.try_run-ran-requires-clause-never_fails
try_run-ran-requires-clause-never_fails c = λ g w s no. no

pub returns-clause-left : goal.returns-clause-left
returns-clause-left c =
    let t = c.try_run-ran in
    subst (EnterLeaves c.args.self.now.pass.sight t.new.pass.sight) (sym c.answer_of.ensures) (entry_leaves c.args.self.now.pass.sight t.new.pass.sight t.result.0 t.ensures.left)

pub returns-clause-wakes : goal.returns-clause-wakes
returns-clause-wakes c =
    let t = c.try_run-ran in
    wakes_at (had_hold_run t.result.0) (ends_hold c.answer_of.result) t.new.pass.sight t.result.1 (ran_held t.result.0 ∙ ap ends_hold (sym c.answer_of.ensures)) t.ensures.wakes

pub returns-clause-never : goal.returns-clause-never
returns-clause-never c = enter_answers c.args.self.now.pass.sight c.try_run-ran.new.pass.sight c.answer_of.result (search rules) (returns-clause-left c)
