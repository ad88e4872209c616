use Rattle.std.proofs.Common.{sym, ap, ◌∙◌, subst}
use Rattle.planned_work.specs.Next.{NextIn, had_hold}
use Rattle.planned_work.specs.Trying.{had_hold as tried_hold}
use Rattle.planned_work.specs.declared.places.Place.TheVariants as places
use Rattle.planned_work.proofs.Choices.{moved_in}
use Rattle.planned_work.proofs.Held.{moved_held, wakes_at}
use Rattle.planned_work.proofs.workers.PlanWorker.next_in_task.Goals as goal

pub returns-clause-left : goal.returns-clause-left
returns-clause-left c =
    let t = c.try_decision-tried in
    subst (NextIn (places.InTask c.args.task) c.args.self.now.pass.sight t.new.pass.sight) (sym c.moved_next.ensures)
    (moved_in c.args.task c.args.self.now.pass.sight t.new.pass.sight t.result.0 c.requires t.ensures.left)

pub returns-clause-wakes : goal.returns-clause-wakes
returns-clause-wakes c =
    let t = c.try_decision-tried in
    wakes_at (tried_hold t.result.0) (had_hold c.moved_next.result) t.new.pass.sight t.result.1 (moved_held t.result.0 ∙ ap had_hold (sym c.moved_next.ensures)) t.ensures.wakes
