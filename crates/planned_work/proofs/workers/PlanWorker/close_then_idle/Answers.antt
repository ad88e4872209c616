use Rattle.std.proofs.Common.{sym, ap, ◌∙◌, subst}
use Rattle.planned_work.specs.Done.{ClosedThen, had_hold_closing}
use Rattle.planned_work.specs.Trying.{had_hold_behind}
use Rattle.planned_work.specs.declared.places.Place.TheVariants as places
use Rattle.planned_work.proofs.Closings.{idle_behind}
use Rattle.planned_work.proofs.Held.{idle_behind_held, wakes_at}
use Rattle.planned_work.proofs.workers.PlanWorker.close_then_idle.Goals as goal

pub returns-clause-left : goal.returns-clause-left
returns-clause-left c =
    let t = c.try_then-behind in
    subst (ClosedThen c.args.closed places.Idle c.args.self.now.pass.sight t.new.pass.sight) (sym c.idle_then.ensures)
    (idle_behind c.args.closed c.args.self.now.pass.sight t.new.pass.sight t.result.0 t.ensures.left)

pub returns-clause-wakes : goal.returns-clause-wakes
returns-clause-wakes c =
    let t = c.try_then-behind in
    wakes_at (had_hold_behind t.result.0) (had_hold_closing c.idle_then.result) t.new.pass.sight t.result.1 (idle_behind_held t.result.0 ∙ ap had_hold_closing (sym c.idle_then.ensures)) t.ensures.wakes
