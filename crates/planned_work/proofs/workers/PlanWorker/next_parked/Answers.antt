use Rattle.std.proofs.Common.{sym, ap, ◌∙◌, subst}
use Rattle.planned_work.specs.Next.{NextIn, had_hold}
use Rattle.planned_work.specs.Trying.{had_hold as tried_hold}
use Rattle.planned_work.specs.declared.places.Place.TheVariants as places
use Rattle.planned_work.proofs.Choices.{parked_in}
use Rattle.planned_work.proofs.Held.{parked_held, wakes_at}
use Rattle.planned_work.proofs.workers.PlanWorker.next_parked.Goals as goal

pub returns-clause-left : goal.returns-clause-left
returns-clause-left c =
    let t = c.try_decision-tried in
    subst (NextIn (places.Parked c.args.action) c.args.self.now.pass.sight t.new.pass.sight) (sym c.parked_next.ensures)
    (parked_in c.args.action c.args.self.now.pass.sight t.new.pass.sight t.result.0 c.requires t.ensures.left)

pub returns-clause-wakes : goal.returns-clause-wakes
returns-clause-wakes c =
    let t = c.try_decision-tried in
    wakes_at (tried_hold t.result.0) (had_hold c.parked_next.result) t.new.pass.sight t.result.1 (parked_held c.args.action t.result.0 ∙ ap had_hold (sym c.parked_next.ensures)) t.ensures.wakes
