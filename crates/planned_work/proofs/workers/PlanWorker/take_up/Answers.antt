use Rattle.std.proofs.Common.{rules, ap, subst, true}
use Rattle.planned_work.specs.Trying.{had_hold}
use Rattle.planned_work.proofs.Held.{wakes_at}
use Rattle.planned_work.proofs.Leaving.{Ups, kept_inside}
use Rattle.planned_work.proofs.workers.PlanWorker.take_up.Goals as goal

-- what was decided is no entry
pub returns-in-Decided-2 : goal.returns-in-Decided-2
returns-in-Decided-2 c =
    let t = c.try_decision-tried in
    let old = c.args.self.now.pass.sight in
    record {
      left = kept_inside c.args.closed old t.new.pass.sight c.in-Decided.field-0 (search (rules, c.in-Decided.in-Decided-own'.refused-1)) (subst (Ups c.args.closed old t.new.pass.sight) c.in-Decided.is t.ensures.left);
      wakes = wakes_at (had_hold t.result.0) true t.new.pass.sight t.result.1 (ap had_hold c.in-Decided.is) t.ensures.wakes;
    }
