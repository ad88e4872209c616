use Rattle.std.proofs.Common.{sym, ap, ◌∙◌, subst}
use Rattle.planned_work.specs.Done.{DoneNextLeaves, ends_hold, had_hold_closing}
use Rattle.planned_work.specs.Places.{closes}
use Rattle.planned_work.proofs.Held.{answer_held, wakes_at}
use Rattle.planned_work.proofs.Never.{done_next_answers}
use Rattle.planned_work.proofs.Whole.{leaves_done_next, leaves_known}
use Rattle.planned_work.proofs.workers.PlanWorker.done_next.Goals as goal

pub returns-then-knows_stop-clause-left : goal.returns-then-knows_stop-clause-left
returns-then-knows_stop-clause-left c =
    let old = c.args.self.now.pass.sight in
    let d = c.done-answer in
    let may = ap closes (sym c.place_of-place.ensures) ∙ sym c.closes.ensures ∙ c.if-not-closes.false in
    subst (DoneNextLeaves c.args.gave old d.new.self.pass.sight) (sym c.next_of_answer.ensures) (leaves_known c.args.gave old d.new.self.pass.sight d.result.0 may (c.knows_stop.ensures.knows c.if-knows_stop.true) d.ensures.left)

pub returns-then-knows_stop-clause-wakes : goal.returns-then-knows_stop-clause-wakes
returns-then-knows_stop-clause-wakes c =
    let d = c.done-answer in
    wakes_at (ends_hold d.result.0) (had_hold_closing c.next_of_answer.result) d.new.self.pass.sight d.result.1 (answer_held d.result.0 ∙ ap had_hold_closing (sym c.next_of_answer.ensures)) d.ensures.wakes

pub returns-clause-left : goal.returns-clause-left
returns-clause-left c =
    let n = c.done_next_in in
    leaves_done_next c.args.gave c.args.self.now.pass.sight n.new.self.pass.sight c.place_of-place.result n.result.0 (sym c.place_of-place.ensures) (c.knows_stop.ensures.unknown c.if-knows_stop.false) n.ensures.left

pub returns-then-knows_stop-clause-never : goal.returns-then-knows_stop-clause-never
returns-then-knows_stop-clause-never c =
    done_next_answers c.args.self.now.pass.sight c.done-answer.new.self.pass.sight c.args.self.now.fit c.args.gave c.next_of_answer.result (returns-then-knows_stop-clause-left c)

pub returns-clause-never : goal.returns-clause-never
returns-clause-never c =
    let n = c.done_next_in in
    done_next_answers c.args.self.now.pass.sight n.new.self.pass.sight c.args.self.now.fit c.args.gave n.result.0 (returns-clause-left c)
