use Rattle.std.proofs.Common.{◌≡◌, sym, subst}
use Rattle.resource_lock.specs.declared.ids.WorkerId.{WorkerId}
use Rattle.coordination.specs.Names.{sight_of, seeing, carried_book, TellsOwn, IsPartOf}
use Rattle.coordination.specs.declared.rule.SeatView.{SeatView}
use Rattle.coordination.specs.declared.rule.Sight.{Sight}
use Rattle.history_views.specs.ShownBooks.{IsTold}
use Rattle.coordination.specs.Planned.{HasEndedTry}
use Rattle.coordination.proofs.TakenBooks.{known_in, part_in, sound_in, turn_after, turn_owns, turned}
use Rattle.coordination.proofs.PassSteps.{closes_pass, untold_in}
use Rattle.coordination.proofs.planned.Slot+Planned.attempt_turn_at.Goals as goal

pub put_back-requires-clause-own : goal.put_back-requires-clause-own
put_back-requires-clause-own g c =
    let T = g.T.Turn in
    let t = c.args.turn.now in
    let a = c.act_planned-ended in
    turn_owns (T.gives t TellsOwn) (T.waits_on t TellsOwn) (T.runs t TellsOwn) a.result.0 a.new.notes.part c.args.seat.now.me c.try_take.new.seat.me a.new.seat.me (c.try_take.ensures.taken c.if-not-try_take.false) a.ensures.same.2 c.args.caller.worker c.requires.pass.worker_is a.ensures.left

pub act_planned-ended-requires-clause-part : goal.act_planned-ended-requires-clause-part
act_planned-ended-requires-clause-part g c =
    let taken = c.try_take.ensures.taken c.if-not-try_take.false in
    let p = c.requires.pass in record {
      known = known_in c.args.seat.now.me c.try_take.new.seat.me taken c.args.caller.worker p.worker_is;
      sound = sound_in c.args.seat.now.me c.try_take.new.seat.me taken;
      kept = part_in c.args.seat.now.me c.try_take.new.seat.me taken c.args.caller.worker c.args.notes.now.part p.worker_is p.part_is;
      room = p.room;
    }

pub act_planned-ended-requires-clause-told : goal.act_planned-ended-requires-clause-told
act_planned-ended-requires-clause-told g c = untold_in c.args.seat.now.me c.try_take.new.seat.me (c.try_take.ensures.taken c.if-not-try_take.false) c.args.notes.now.reach c.requires.pass.told

pub returns-clause-pass : goal.returns-clause-pass
returns-clause-pass g c =
    let T = g.T.Turn in
    let t = c.args.turn.now in
    let a = c.act_planned-ended in
    let me = c.args.seat.now.me in
    let ran = a.new.seat.me in
    let new = carried_book ran.1 in
    let e = a.ensures in
    let worker_is = c.requires.pass.worker_is in
    let is : sight_of c.put_back.new.seat.me.0 ≡ seeing (sight_of me.0) new =
    turn_after (T.gives t TellsOwn) (T.waits_on t TellsOwn) (T.runs t TellsOwn) a.result.0 a.new.notes.part me c.try_take.new.seat.me ran (c.try_take.ensures.taken c.if-not-try_take.false) e.same.2 c.args.caller.worker worker_is e.left c.put_back.new.seat.me c.put_back.ensures.view in
    closes_pass c.args.caller.worker a.new.notes c.put_back.new.seat.me ran.0.ledger (seeing (sight_of ran.0) new) (seeing (sight_of me.0) new) c.put_back.ensures.view is worker_is
    (subst (λ (w : WorkerId). IsPartOf new w a.new.notes.part) worker_is e.left.kept) e.left.room (subst (λ (v : SeatView). IsTold v.ledger a.new.notes.reach new) (sym e.same.2) e.told)

pub returns-clause-turned : goal.returns-clause-turned
returns-clause-turned g c =
    let T = g.T.Turn in
    let t = c.args.turn.now in
    let a = c.act_planned-ended in
    turned (T.gives t TellsOwn) (T.waits_on t TellsOwn) (T.runs t TellsOwn) a.result.0 a.new.notes.part c.args.seat.now.me c.try_take.new.seat.me a.new.seat.me (c.try_take.ensures.taken c.if-not-try_take.false) a.ensures.same.2 c.args.caller.worker c.requires.pass.worker_is a.ensures.left c.put_back.new.seat.me c.put_back.ensures.view

pub returns-clause-ends : goal.returns-clause-ends
returns-clause-ends g c =
    let T = g.T.Turn in
    let t = c.args.turn.now in
    let a = c.act_planned-ended in
    let me = c.args.seat.now.me in
    let found = carried_book c.try_take.new.seat.me.1 in
    let new = carried_book a.new.seat.me.1 in
    let behind = c.args.caller.behind in
    let worker_is = c.requires.pass.worker_is in
    let is : sight_of c.put_back.new.seat.me.0 ≡ seeing (sight_of me.0) new =
    turn_after (T.gives t TellsOwn) (T.waits_on t TellsOwn) (T.runs t TellsOwn) a.result.0 a.new.notes.part me c.try_take.new.seat.me a.new.seat.me (c.try_take.ensures.taken c.if-not-try_take.false) a.ensures.same.2 c.args.caller.worker worker_is a.ensures.left c.put_back.new.seat.me
    c.put_back.ensures.view in (
      behind,
      found,
      subst (λ (s : Sight). HasEndedTry s.worker behind found s.seen a.result.1 a.result.2) (sym is) (subst (λ (w : WorkerId). HasEndedTry w behind found new a.result.1 a.result.2) worker_is a.ensures.ends),
    )
