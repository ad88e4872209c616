use Rattle.std.proofs.Common.{◌≡◌, sym, subst}
use Rattle.resource_lock.specs.declared.ids.WorkerId.{WorkerId}
use Rattle.coordination.specs.Names.{sight_of, seeing, carried_book, AreTold, IsPartOf}
use Rattle.coordination.specs.declared.rule.SeatView.{SeatView}
use Rattle.history_views.specs.ShownBooks.{IsTold}
use Rattle.coordination.proofs.TakenBooks.{known_in, part_in, sound_in, turn_after, turn_owns, turned}
use Rattle.coordination.proofs.PassSteps.{closes_pass, untold_in}
use Rattle.coordination.proofs.holds.Slot+Guarded+O+K.hold_at.Goals as goal

pub let_go-requires-clause-own : goal.let_go-requires-clause-own
let_go-requires-clause-own g c =
    let T = g.T.Turn in
    let t = c.args.turn.now in
    let a = c.act_held-ended in
    turn_owns (T.gives t (AreTold g.O.Offers.tells)) (T.waits_on t (AreTold g.O.Offers.tells)) (T.runs t (AreTold g.O.Offers.tells)) a.result.0 a.new.notes.part c.args.seat.now.me c.take.new.seat.me a.new.seat.me c.take.ensures.taken a.ensures.same.2 c.args.caller.worker c.requires.pass.worker_is a.ensures.left

pub act_held-ended-requires-clause-part : goal.act_held-ended-requires-clause-part
act_held-ended-requires-clause-part g c =
    let taken = c.take.ensures.taken in
    let p = c.requires.pass in record {
      known = known_in c.args.seat.now.me c.take.new.seat.me taken c.args.caller.worker p.worker_is;
      sound = sound_in c.args.seat.now.me c.take.new.seat.me taken;
      kept = part_in c.args.seat.now.me c.take.new.seat.me taken c.args.caller.worker c.args.notes.now.part p.worker_is p.part_is;
      room = p.room;
    }

pub act_held-ended-requires-clause-told : goal.act_held-ended-requires-clause-told
act_held-ended-requires-clause-told g c = untold_in c.args.seat.now.me c.take.new.seat.me c.take.ensures.taken c.args.notes.now.reach c.requires.pass.told

pub returns-clause-pass : goal.returns-clause-pass
returns-clause-pass g c =
    let T = g.T.Turn in
    let t = c.args.turn.now in
    let a = c.act_held-ended in
    let me = c.args.seat.now.me in
    let ran = a.new.seat.me in
    let new = carried_book ran.1 in
    let e = a.ensures in
    let worker_is = c.requires.pass.worker_is in
    let is : sight_of c.let_go.new.seat.me.0 ≡ seeing (sight_of me.0) new =
    turn_after (T.gives t (AreTold g.O.Offers.tells)) (T.waits_on t (AreTold g.O.Offers.tells)) (T.runs t (AreTold g.O.Offers.tells)) a.result.0 a.new.notes.part me c.take.new.seat.me ran c.take.ensures.taken e.same.2 c.args.caller.worker worker_is e.left c.let_go.new.seat.me c.let_go.ensures.view in
    closes_pass c.args.caller.worker a.new.notes c.let_go.new.seat.me ran.0.ledger (seeing (sight_of ran.0) new) (seeing (sight_of me.0) new) c.let_go.ensures.view is worker_is
    (subst (λ (w : WorkerId). IsPartOf new w a.new.notes.part) worker_is e.left.kept) e.left.room (subst (λ (v : SeatView). IsTold v.ledger a.new.notes.reach new) (sym e.same.2) e.told)

pub returns-clause-turned : goal.returns-clause-turned
returns-clause-turned g c =
    let T = g.T.Turn in
    let t = c.args.turn.now in
    let a = c.act_held-ended in
    turned (T.gives t (AreTold g.O.Offers.tells)) (T.waits_on t (AreTold g.O.Offers.tells)) (T.runs t (AreTold g.O.Offers.tells)) a.result.0 a.new.notes.part c.args.seat.now.me c.take.new.seat.me a.new.seat.me c.take.ensures.taken a.ensures.same.2 c.args.caller.worker c.requires.pass.worker_is a.ensures.left c.let_go.new.seat.me c.let_go.ensures.view
