use Rattle.std.proofs.Common.{◌≡◌, sym, subst}
use Rattle.resource_lock.specs.declared.ids.WorkerId.{WorkerId}
use Rattle.coordination.specs.Names.{sight_of, seeing, carried_book, IsPartOf}
use Rattle.coordination.specs.declared.rule.SeatView.{SeatView}
use Rattle.history_views.specs.ShownBooks.{IsTold}
use Rattle.coordination.proofs.TakenBooks.{after, attempted, known_in, owns, part_in, sound_in}
use Rattle.coordination.proofs.PassSteps.{closes_pass, untold_in}
use Rattle.coordination.proofs.slots.Slot.attempt_at.Goals as goal

pub put_back-requires-clause-own : goal.put_back-requires-clause-own
put_back-requires-clause-own g c =
    let T = g.T.Transform in
    let t = c.args.transform.now in
    owns (T.kind_of t) (T.makes t) (T.fails_on t) (T.retries_on t) c.run-ran.result.0 c.args.seat.now.me c.try_take.new.seat.me c.run-ran.new.seat.me (c.try_take.ensures.taken c.if-not-try_take.false) c.run-ran.ensures.same.2 c.args.worker
    c.requires.pass.worker_is c.run-ran.ensures.run.graph c.run-ran.ensures.run.ran

pub run-ran-requires-clause-part : goal.run-ran-requires-clause-part
run-ran-requires-clause-part g c =
    let taken = c.try_take.ensures.taken c.if-not-try_take.false in
    let p = c.requires.pass in record {
      known = known_in c.args.seat.now.me c.try_take.new.seat.me taken c.args.worker p.worker_is;
      sound = sound_in c.args.seat.now.me c.try_take.new.seat.me taken;
      kept = part_in c.args.seat.now.me c.try_take.new.seat.me taken c.args.worker c.args.notes.now.part p.worker_is p.part_is;
      room = p.room;
    }

pub run-ran-requires-clause-told : goal.run-ran-requires-clause-told
run-ran-requires-clause-told g c = untold_in c.args.seat.now.me c.try_take.new.seat.me (c.try_take.ensures.taken c.if-not-try_take.false) c.args.notes.now.reach c.requires.pass.told

pub returns-clause-pass : goal.returns-clause-pass
returns-clause-pass g c =
    let T = g.T.Transform in
    let t = c.args.transform.now in
    let me = c.args.seat.now.me in
    let ran = c.run-ran.new.seat.me in
    let taken = c.try_take.ensures.taken c.if-not-try_take.false in
    let new = carried_book ran.1 in
    let worker_is = c.requires.pass.worker_is in
    let e = c.run-ran.ensures in
    let is : sight_of c.put_back.new.seat.me.0 ≡ seeing (sight_of me.0) new =
    after (T.kind_of t) (T.makes t) (T.fails_on t) (T.retries_on t) c.run-ran.result.0 me c.try_take.new.seat.me ran taken e.same.2 c.args.worker worker_is e.run.graph e.run.ran c.put_back.new.seat.me c.put_back.ensures.view in
    closes_pass c.args.worker c.run-ran.new.notes c.put_back.new.seat.me ran.0.ledger (seeing (sight_of ran.0) new) (seeing (sight_of me.0) new) c.put_back.ensures.view is worker_is
    (subst (λ (w : WorkerId). IsPartOf new w c.run-ran.new.notes.part) worker_is e.run.kept) e.run.room (subst (λ (v : SeatView). IsTold v.ledger c.run-ran.new.notes.reach new) (sym e.same.2) e.told)

pub returns-clause-some : goal.returns-clause-some
returns-clause-some g c =
    let T = g.T.Transform in
    let t = c.args.transform.now in
    attempted (T.kind_of t) (T.makes t) (T.fails_on t) (T.retries_on t) c.run-ran.result.0 c.args.seat.now.me c.try_take.new.seat.me c.run-ran.new.seat.me (c.try_take.ensures.taken c.if-not-try_take.false) c.run-ran.ensures.same.2 c.args.worker
    c.requires.pass.worker_is c.run-ran.ensures.run.graph c.run-ran.ensures.run.ran c.put_back.new.seat.me c.put_back.ensures.view
