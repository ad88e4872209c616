use Rattle.std.proofs.Common.{◌≡◌, ap, sym, subst}
use Rattle.coordination.specs.Names.{AnswersWith, WaitsWith, sight_of, seeing, M, carried_book}
use Rattle.coordination.specs.declared.rule.SeatView.{SeatView}
use Rattle.lock_journal.specs.BookView.{BookView}
use Rattle.history_views.specs.ShownBooks.{IsTold}
use Rattle.coordination.proofs.TakenBooks.{keeps, after_ask, taken_book}
use Rattle.coordination.proofs.PassSteps.{closes_pass, part_on, untold_in}
use Rattle.coordination.proofs.slots.Slot.ask_at.Goals as goal

pub put_back-requires-clause-own : goal.put_back-requires-clause-own
put_back-requires-clause-own g c =
    let Q = g.Q.Question in
    let q = c.args.question.now in
    let queued = c.args.sleepers.now.queued in
    keeps (AnswersWith queued (Q.answers q)) (WaitsWith queued (Q.waits_on q)) c.ask_book-answer.result.0 c.args.seat.now.me c.try_take.new.seat.me c.ask_book-answer.new.seat.me (c.try_take.ensures.taken c.if-not-try_take.false) c.ask_book-answer.ensures.same.2 c.args.worker
    c.requires.pass.worker_is

pub ask_book-answer-requires-clause-told : goal.ask_book-answer-requires-clause-told
ask_book-answer-requires-clause-told g c = untold_in c.args.seat.now.me c.try_take.new.seat.me (c.try_take.ensures.taken c.if-not-try_take.false) c.args.notes.now.reach c.requires.pass.told

pub returns-clause-pass : goal.returns-clause-pass
returns-clause-pass g c =
    let Q = g.Q.Question in
    let q = c.args.question.now in
    let queued = c.args.sleepers.now.queued in
    let me = c.args.seat.now.me in
    let asked = c.ask_book-answer.new.seat.me in
    let e = c.ask_book-answer.ensures in
    let t = c.try_take.ensures.taken c.if-not-try_take.false in
    let is : sight_of c.put_back.new.seat.me.0 ≡ seeing (sight_of me.0) t.book =
    after_ask (AnswersWith queued (Q.answers q)) (WaitsWith queued (Q.waits_on q)) c.ask_book-answer.result.0 me c.try_take.new.seat.me asked t e.same.2 c.args.worker c.requires.pass.worker_is c.put_back.new.seat.me c.put_back.ensures.view in
    closes_pass c.args.worker (record { part = c.args.notes.now.part; reach = c.ask_book-answer.new.reach }) c.put_back.new.seat.me asked.0.ledger (seeing (sight_of asked.0) (carried_book asked.1)) (seeing (sight_of me.0) t.book) c.put_back.ensures.view is
    c.requires.pass.worker_is (part_on _ _ t.book c.args.notes.now.part t.found.agrees c.requires.pass.part_is) c.requires.pass.room
    (subst (λ (p : SeatView × BookView). IsTold p.0.ledger c.ask_book-answer.new.reach p.1) (λ i. (sym (ap (λ (m : M). m.0) e.same.2) i, taken_book me c.try_take.new.seat.me t i)) e.told)
