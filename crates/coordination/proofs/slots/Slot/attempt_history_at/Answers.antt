use Rattle.coordination.proofs.GivenBooks.{given_owns, given_pass, has_taken, has_taken_none}
use Rattle.coordination.proofs.PassSteps.{untold_in}
use Rattle.coordination.proofs.slots.Slot.attempt_history_at.Goals as goal

pub give_held-taken-requires-clause-told : goal.give_held-taken-requires-clause-told
give_held-taken-requires-clause-told g c = untold_in c.args.seat.now.me c.try_take.new.seat.me (c.try_take.ensures.taken c.if-not-try_take.false) c.args.notes.now.reach c.requires.pass.told

pub put_back-requires-clause-own : goal.put_back-requires-clause-own
put_back-requires-clause-own g c =
    let e = c.give_held-taken in
    given_owns c.args.seat.now.me c.try_take.new.seat.me e.new.seat.me (c.try_take.ensures.taken c.if-not-try_take.false) e.ensures.same.2 e.result c.args.segment.now e.new.segment e.ensures.given e.ensures.not

pub returns-clause-pass : goal.returns-clause-pass
returns-clause-pass g c =
    let e = c.give_held-taken in
    given_pass c.args.seat.now.me c.try_take.new.seat.me e.new.seat.me (c.try_take.ensures.taken c.if-not-try_take.false) e.ensures.same.2 e.result c.args.segment.now e.new.segment e.ensures.given e.ensures.not
    c.put_back.new.seat.me c.put_back.ensures.view _ c.args.notes.now e.new.reach c.requires.pass e.ensures.told

pub returns-clause-taken : goal.returns-clause-taken
returns-clause-taken g c = λ yes.
    let e = c.give_held-taken in
    has_taken c.args.seat.now.me c.try_take.new.seat.me e.new.seat.me (c.try_take.ensures.taken c.if-not-try_take.false) e.ensures.same.2 e.result c.args.segment.now e.new.segment e.ensures.given e.ensures.not
    c.put_back.new.seat.me c.put_back.ensures.view yes (e.ensures.can yes)

pub returns-clause-none : goal.returns-clause-none
returns-clause-none g c = λ no.
    let e = c.give_held-taken in
    has_taken_none c.args.seat.now.me c.try_take.new.seat.me e.new.seat.me (c.try_take.ensures.taken c.if-not-try_take.false) e.ensures.same.2 e.result c.args.segment.now e.new.segment e.ensures.given e.ensures.not
    c.put_back.new.seat.me c.put_back.ensures.view no (e.ensures.why no)
