use Rattle.coordination.proofs.GivenBooks.{given_owns, given_pass, given_worker, has_taken, has_taken_none}
use Rattle.coordination.proofs.PassSteps.{untold_in}
use Rattle.coordination.proofs.giving.Slot+Guarded+O+K.take_history_at.Goals as goal

pub give_held-taken-requires-clause-told : goal.give_held-taken-requires-clause-told
give_held-taken-requires-clause-told g c = untold_in c.args.seat.now.me c.take.new.seat.me c.take.ensures.taken c.args.notes.now.reach c.requires.pass.told

pub let_go-requires-clause-own : goal.let_go-requires-clause-own
let_go-requires-clause-own g c =
    let e = c.give_held-taken in
    given_owns c.args.seat.now.me c.take.new.seat.me e.new.seat.me c.take.ensures.taken e.ensures.same.2 e.result c.args.segment.now e.new.segment e.ensures.given e.ensures.not

pub returns-clause-pass : goal.returns-clause-pass
returns-clause-pass g c =
    let e = c.give_held-taken in
    given_pass c.args.seat.now.me c.take.new.seat.me e.new.seat.me c.take.ensures.taken e.ensures.same.2 e.result c.args.segment.now e.new.segment e.ensures.given e.ensures.not
    c.let_go.new.seat.me c.let_go.ensures.view _ c.args.notes.now e.new.reach c.requires.pass e.ensures.told

pub returns-clause-worker : goal.returns-clause-worker
returns-clause-worker g c =
    let e = c.give_held-taken in
    given_worker c.args.seat.now.me c.take.new.seat.me e.new.seat.me c.take.ensures.taken e.ensures.same.2 e.result c.args.segment.now e.new.segment e.ensures.given e.ensures.not
    c.let_go.new.seat.me c.let_go.ensures.view

pub returns-clause-taken : goal.returns-clause-taken
returns-clause-taken g c = λ yes.
    let e = c.give_held-taken in
    has_taken c.args.seat.now.me c.take.new.seat.me e.new.seat.me c.take.ensures.taken e.ensures.same.2 e.result c.args.segment.now e.new.segment e.ensures.given e.ensures.not
    c.let_go.new.seat.me c.let_go.ensures.view yes (e.ensures.can yes)

pub returns-clause-none : goal.returns-clause-none
returns-clause-none g c = λ no.
    let e = c.give_held-taken in
    has_taken_none c.args.seat.now.me c.take.new.seat.me e.new.seat.me c.take.ensures.taken e.ensures.same.2 e.result c.args.segment.now e.new.segment e.ensures.given e.ensures.not
    c.let_go.new.seat.me c.let_go.ensures.view no (e.ensures.why no)
