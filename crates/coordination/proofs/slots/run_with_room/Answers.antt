use Rattle.std.proofs.Common.{◌≤◌, ℕ, length, rules, arith}
use Rattle.lock_journal.specs.Names.{BookView, last_changes, locks_gained}
use Rattle.coordination.proofs.PassSteps.{room_for_fewer}
use Rattle.worker_notes.proofs.lemmas.LocksOnTheWay.{gained_by_fewer}
use Rattle.coordination.proofs.TakenBooks.{ran_of}
use Rattle.coordination.proofs.slots.run_with_room.Goals as goal

pub returns-clause-ran : goal.returns-clause-ran
returns-clause-ran g c =
    let T = g.T.Transform in
    let t = c.args.transform.now in
    let e = c.run.ensures in
    let B = g.K.Keeper.book_of in
    ran_of (T.kind_of t) (T.makes t) (T.fails_on t) (T.retries_on t) c.args.worker (B c.args.keeper.now) (B c.run.new.self) c.run.result e.finished e.failed e.retry (λ x is. search rules)

-- there is room for as many locks more as the transform gains at most
pub returns-clause-room : goal.returns-clause-room
returns-clause-room g c = λ is.
    let T = g.T.Transform in
    let t = c.args.transform.now in
    let B = g.K.Keeper.book_of in
    let old : BookView = B c.args.keeper.now in
    let made : ℕ = length (last_changes (B c.run.new.self).history) in
    let most : ℕ = T.most t old.graph c.args.worker old.state in
    let few : locks_gained (T.kind_of t) made ≤ locks_gained (T.kind_of t) most = gained_by_fewer (T.kind_of t) made most (c.run.ensures.few is) in
    room_for_fewer (locks_gained (T.kind_of t) made) c.more_locks.result c.args.part.now (omega (arith, few, c.more_locks.ensures.enough old.graph c.args.worker old.state, c.more_locks.ensures.value)) (c.has_room_for.ensures.room (search rules))
