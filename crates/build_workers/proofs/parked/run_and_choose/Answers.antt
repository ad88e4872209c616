use Rattle.std.proofs.Common.{IfOk, List, subst, sym}
use Rattle.std.specs.Prelude.{Contains}
use Rattle.lock_journal.specs.Names.{GraphView, MarkId, UnitOf, mark_before}
use Rattle.lock_journal.proofs.lemmas.Claims.{has_member}
use Rattle.coordination.specs.Names.{TellsOwn, claimed_shown}
use Rattle.async_tracker.specs.NextWork.{ShowsParkedWork}
use Rattle.async_tracker.specs.Shows.{IsItemHere, ShowsClosed}
use Rattle.async_tracker.proofs.lemmas.NextWork.{DecidesParked}
use Rattle.build_workers.specs.Helping.{HasRunBefore}
use Rattle.build_workers.proofs.ChosenBehind.{decided_behind, step_behind}
use Rattle.build_workers.proofs.lemmas.Results.{if_ok}
use Rattle.build_workers.proofs.parked.run_and_choose.Goals as goal

pub run_and_close-requires-clause-item : goal.run_and_close-requires-clause-item
run_and_close-requires-clause-item g c κs within = subst (λ (k : GraphView). IsItemHere k c.args.unit) c.requires.of.at.graph c.requires.claimed.1.2.item

pub run_and_close-requires-clause-claimed : goal.run_and_close-requires-clause-claimed
run_and_close-requires-clause-claimed g c κs within =
    let base = c.requires.claimed.0 in
    let was = c.requires.claimed.1 in
    subst (λ (ms : List MarkId). Contains ms (UnitOf c.args.unit)) (sym was.2.shows.claimed) (has_member mark_before (UnitOf c.args.unit) (claimed_shown base))

pub run_and_close-requires-clause-lease : goal.run_and_close-requires-clause-lease
run_and_close-requires-clause-lease g c κs within = c.requires.claimed.1.2.shows.lease

pub returns-clause-step : goal.returns-clause-step
returns-clause-step g c =
    let left = c.run_and_close in
    let a = c.action.result in
    let d = c.in_ok-decided.decided in
    step_behind c.args.unit left.ensures.fits a d
    (if_ok (λ x. HasRunBefore c.args.site.now c.args.worker.now left.new.worker (ShowsClosed c.args.unit) (λ s. DecidesParked TellsOwn a s left.new.worker.pass.sight x)) left.result d c.in_ok-decided.was left.ensures.ran)

pub returns-clause-shows : goal.returns-clause-shows
returns-clause-shows g c = λ base was.
    let left = c.run_and_close in
    let p = c.args.parked.now in
    let d = c.in_ok-decided.decided in
    let old = c.args.worker.now in
    let new = left.new.worker in
    let ran = subst (λ a. IfOk left.result (λ x. HasRunBefore c.args.site.now old new (ShowsClosed c.args.unit) (λ s. DecidesParked TellsOwn a s new.pass.sight x))) c.action.ensures left.ensures.ran in
    subst (ShowsParkedWork p.action base new.pass.sight) (sym c.parked_work_of.ensures)
    (decided_behind c.args.unit left.ensures.fits p base d
    (if_ok (λ x. HasRunBefore c.args.site.now old new (ShowsClosed c.args.unit) (λ s. DecidesParked TellsOwn p.action s new.pass.sight x)) left.result d c.in_ok-decided.was ran) c.requires.in_range was)
