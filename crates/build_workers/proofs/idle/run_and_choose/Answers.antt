use Rattle.std.proofs.Common.{List, subst, sym}
use Rattle.std.specs.Prelude.{Contains}
use Rattle.lock_journal.specs.Names.{GraphView, MarkId, UnitOf, mark_before}
use Rattle.lock_journal.proofs.lemmas.Claims.{has_member}
use Rattle.coordination.specs.Names.{TellsOwn, claimed_shown}
use Rattle.async_tracker.specs.Shows.{IsItemHere, ShowsClosed}
use Rattle.async_tracker.proofs.lemmas.NextWork.{DecidesWork}
use Rattle.build_workers.specs.Choices.{HasBegun}
use Rattle.build_workers.specs.Helping.{HasRunBefore}
use Rattle.build_workers.proofs.ChosenBehind.{begun_behind}
use Rattle.build_workers.proofs.lemmas.Results.{if_ok}
use Rattle.build_workers.proofs.idle.run_and_choose.Goals as goal

pub run_and_close-requires-clause-item : goal.run_and_close-requires-clause-item
run_and_close-requires-clause-item g c κs within = subst (λ (k : GraphView). IsItemHere k c.args.unit) c.requires.of.at.graph c.requires.begun.2.item

pub run_and_close-requires-clause-claimed : goal.run_and_close-requires-clause-claimed
run_and_close-requires-clause-claimed g c κs within =
    let claimed = c.requires.begun in
    subst (λ (ms : List MarkId). Contains ms (UnitOf c.args.unit)) (sym claimed.2.shows.claimed) (has_member mark_before (UnitOf c.args.unit) (claimed_shown claimed.0))

pub run_and_close-requires-clause-lease : goal.run_and_close-requires-clause-lease
run_and_close-requires-clause-lease g c κs within = c.requires.begun.2.shows.lease

pub returns-clause-step : goal.returns-clause-step
returns-clause-step g c =
    let left = c.run_and_close in
    let d = c.in_ok-decided.decided in
    let ran = if_ok (λ x. HasRunBefore c.args.site.now c.args.worker.now left.new.worker (ShowsClosed c.args.unit) (λ s. DecidesWork TellsOwn s left.new.worker.pass.sight x)) left.result d c.in_ok-decided.was left.ensures.ran in
    (begun_behind c.args.unit left.ensures.fits d ran c.requires.begun).0

pub returns-clause-begun : goal.returns-clause-begun
returns-clause-begun g c =
    let left = c.run_and_close in
    let d = c.in_ok-decided.decided in
    let ran = if_ok (λ x. HasRunBefore c.args.site.now c.args.worker.now left.new.worker (ShowsClosed c.args.unit) (λ s. DecidesWork TellsOwn s left.new.worker.pass.sight x)) left.result d c.in_ok-decided.was left.ensures.ran in
    subst (HasBegun left.new.worker.pass.sight) (sym c.next_work_of.ensures) (begun_behind c.args.unit left.ensures.fits d ran c.requires.begun).1
