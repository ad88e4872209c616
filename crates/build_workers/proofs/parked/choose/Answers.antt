use Rattle.std.proofs.Common.{◌<◌, IfOk, length, subst, sym, true}
use Rattle.lock_journal.specs.Names.{Fits, GraphView}
use Rattle.coordination.specs.Names.{AsTold, TellsOwn}
use Rattle.async_tracker.specs.NextWork.{IsNextParkedWorkIf, ShowsParkedWork, step_of_parked}
use Rattle.async_tracker.proofs.lemmas.NextWork.{DecidesParked, parked_work_shows}
use Rattle.build_workers.proofs.Keeping.{deciding_closes}
use Rattle.build_workers.proofs.Stepping.{step_moved}
use Rattle.build_workers.proofs.lemmas.Results.{if_ok}
use Rattle.build_workers.proofs.parked.choose.Goals as goal

pub returns-in_err-decided-clause-step : goal.returns-in_err-decided-clause-step
returns-in_err-decided-clause-step g c =
    let e = c.decide.ensures in
    step_moved true c.requires.of e.moves (deciding_closes (AsTold TellsOwn (IsNextParkedWorkIf c.action.result)) (step_of_parked c.action.result) c.decide.result e.decided e.closed)

pub returns-clause-step : goal.returns-clause-step
returns-clause-step g c =
    let e = c.decide.ensures in
    step_moved true c.requires.of e.moves (deciding_closes (AsTold TellsOwn (IsNextParkedWorkIf c.action.result)) (step_of_parked c.action.result) c.decide.result e.decided e.closed)

pub returns-clause-shows : goal.returns-clause-shows
returns-clause-shows g c =
    let e = c.decide.ensures in
    let p = c.args.parked.now in
    let d = c.in_ok-decided.decided in
    let old = c.args.worker.now.pass.sight in
    let new = c.decide.new.worker.pass.sight in
    let graph = sym c.requires.of.at.graph in
    let decided = subst (λ a. IfOk c.decide.result (DecidesParked TellsOwn a old new)) c.action.ensures e.decided in
    subst (ShowsParkedWork p.action old new) (sym c.parked_work_of.ensures)
    (parked_work_shows TellsOwn p old new d (if_ok (DecidesParked TellsOwn p.action old new) c.decide.result d c.in_ok-decided.was decided) (subst Fits graph e.fits)
    (subst (λ (k : GraphView). p.action < length k.actions) graph c.requires.in_range) c.requires.parked c.requires.helps.free c.requires.helps.waits)
