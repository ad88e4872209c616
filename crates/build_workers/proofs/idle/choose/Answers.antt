use Rattle.std.proofs.Common.{subst, sym, true}
use Rattle.resource_lock.specs.Fits.{Fits}
use Rattle.coordination.specs.Names.{AsTold, TellsOwn}
use Rattle.async_tracker.specs.NextWork.{IsNextWorkIf, step_of_next}
use Rattle.async_tracker.proofs.lemmas.NextWork.{DecidesWork}
use Rattle.build_workers.specs.Choices.{HasBegun}
use Rattle.build_workers.proofs.Choosing.{begun}
use Rattle.build_workers.proofs.Keeping.{deciding_closes}
use Rattle.build_workers.proofs.Stepping.{step_moved}
use Rattle.build_workers.proofs.lemmas.Results.{if_ok}
use Rattle.build_workers.proofs.idle.choose.Goals as goal

pub returns-in_err-decided-clause-step : goal.returns-in_err-decided-clause-step
returns-in_err-decided-clause-step g c =
    let e = c.decide.ensures in
    step_moved true c.requires.of e.moves (deciding_closes (AsTold TellsOwn IsNextWorkIf) step_of_next c.decide.result e.decided e.closed)

pub returns-clause-step : goal.returns-clause-step
returns-clause-step g c =
    let e = c.decide.ensures in
    step_moved true c.requires.of e.moves (deciding_closes (AsTold TellsOwn IsNextWorkIf) step_of_next c.decide.result e.decided e.closed)

pub returns-clause-begun : goal.returns-clause-begun
returns-clause-begun g c =
    let e = c.decide.ensures in
    let d = c.in_ok-decided.decided in
    let old = c.args.worker.now.pass.sight in
    let new = c.decide.new.worker.pass.sight in
    subst (HasBegun new) (sym c.next_work_of.ensures)
    (begun old new d (if_ok (DecidesWork TellsOwn old new) c.decide.result d c.in_ok-decided.was e.decided) (subst Fits (sym c.requires.of.at.graph) e.fits) c.requires.rests)
