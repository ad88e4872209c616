use Rattle.coordination.specs.Shown.{ShowsTheSame}
use Rattle.async_tracker.specs.NextWork.{HasClaimed}
use Rattle.async_tracker.specs.declared.next_work.ParkedWork.TheVariants as parked
use Rattle.async_tracker.proofs.lemmas.Turns.{parked_still}
use Rattle.build_workers.proofs.ChosenBehind.{decided_from, resumed_in, shown_as}
use Rattle.build_workers.proofs.Points.{same_helps}
use Rattle.build_workers.proofs.Stepping.{step_any, step_failed, step_ok, step_same, step_then}
use Rattle.build_workers.proofs.parked.wait_for_items.Goals as goal

pub loop-init : goal.loop-init
loop-init g c = (tt, tt, step_any c.choose-begun.result (step_same c.choose-begun.ensures.step.of), c.choose-begun.ensures.shows)

-- it claimed an item
pub run_and_choose-begun-requires-clause-claimed : goal.run_and_choose-begun-requires-clause-claimed
run_and_choose-begun-requires-clause-claimed g c κs within =
    let base = c.args.worker.now.pass.sight in
    let now = c.loop.worker.pass.sight in
    let claimed : HasClaimed c.in-Ok-Claim.unit base now = shown_as c.args.parked.action base now c.loop.begun c.in-Ok-Claim.field-0 (parked.Claim c.in-Ok-Claim.unit) c.in-Ok-Claim.is (rw c.in-Ok-Claim.is at c.in-Ok-Claim.field-0-is) c.loop.invariant.3 in
    (base, (c.requires.own, c.requires.helps, claimed))

pub loop-preserved-in-Ok-Claim : goal.loop-preserved-in-Ok-Claim
loop-preserved-in-Ok-Claim g c =
    let base = c.args.worker.now.pass.sight in
    let now = c.loop.worker.pass.sight in
    let part = c.run_and_choose-begun.ensures in
    let claimed : HasClaimed c.in-Ok-Claim.unit base now = shown_as c.args.parked.action base now c.loop.begun c.in-Ok-Claim.field-0 (parked.Claim c.in-Ok-Claim.unit) c.in-Ok-Claim.is (rw c.in-Ok-Claim.is at c.in-Ok-Claim.field-0-is) c.loop.invariant.3 in
    (tt, tt, step_then (step_ok c.loop.begun c.in-Ok-Claim.field-0 c.in-Ok-Claim.is c.loop.invariant.2) part.step, part.shows base (c.requires.own, c.requires.helps, claimed))

-- it has what it had
pub choose-begun-requires-in-Ok-Beside-clause-parked : goal.choose-begun-requires-in-Ok-Beside-clause-parked
choose-begun-requires-in-Ok-Beside-clause-parked g c κs within =
    let base = c.args.worker.now.pass.sight in
    let now = c.loop.worker.pass.sight in
    let same : ShowsTheSame base now = shown_as c.args.parked.action base now c.loop.begun c.in-Ok-Beside.field-0 parked.Beside c.in-Ok-Beside.is (rw c.in-Ok-Beside.is at c.in-Ok-Beside.field-0-is) c.loop.invariant.3 in
    parked_still c.args.parked same c.requires.own

pub choose-begun-requires-in-Ok-Beside-clause-helps : goal.choose-begun-requires-in-Ok-Beside-clause-helps
choose-begun-requires-in-Ok-Beside-clause-helps g c κs within =
    let base = c.args.worker.now.pass.sight in
    let now = c.loop.worker.pass.sight in
    let same : ShowsTheSame base now = shown_as c.args.parked.action base now c.loop.begun c.in-Ok-Beside.field-0 parked.Beside c.in-Ok-Beside.is (rw c.in-Ok-Beside.is at c.in-Ok-Beside.field-0-is) c.loop.invariant.3 in
    same_helps same c.requires.helps

pub loop-preserved : goal.loop-preserved
loop-preserved g c =
    let base = c.args.worker.now.pass.sight in
    let now = c.loop.worker.pass.sight in
    let a = c.args.parked.action in
    let part = c.choose-begun-in-Ok-Beside.ensures in
    let same : ShowsTheSame base now = shown_as a base now c.loop.begun c.in-Ok-Beside.field-0 parked.Beside c.in-Ok-Beside.is (rw c.in-Ok-Beside.is at c.in-Ok-Beside.field-0-is) c.loop.invariant.3 in (
      tt,
      tt,
      step_any c.choose-begun-in-Ok-Beside.result (step_then (step_ok c.loop.begun c.in-Ok-Beside.field-0 c.in-Ok-Beside.is c.loop.invariant.2) part.step),
      decided_from a base now c.choose-begun-in-Ok-Beside.new.worker.pass.sight c.choose-begun-in-Ok-Beside.result same part.shows,
    )

pub returns-in-Ok-Resume-clause-step : goal.returns-in-Ok-Resume-clause-step
returns-in-Ok-Resume-clause-step g c = step_then c.choose-begun.ensures.step (step_ok c.loop.begun c.in-Ok-Resume.field-0 c.in-Ok-Resume.is c.loop.invariant.2)

pub returns-in-Ok-Resume-clause-shows : goal.returns-in-Ok-Resume-clause-shows
returns-in-Ok-Resume-clause-shows g c =
    let base = c.args.worker.now.pass.sight in
    let now = c.loop.worker.pass.sight in
    let a = c.args.parked.action in
    resumed_in c.args.site.now.graph a base now c.in-Ok-Resume.failed
    (shown_as a base now c.loop.begun c.in-Ok-Resume.field-0 (parked.Resume c.in-Ok-Resume.failed) c.in-Ok-Resume.is (rw c.in-Ok-Resume.is at c.in-Ok-Resume.field-0-is) c.loop.invariant.3) c.requires.of.at.graph

pub returns-in-Err-clause-step : goal.returns-in-Err-clause-step
returns-in-Err-clause-step g c = step_then c.choose-begun.ensures.step (step_failed c.loop.invariant.2)
