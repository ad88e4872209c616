use Rattle.std.proofs.Common.{rules, sym, subst}
use Rattle.coordination.proofs.lemmas.Shown.{answered_shows}
use Rattle.async_tracker.specs.ParkedView.{ParkedView}
use Rattle.async_tracker_tests.specs.TwoItems.{CanHelp}
use Rattle.single_steps.proofs.lemmas.After.{from_ok}
use Rattle.async_tracker_tests.proofs.Helping.{helps_still}
use Rattle.async_tracker_tests.proofs.async_tracker_tests.try_too_early.Goals as goal

pub run_item-requires-2-clause-helps : goal.run_item-requires-2-clause-helps
run_item-requires-2-clause-helps g c =
    let helps = from_ok c.run_item.result c.in_ok-first.first c.in_ok-first.was c.run_item.ensures.helps in
    let still = c.resume.ensures.still_waiting c.in-Err-StillWaiting.parked c.in-Err-StillWaiting.unit (search rules) in
    subst (λ (p : ParkedView). CanHelp c.resume.new.pass.sight p) (sym still.0) (helps_still _ (answered_shows still.1) helps)
