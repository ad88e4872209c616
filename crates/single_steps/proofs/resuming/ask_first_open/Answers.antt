use Rattle.std.proofs.Common.{ap, ◌∙◌, Err}
use Rattle.coordination.specs.Names.{IsAnswered, AreTold, AsTold}
use Rattle.coordination.proofs.lemmas.Told.{answered_anyhow}
use Rattle.async_tracker.proofs.lemmas.After.{if_ok}
use Rattle.single_steps.specs.Waits.{IsFirstOpen}
use Rattle.single_steps.proofs.resuming.ask_first_open.Goals as goal

pub unreachable-requires-in-Err-Stopped : goal.unreachable-requires-in-Err-Stopped
unreachable-requires-in-Err-Stopped g c = (c.ask.ensures.stopped c.in-Err-Stopped.field-0-0 (c.in-Err-Stopped.is ∙ ap Err c.in-Err-Stopped.field-0-is)).cause.2

pub returns-clause-answered : goal.returns-clause-answered
returns-clause-answered g c =
    let tells = AreTold g.O.Offers.tells in
    let old = c.args.pass.now.sight in
    let new = c.ask.new.pass.sight in
    answered_anyhow tells (IsFirstOpen c.args.action) c.in-Ok.unit old new
    (if_ok (λ unit. IsAnswered (AsTold tells (λ queued. IsFirstOpen c.args.action)) unit old new) c.ask.result c.in-Ok.unit c.in-Ok.is c.ask.ensures.answered)
