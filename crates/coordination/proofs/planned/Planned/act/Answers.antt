use Rattle.std.proofs.Common.{subst}
use Rattle.ready_work.specs.Choices.{has_queued}
use Rattle.lock_journal.specs.BookView.{BookView}
use Rattle.coordination.specs.Planned.{TellsOwn}
use Rattle.worker_notes.specs.SleepAndWake.{AreQuiet, EndsTurn}
use Rattle.coordination.proofs.Quiet.{quiet_turn}
use Rattle.coordination.proofs.planned.Planned.act.Goals as goal

pub invariant_of-self : goal.invariant_of-self
invariant_of-self g c =
    let old = c.self.inside.guarded in
    let new = c.act.new.guarded in
    quiet_turn c.args.caller.worker c.args.caller.behind old.keeper new.keeper old.sleepers new.sleepers c.act.result.1 c.act.result.2 c.act.ensures.ends

pub returns-clause-ends : goal.returns-clause-ends
returns-clause-ends g c =
    let old = c.self.inside.guarded in
    let new = c.act.new.guarded in record {
      before = old.sleepers;
      after = new.sleepers;
      was_quiet = subst (λ (b : BookView). AreQuiet b (has_queued b.state) old.sleepers.stances) c.self.view_is c.self.invariant;
      ends = subst (λ (b : BookView). EndsTurn TellsOwn c.args.caller.worker c.args.caller.behind b new.keeper old.sleepers new.sleepers c.act.result.1 c.act.result.2) c.self.view_is c.act.ensures.ends;
      quiet = quiet_turn c.args.caller.worker c.args.caller.behind old.keeper new.keeper old.sleepers new.sleepers c.act.result.1 c.act.result.2 c.act.ensures.ends;
    }
