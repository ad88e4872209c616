use Rattle.std.proofs.lemmas.Result.{IfOk-weaker}
use Rattle.daemon_manager.proofs.lemmas.Coverings.{covers_itself}
use Rattle.item_work.proofs.daemons.reserve.Goals as goal

pub returns-in-Start-clause-covers : goal.returns-in-Start-clause-covers
returns-in-Start-clause-covers g c =
    IfOk-weaker c.start.result _ _ (λ reserved made. rw made (covers_itself c.args.wanted.now.requirements.now)) c.start.ensures.made
