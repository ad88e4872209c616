use Rattle.std.proofs.Common.{◌∙◌, subst, sym}
use Rattle.std.proofs.lemmas.Result.{IfOk-weaker}
use Rattle.daemon_requirements.specs.Covers.{Covers}
use Rattle.daemon_manager.proofs.lemmas.Coverings.{covers_itself}
use Rattle.memory_budget.specs.Waiting.{IsRoomFor}
use Rattle.memory_budget.proofs.runs.reserve.Goals as goal

pub returns-in-Start-clause-covers : goal.returns-in-Start-clause-covers
returns-in-Start-clause-covers g c =
    let wanted = c.args.wanted.now.requirements.now in
    let room = subst (λ r. IsRoomFor g.D.Link.Linked.requirements g.D.Link.Linked.settled wanted c.args.wanted.now.request.now.unit r) c.in-Start.is c.in_ok-reserved.ensures.room in
    IfOk-weaker c.start.result _ _ (λ reserved made. subst (λ r. Covers r wanted) (sym (made ∙ room.1)) (covers_itself wanted)) c.start.ensures.made

pub returns-in-Start-clause-unit : goal.returns-in-Start-clause-unit
returns-in-Start-clause-unit g c =
    let room = subst (λ r. IsRoomFor g.D.Link.Linked.requirements g.D.Link.Linked.settled c.args.wanted.now.requirements.now c.args.wanted.now.request.now.unit r) c.in-Start.is c.in_ok-reserved.ensures.room in
    IfOk-weaker c.start.result _ _ (λ reserved is. is ∙ room.0) c.start.ensures.unit
