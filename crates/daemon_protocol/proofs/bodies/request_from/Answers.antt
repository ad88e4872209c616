use Rattle.std.proofs.Common.{ap, ◌∙◌}
use Rattle.std.proofs.lemmas.Result.{IfOk-weaker}
use Rattle.daemon_protocol.specs.Bodies.{request_after}
use Rattle.daemon_protocol.proofs.Parts.{some_action}
use Rattle.daemon_protocol.proofs.bodies.request_from.Goals as goal

pub returns-in-Some : goal.returns-in-Some
returns-in-Some c =
    IfOk-weaker c.request_with.result _ _
    (λ f is. is ∙ some_action c.args.unit c.args.keep c.in-Some.action c.in-Some.len c.args.bytes.now ∙ ap (request_after c.args.unit c.args.keep c.args.bytes.now) c.in-Some.ensures.action)
    c.request_with.ensures

pub returns-in-None : goal.returns-in-None
returns-in-None c = ap (request_after c.args.unit c.args.keep c.args.bytes.now) c.in-None.ensures.action
