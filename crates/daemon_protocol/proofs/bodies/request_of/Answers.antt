use Rattle.std.proofs.Common.{◌∙◌}
use Rattle.std.proofs.lemmas.Result.{IfOk-weaker}
use Rattle.daemon_protocol.proofs.Parts.{short_request, long_request}
use Rattle.daemon_protocol.proofs.bodies.request_of.Goals as goal

pub returns-then-body-lt4 : goal.returns-then-body-lt4
returns-then-body-lt4 c = short_request _ c.if-body-lt4.true

pub returns : goal.returns
returns c = IfOk-weaker c.request_from.result _ _ (λ f is. is ∙ long_request _ c.args.body.now c.if-body-lt4.false c.number_of.ensures) c.request_from.ensures
