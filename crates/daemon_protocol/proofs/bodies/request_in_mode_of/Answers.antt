use Rattle.std.proofs.Common.{◌-◌, length, take, drop, ◌∙◌, arith}
use Rattle.std.proofs.lemmas.Result.{IfOk-weaker}
use Rattle.daemon_protocol.proofs.Parts.{short_request_in_mode, some_request_mode, long_request_in_mode}
use Rattle.daemon_protocol.proofs.bodies.request_in_mode_of.Goals as goal

pub returns-then-body-lt5 : goal.returns-then-body-lt5
returns-then-body-lt5 c = short_request_in_mode _ c.if-body-lt5.true

pub returns-in-Some : goal.returns-in-Some
returns-in-Some c =
    let bytes = take (length c.args.body.now - 4) (drop 4 c.args.body.now) in
    IfOk-weaker c.request_from.result _ _
    (λ f is. is ∙ some_request_mode c.number_of-unit.result c.in-Some.mode bytes ∙ long_request_in_mode _ _ c.args.body.now (omega (arith, c.if-body-lt5.false)) c.number_of-unit.ensures c.in-Some.ensures.mode)
    c.request_from.ensures

pub returns-in-None : goal.returns-in-None
returns-in-None c = long_request_in_mode _ _ c.args.body.now (omega (arith, c.if-body-lt5.false)) c.number_of-unit.ensures c.in-None.ensures.mode
