use Rattle.std.proofs.Common.{◌-◌, length, take, drop, ◌∙◌, arith}
use Rattle.daemon_protocol.proofs.Parts.{short_reply_in_mode, some_reply_mode, long_reply_in_mode}
use Rattle.daemon_protocol.proofs.bodies.reply_in_mode_of.Goals as goal

pub returns-then-body-lt5 : goal.returns-then-body-lt5
returns-then-body-lt5 c = short_reply_in_mode _ c.if-body-lt5.true

pub returns-in-Some : goal.returns-in-Some
returns-in-Some c =
    let bytes = take (length c.args.body.now - 4) (drop 4 c.args.body.now) in
    c.reply_from.ensures
    ∙ some_reply_mode c.number_of-unit.result c.in-Some.mode bytes
    ∙ long_reply_in_mode _ _ c.args.body.now (omega (arith, c.if-body-lt5.false)) c.number_of-unit.ensures c.in-Some.ensures.mode

pub returns-in-None : goal.returns-in-None
returns-in-None c = long_reply_in_mode _ _ c.args.body.now (omega (arith, c.if-body-lt5.false)) c.number_of-unit.ensures c.in-None.ensures.mode
