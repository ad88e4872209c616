use Rattle.std.proofs.Common.{◌∙◌}
use Rattle.daemon_protocol.proofs.Parts.{short_reply, long_reply}
use Rattle.daemon_protocol.proofs.bodies.reply_of.Goals as goal

pub returns-then-body-lt4 : goal.returns-then-body-lt4
returns-then-body-lt4 c = short_reply _ c.if-body-lt4.true

pub returns : goal.returns
returns c = c.reply_from.ensures ∙ long_reply _ c.args.body.now c.if-body-lt4.false c.number_of.ensures
