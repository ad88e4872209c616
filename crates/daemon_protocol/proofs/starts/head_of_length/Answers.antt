use Rattle.std.proofs.Common.{◌∙◌, arith}
use Rattle.daemon_protocol.proofs.Starting.{look-length}
use Rattle.daemon_protocol.proofs.starts.head_of_length.Goals as goal

pub returns-clause-start : goal.returns-clause-start
returns-clause-start c =
    c.head_of_body.ensures.start ∙ look-length c.args.tag c.number_of.result c.args.bytes.now (omega (arith, c.if-bytes-lt4.false)) c.number_of.ensures
