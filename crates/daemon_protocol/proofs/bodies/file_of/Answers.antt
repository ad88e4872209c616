use Rattle.std.proofs.Common.{sym}
use Rattle.daemon_protocol.proofs.Names.{is_text}
use Rattle.daemon_protocol.proofs.bodies.file_of.Goals as goal

pub returns-in-Err : goal.returns-in-Err
returns-in-Err c = absurd (c.in-Err.ensures.cases.0 (is_text c.args.name.now (sym c.if-not-is_file_name.ensures)))
