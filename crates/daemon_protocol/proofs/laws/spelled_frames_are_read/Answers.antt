use Rattle.daemon_protocol.proofs.Spelled.{spelled}
use Rattle.daemon_protocol.proofs.laws.spelled_frames_are_read.Goals as goal

pub returns : goal.returns
returns c = spelled
