use Rattle.daemon_protocol.proofs.Unspelled.{read_spelled}
use Rattle.daemon_protocol.proofs.laws.read_frames_are_spelled.Goals as goal

pub returns : goal.returns
returns c = read_spelled
