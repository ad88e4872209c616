use Rattle.frame_decoder.proofs.OneReading.{one_reading}
use Rattle.frame_decoder.proofs.laws.streams_have_one_reading.Goals as goal

pub returns : goal.returns
returns c = one_reading
