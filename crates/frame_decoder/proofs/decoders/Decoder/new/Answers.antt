use Rattle.std.proofs.Common.{[], sym, subst, None}
use Rattle.frame_decoder.specs.DecoderView.{Reads}
use Rattle.frame_decoder.proofs.Readings.{reads_nothing}
use Rattle.frame_decoder.proofs.decoders.Decoder.new.Goals as goal

pub returns-clause-reads : goal.returns-clause-reads
returns-clause-reads c = subst (λ held. Reads [] [] record { held = held; place = 0; refusal = None }) (sym c.new.ensures.items) reads_nothing
