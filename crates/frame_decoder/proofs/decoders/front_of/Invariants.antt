use Rattle.std.proofs.Common.{◌-◌, ◌≤◌, length, drop}
use Rattle.daemon_protocol.specs.StreamStart.{Cuts}
use Rattle.frame_decoder.proofs.decoders.front_of.Given as goal

abbrev pub invariant-loop-tag : goal.invariant-loop-tag
invariant-loop-tag l = record {
  within : l.len ≤ length l.bytes;
  cuts : Cuts l.bytes l.frames.items (drop l.len l.bytes);
}

abbrev pub decreases-loop-tag : goal.decreases-loop-tag
decreases-loop-tag l = length l.initial.bytes - l.len
