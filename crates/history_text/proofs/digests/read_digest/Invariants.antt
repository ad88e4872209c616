use Rattle.std.proofs.Common.{◌≡◌, ◌-◌, length, take}
use Rattle.history_text.specs.Reading.{bytes_at, with_front}
use Rattle.history_text.proofs.digests.read_digest.Given as goal

abbrev pub invariant-loop-place : goal.invariant-loop-place
invariant-loop-place l = record {
  reads : with_front (take l.place l.digest) (bytes_at (32 - l.place) l.rest) ≡ bytes_at 32 l.text;
  length : length l.digest ≡ 32;
}
