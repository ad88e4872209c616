use Rattle.std.proofs.Common.{refl, sym, ◌∙◌, take}
use Rattle.std.proofs.lemmas.List.{length-set}
use Rattle.history_text.proofs.DigestLaws.{front_none, bytes_wrong, bytes_more}
use Rattle.history_text.specs.Reading.{bytes_at}
use Rattle.history_text.proofs.digests.read_digest.Goals as goal

pub loop-place-init : goal.loop-place-init
loop-place-init c = record { reads = front_none (bytes_at 32 c.args.text.now); length = refl }

pub returns-in_default : goal.returns-in_default
returns-in_default c = sym (bytes_wrong (take c.loop-place.place c.loop-place.digest) c.loop-place.place c.loop-place.rest.now c.loop-place-test.true c.in_default.ensures) ∙ c.loop-place.invariant.reads

pub loop-place-preserved : goal.loop-place-preserved
loop-place-preserved c = record {
  reads = bytes_more c.loop-place.digest c.loop-place.place c.loop-place.rest.now c.in-Some.more.now c.in-Some.byte c.loop-place-test.true c.loop-place.invariant.length c.in-Some.ensures ∙ c.loop-place.invariant.reads;
  length = length-set c.loop-place.digest c.loop-place.place c.in-Some.byte ∙ c.loop-place.invariant.length;
}
