use Rattle.std.proofs.Common.{◌≡◌, length, ap, arith}
use Rattle.memchr.specs.Find.{matches}
use Rattle.item_actions.specs.Bytes.{occurrences}
use Rattle.item_actions.proofs.occurrences.count_of_several.Goals as goal

pub loop-place-init : goal.loop-place-init
unfolding occurrences
loop-place-init c =
    let e : length c.into_iter-place-iterator.result ≡ length c.find_iter-place-items.result = cc in
    let v : length c.find_iter-place-items.result ≡ length (matches c.args.bytes.now c.args.needle.now 0) = ap length c.find_iter-place-items.ensures.value in
    record { counted = omega arith; few = omega arith }
