use Rattle.std.proofs.Common.{◌-◌, ◌^◌, arith}
use Rattle.std.proofs.lemmas.Nat.Bits.{bit_at-lt, bit_at_and, bit_at_mask_below, bit_at_mask_inside, ones_shl}
use Rattle.ready_work.proofs.bits.bits_from.Goals as goal

pub returns-clause-below : goal.returns-clause-below
returns-clause-below c = λ i lt.
    let within = c.requires in
    rw (ones_shl 64 c.args.place (omega arith), bit_at_and c.args.word (2 ^ 64 - 2 ^ c.args.place) i, bit_at_mask_below c.args.place 64 i lt) (omega arith)

pub returns-clause-from : goal.returns-clause-from
returns-clause-from c = λ i within le.
    let below = c.requires in
    let low = bit_at-lt c.args.word i in
    rw (ones_shl 64 c.args.place (omega arith), bit_at_and c.args.word (2 ^ 64 - 2 ^ c.args.place) i, bit_at_mask_inside c.args.place 64 i le within) (omega arith)
