use Rattle.std.proofs.Common.{◌^◌, arith}
use Rattle.std.proofs.lemmas.Nat.{one_shl}
use Rattle.std.proofs.lemmas.Nat.Bits.{bit_at-lt, bit_at-pow_other, bit_at-pow_same, bit_at_xor}
use Rattle.ready_work.proofs.bits.with_bit_flipped.Goals as goal

pub returns-clause-flipped : goal.returns-clause-flipped
returns-clause-flipped c =
    let low = bit_at-lt c.args.word c.args.place in
    rw (one_shl c.args.place 64 c.requires, bit_at_xor c.args.word (2 ^ c.args.place) c.args.place, bit_at-pow_same c.args.place) (omega arith)

pub returns-clause-others : goal.returns-clause-others
returns-clause-others c = λ i within ne.
    let low = bit_at-lt c.args.word i in
    rw (one_shl c.args.place 64 c.requires, bit_at_xor c.args.word (2 ^ c.args.place) i, bit_at-pow_other c.args.place i ne) (omega arith)
