use Rattle.std.proofs.Common.{arith}
use Rattle.ready_work.proofs.Words.{none_in_all}
use Rattle.ready_work.proofs.bits.Bits.next_from.Goals as goal

pub returns-clause-none : goal.returns-clause-none
returns-clause-none c =
    let past = c.loop-place-test.false in
    none_in_all c.args.self.now.words.items c.args.from c.loop-place.place (omega arith) c.loop-place.invariant
