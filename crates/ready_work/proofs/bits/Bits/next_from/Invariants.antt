use Rattle.ready_work.proofs.Words.{NoneBefore}
use Rattle.ready_work.proofs.bits.Bits.next_from.Given as goal

-- the words before this one have no bit from the number on
abbrev pub invariant-loop-place : goal.invariant-loop-place
invariant-loop-place l = NoneBefore l.self.words.items l.from l.place
