use Rattle.std.proofs.Common.{◌≡◌, ◌==◌, ◌*◌, count_by, take}
use Rattle.item_actions.proofs.counting.count_of_byte.Given as goal

abbrev pub invariant-loop-block : goal.invariant-loop-block
invariant-loop-block l = l.total ≡ count_by (λ b. b == l.byte) (take (32 * l.block) l.bytes)
