use Rattle.std.proofs.Common.{◌≡◌, ◌*◌, count_by}
use Rattle.std.specs.List.{range_with_len}
use Rattle.memchr.specs.Find.{occurs_at}
use Rattle.item_actions.proofs.places.count_of_places.Given as goal

abbrev pub invariant-loop-block : goal.invariant-loop-block
invariant-loop-block l = l.total ≡ count_by (occurs_at l.bytes l.needle) (range_with_len 0 (32 * l.block))

abbrev pub invariant-loop-place : goal.invariant-loop-place
invariant-loop-place l = l.total ≡ count_by (occurs_at l.bytes l.needle) (range_with_len 0 l.place)
