-- the seat has the workers of the passes so far
use Rattle.std.proofs.Common.{◌≡◌, ◌++◌, [], map}
use Rattle.std.specs.Vec.Iter.{into_iter_items}
use Rattle.coordination.specs.Sights.{all_of}
use Rattle.coordination.proofs.slots.Slot.join.Given as goal

abbrev pub invariant-loop-pass : goal.invariant-loop-pass
invariant-loop-pass g l =
    (l.fn.passes.items ≡ l.yielded ++ into_iter_items l.pass-iterator) × (l.seat.table_id ≡ l.initial.seat.table_id) × (l.seat.me ≡ (all_of l.seat.me.0.ledger (map (λ p. p.sight) l.yielded), []))
