use Rattle.std.specs.Iterator.Adapters.{rev_source}
use Rattle.std.specs.Slice.Iter.{iter_rest}
use Rattle.resource_lock.specs.StateView.{StateView}
use Rattle.resource_lock.specs.Leading.{CameFrom}
use Rattle.resource_lock.proofs.states.State.take_back.Given as goal

-- the changes that are left lead from where all of them led from
abbrev pub invariant-loop-change : goal.invariant-loop-change
invariant-loop-change l =
    (before : StateView) → CameFrom before l.fn.self l.worker l.changes → CameFrom before l.self l.worker (iter_rest (rev_source l.change-iterator))
