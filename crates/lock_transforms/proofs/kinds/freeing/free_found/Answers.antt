use Rattle.std.proofs.Common.{◌+◌, ap, arith}
use Rattle.resource_lock.specs.GraphView.{GraphView}
use Rattle.resource_lock.specs.declared.changes.Change.TheVariants.{Unlock}
use Rattle.lock_transforms.proofs.Freed.{lock_at, next_freed, stopped_freed, all_freed, room_freed}
use Rattle.lock_transforms.proofs.Makings.{still_named}
use Rattle.lock_transforms.proofs.kinds.freeing.free_found.Goals as goal

pub free_lock-requires-clause-in_range : goal.free_lock-requires-clause-in_range
free_lock-requires-clause-in_range c = still_named (Unlock (lock_at c.loop-lock.lock)) c.loop-lock.invariant (omega (arith, ap (λ (g : GraphView). g.locks) c.graph.ensures.value))

pub free_lock-requires-clause-room : goal.free_lock-requires-clause-room
free_lock-requires-clause-room c = room_freed c.args.parks c.loop-lock.lock (omega (arith, ap (λ (g : GraphView). g.locks) c.graph.ensures.value)) c.loop-lock.invariant c.requires.room

pub returns-then-not-free_lock : goal.returns-then-not-free_lock
returns-then-not-free_lock c = stopped_freed c.args.parks (c.loop-lock.lock + 1) (next_freed c.args.parks c.loop-lock.lock (omega (arith, ap (λ (g : GraphView). g.locks) c.graph.ensures.value)) c.loop-lock.invariant c.if-not-free_lock.ensures)

pub loop-lock-preserved : goal.loop-lock-preserved
loop-lock-preserved c = next_freed c.args.parks c.loop-lock.lock (omega (arith, ap (λ (g : GraphView). g.locks) c.graph.ensures.value)) c.loop-lock.invariant c.if-not-free_lock.ensures

pub returns : goal.returns
returns c = all_freed c.args.parks c.loop-lock.lock (omega (arith, ap (λ (g : GraphView). g.locks) c.graph.ensures.value)) c.loop-lock.invariant
