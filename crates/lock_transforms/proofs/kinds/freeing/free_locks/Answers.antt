use Rattle.std.proofs.Common.{List, length, refl, sym, ap, subst, arith}
use Rattle.std.specs.List.{All}
use Rattle.resource_lock.specs.StateView.{IsLockOf}
use Rattle.resource_lock.specs.declared.ids.LockId.{LockId}
use Rattle.lock_transforms.specs.Freeing.{freed}
use Rattle.lock_transforms.specs.Making.{Makes}
use Rattle.lock_transforms.proofs.Named.{owned_within}
use Rattle.lock_transforms.proofs.kinds.freeing.free_locks.Goals as goal

pub free_named-requires-clause-in_range : goal.free_named-requires-clause-in_range
free_named-requires-clause-in_range c = subst (λ (ls : List LockId). All (IsLockOf c.args.work.now.state) ls) (sym (c.if-are_owned.ensures refl)) (owned_within c.args.work.now.state c.args.work.now.worker)

pub free_named-requires-clause-room : goal.free_named-requires-clause-room
free_named-requires-clause-room c = omega (arith, ap (λ (ls : List LockId). length (freed c.args.parks ls)) (c.if-are_owned.ensures refl), c.requires.room)

pub returns-then-are_owned : goal.returns-then-are_owned
returns-then-are_owned c = subst (λ (ls : List LockId). Makes c.args.work.now c.free_named.new.work (freed c.args.parks ls) c.free_named.result) (c.if-are_owned.ensures refl) c.free_named.ensures
