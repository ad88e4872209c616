use Rattle.std.specs.Prelude.{Contains}
use Rattle.resource_lock.specs.declared.marks.MarkId.TheVariants.{Unit as UnitOf}
use Rattle.coordination.specs.Shown.{claimed_shown}
use Rattle.build_workers.proofs.Stepping.{to_fields}
use Rattle.build_workers.proofs.items.close_alone.Goals as goal

pub close_item-closed-requires-clause-claimed : goal.close_item-closed-requires-clause-claimed
close_item-closed-requires-clause-claimed g c κs within = to_fields (λ s. Contains (claimed_shown s) (UnitOf c.args.closed.unit)) c.worker.view_is c.requires.claimed
