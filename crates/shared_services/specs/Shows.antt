-- What a pass shows before and after its uses are taken.
use Rattle.std.specs.Prelude.{ℕ, true, List, []}
use Rattle.lock_transforms.specs.declared.entries.Kind.TheVariants as kinds
use Rattle.coordination.specs.Names.{HasFinished, HoldsNothing, Shows}
use Rattle.coordination.specs.declared.rule.Sight.{Sight}
use Rattle.shared_services.specs.Services.{AreServices}
use Rattle.shared_services.specs.Takings.{HasTheLocks, TakesUses}

-- The graph has the locks of the services, the worker has nothing, and what it asks for are services in rising order.
pub record MayTakeUses (maxima asked : List ℕ) (s : Sight) : Type 0 where
  pub locks : HasTheLocks maxima s.seen.graph
  pub rests : HoldsNothing s
  pub services : AreServices maxima asked

-- The worker's entry took the lowest lock without owner of each of the services, and a lease, and the pass shows these locks and the lease.
pub record HasTakenUses (maxima asked : List ℕ) (old new : Sight) : Type 0 where
  pub entry : HasFinished kinds.Acquire (TakesUses maxima asked) old new
  pub shown : Shows entry.finished.made.locks true [] [] old new
