-- What a worker leaves that has run an item and decided behind it.
use Rattle.std.specs.Prelude.{◌⊎◌, true, [], ◌∷◌}
use Rattle.lock_transforms.specs.declared.entries.Closed.{Closed}
use Rattle.coordination.specs.declared.rule.Sight.{Sight}
use Rattle.async_tracker.specs.Shows.{ShowsClosed}
use Rattle.build_workers.specs.Kept.{HasClosed}
use Rattle.build_workers.specs.Site.{SiteView}
use Rattle.build_workers.specs.Steps.{Steps}
use Rattle.build_workers.specs.WorkerView.{WorkerView}

-- the worker closed the item, or nothing
abbrev pub MayHaveClosed : Closed → Sight → Sight → Type 0
MayHaveClosed d old new = HasClosed [] old new ⊎ HasClosed (d ∷ []) old new

-- The worker closed the item, and what followed is so of what its pass had seen then.
pub record HasClosedBefore (d : Closed) (old : Sight) (Follows : Sight → Type 0) : Type 0 where
  pub between : Sight
  pub closed : HasClosed (d ∷ []) old between
  pub shows : ShowsClosed d.unit old between
  pub follows : Follows between

-- the worker, when its pass had seen so much
abbrev pub at_sight : WorkerView → Sight → WorkerView
at_sight w sight = record w { pass = record w.pass { sight = sight } }

-- A part of the worker's run was done, behind which its pass showed so much, and what followed is so of what the pass had seen then.
pub record HasRunBefore (s : SiteView) (old new : WorkerView) (Shows : Sight → Sight → Type 0) (Follows : Sight → Type 0) : Type 0 where
  pub between : Sight
  pub step : Steps s old (at_sight new between) true
  pub shows : Shows old.pass.sight between
  pub follows : Follows between
