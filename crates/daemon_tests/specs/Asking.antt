-- What the items of the tests ask for, and whether a pass may run one.
use Rattle.std.specs.Prelude.{ℕ, ◌≡◌, true, Contains}
use Rattle.daemon_requirements.specs.RequirementsView.{RequirementsView}
use Rattle.daemon_requirements.specs.declared.work.Isolation.{Isolation}
use Rattle.daemon_requirements.specs.declared.work.Isolation.TheVariants.{InThread, Process}
use Rattle.daemon_requirements.specs.declared.work.Work.{Work}
use Rattle.resource_lock.specs.declared.marks.MarkId.TheVariants.{Unit as UnitOf}
use Rattle.coordination.specs.Names.{PassView, claimed_shown, lease_shown}
use Rattle.item_work.specs.Sends.{IsNamedFor}

-- each unit may ask for any daemon
abbrev pub AnyMayAsk : (ℕ → RequirementsView → Type 0) → Type 0
AnyMayAsk asks = (unit : ℕ) (asked : RequirementsView) → asks unit asked

-- the item runs in a process
abbrev pub AsksProcess : Isolation → Type 0
AsksProcess InThread = ⊥
AsksProcess (Process asked) = Unit {0}

-- The pass has a lease and has claimed the unit, whose work is an item in a process.
pub record CanRun (p : PassView) (unit : ℕ) (w : Work) : Type 0 where
  pub lease : lease_shown p.sight ≡ true
  pub claimed : Contains (claimed_shown p.sight) (UnitOf unit)
  pub named : IsNamedFor w.isolation w.file
  pub process : AsksProcess w.isolation
