-- Uses of shared services, taken by a worker.
use Rattle.std.specs.Prelude.{◌≡◌, ◌&&◌, ℕ, Bool, false, not, List}
use Rattle.lock_transforms.specs.declared.entries.Kind.TheVariants as kinds
use Rattle.lock_journal.specs.Names.{Shortage, Waits, Fails, GraphView}
use Rattle.shared_services.specs.Services.{AreServices, FitMaxima}
use Rattle.shared_services.specs.Takings.{HasTheLocks, IsShort, TakesUses}
use Rattle.coordination.specs.declared.rule.Sight.{Sight}
use Rattle.coordination.specs.Shown.{lease_shown}
use Rattle.wakhurmi_c.specs.Leaves.{Leaves}
use Rattle.wakhurmi_c.specs.Places.{may_take}
use Rattle.wakhurmi_c.specs.declared.answers.Answer.{Answer}

-- the worker is in no blocking section, has parked nothing, and has no lease
abbrev pub may_take_uses : Sight → Bool
may_take_uses s = may_take s && not (lease_shown s)

-- The graph's locks are those of services with these maxima, and what is asked for are some of these services.
pub record MayBeAsked (maxima asked : List ℕ) (g : GraphView) : Type 0 where
  pub fit : FitMaxima maxima
  pub locks : HasTheLocks maxima g
  pub services : AreServices maxima asked

-- A lease and the lowest lock without owner of each of the services are taken. Where all locks of one of them have owners, or as many leases
-- as may be are out, the call can't be done yet, or fails.
abbrev pub TakeUsesLeaves : Shortage → List ℕ → List ℕ → Sight → Sight → Answer → Type 0
TakeUsesLeaves shortage maxima asked = Leaves kinds.Acquire (TakesUses maxima asked) (λ g w s. (shortage ≡ Fails) × IsShort maxima asked s)
    (λ g w s. (shortage ≡ Waits) × IsShort maxima asked s) (λ sight. MayBeAsked maxima asked sight.seen.graph → ⊥)
    (λ sight. may_take_uses sight ≡ false)
