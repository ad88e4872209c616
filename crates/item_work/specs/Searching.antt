-- What a search of a shared pool gives, of which no clause sees the pool.
use Rattle.std.specs.Prelude.{◌≡◌, ℕ}
use Rattle.daemon_requirements.specs.RequirementsView.{RequirementsView}
use Rattle.daemon_requirements.specs.Covers.{Covers}
use Rattle.daemon_manager.specs.declared.searches.Search.{Search}
use Rattle.daemon_manager.specs.declared.searches.Search.TheVariants.{Idle, Start}

-- a daemon that covers what is wanted, or the leave to start one with just this
abbrev pub FindsFor : {L U : Type 0} → (L → RequirementsView) → RequirementsView → Search L U → Type 0
FindsFor made_for wanted (Idle reserved) = Covers (made_for reserved.link) wanted
FindsFor made_for wanted (Start leave) = leave.asked.value ≡ wanted

-- an idle daemon is reserved for the unit
abbrev pub IsForUnit : {L U : Type 0} → ℕ → Search L U → Type 0
IsForUnit unit (Idle reserved) = reserved.unit ≡ unit
IsForUnit unit (Start leave) = Unit {0}
