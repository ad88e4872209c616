-- What a pool answers to who wants a daemon.
use Rattle.std.specs.Prelude.{◌≡◌, ℕ, Bool, true}
use Rattle.daemon_requirements.specs.RequirementsView.{RequirementsView}
use Rattle.daemon_manager.specs.declared.searches.Search.{Search}
use Rattle.daemon_manager.specs.declared.searches.Search.TheVariants.{Idle, Start}
use Rattle.daemon_manager.specs.Calls.{FindsNone, Reserves}
use Rattle.daemon_manager.specs.Counts.{TallyView, and_reserved}
use Rattle.daemon_manager.specs.PoolView.{PoolView}

module _ {L U : Type 0} where
  -- the last idle daemon that covers what is asked was reserved; a daemon may be started with just this where none covers
  abbrev pub Searches : (L → RequirementsView) → PoolView L → PoolView L → RequirementsView → ℕ → Search L U → Type 0
  Searches made_for old new asked unit (Idle reserved) = Reserves made_for old new asked unit reserved
  Searches made_for old new asked unit (Start leave) = FindsNone made_for old new asked × (leave.asked.value ≡ asked)

  -- the link of a daemon that was idle is settled
  abbrev pub IsSettledSearch : (L → Bool) → Search L U → Type 0
  IsSettledSearch settled (Idle reserved) = settled reserved.link ≡ true
  IsSettledSearch settled (Start leave) = Unit {0}

  -- the tally after a search
  abbrev pub after_search : TallyView → Search L U → TallyView
  after_search tally (Idle reserved) = and_reserved tally
  after_search tally (Start leave) = tally
