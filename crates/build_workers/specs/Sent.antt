-- The requests that a desk sent for the units that its worker closed.
use Rattle.std.specs.Prelude.{ℕ, ◌≡◌, ◌⊎◌, Bool, true, false, List, [], ◌∷◌, Option, None, Some, slice_get}
use Rattle.item_actions.specs.declared.actions.ItemAction.{ItemAction}
use Rattle.lock_transforms.specs.declared.entries.Closed.{Closed}
use Rattle.daemon_requirements.specs.RequirementsView.{RequirementsView}
use Rattle.daemon_desk.specs.declared.sent.SentRequest.{SentRequest}
use Rattle.item_work.specs.Requests.{SentView, Sends}
use Rattle.plan_reader.specs.Units.{PlannedUnit}
use Rattle.coordination.specs.declared.rule.Sight.{Sight}
use Rattle.build_workers.specs.Kept.{HasClosed}

-- what a desk has sent
abbrev pub sent_view : {D : Type 0} → (D → ℕ) → (D → Option (List SentRequest)) → D → SentView
sent_view sends sent desk = record { count = sends desk; requests = sent desk }

-- An item in a process: at most one request, this unit's, in the keep-alive mode asked for, over a link made for requirements that
-- cover those asked, and one where its outcome is neither Fault nor NoMemory. Nothing for an item in the worker's own thread, nor for a fetch.
abbrev pub SentForWork : Option RequirementsView → Option ItemAction → List ℕ → Closed → SentView → SentView → Type 0
SentForWork None action file d old new = new ≡ old
SentForWork (Some asked) None file d old new = new ≡ old
SentForWork (Some asked) (Some action) file d old new =
    Sends asked old new (record { unit = d.unit; action = action; file = file; keep = Some asked.keep }) d.outcome

abbrev pub SentForUnit : Option PlannedUnit → Closed → SentView → SentView → Type 0
SentForUnit None d old new = new ≡ old
SentForUnit (Some u) d old new = SentForWork u.process u.action u.file d old new

-- what was sent for a unit that was closed, by its number
abbrev pub SentFor : List PlannedUnit → Closed → SentView → SentView → Type 0
SentFor units d old new = SentForUnit (slice_get units d.unit) d old new

-- what was sent for these units, in this order, and nothing else
abbrev pub AreSentFor : List PlannedUnit → List Closed → SentView → SentView → Type 0
AreSentFor units [] old new = new ≡ old
AreSentFor units (d ∷ ds) old new = (mid : SentView) × SentFor units d old mid × AreSentFor units ds mid new

-- what was sent for these units, in this order, and for at most one more
abbrev pub AreSentAndOneMore : List PlannedUnit → List Closed → SentView → SentView → Type 0
AreSentAndOneMore units ds old new = (mid : SentView) × AreSentFor units ds old mid × ((new ≡ mid) ⊎ ((d : Closed) × SentFor units d mid new))

-- what was sent by a part that was done, or that failed
abbrev pub AreSentBy : Bool → List PlannedUnit → List Closed → SentView → SentView → Type 0
AreSentBy true units ds old new = AreSentFor units ds old new
AreSentBy false units ds old new = AreSentAndOneMore units ds old new

-- The worker closed these units, while its desk sent what is sent for them; and where the part failed, for at most one more.
pub record HasSent (done : Bool) (units : List PlannedUnit) (before after : SentView) (old new : Sight) : Type 0 where
  pub closed : List Closed
  pub closes : HasClosed closed old new
  pub sent : AreSentBy done units closed before after
