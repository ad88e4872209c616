-- What the index follows where an entry was added.
use Rattle.std.proofs.Common.{◌≡◌, ℕ, true, List, Some, inl, refl, subst}
use Rattle.lock_journal.specs.Names.{GraphView, BelongsTo, StateView, Change, WorkerId, IsListOf, entry, mark_from, TentativeView, Closed, Kind}
use Rattle.lock_journal.specs.Names.{Claim, Close}
use Rattle.resource_lock.specs.Marks.{has_ended}
use Rattle.item_actions.specs.declared.outcomes.Outcome.{Outcome}
use Rattle.item_actions.specs.declared.outcomes.Outcome.TheVariants.{Digest, NotThere, Number}
use Rattle.ready_work.specs.ReadyWork.{Follows, FollowsOn, claimed_unit, closed_unit}
use Rattle.ready_work.specs.declared.ready_works.ReadyWork.{ReadyWork}
use Rattle.lock_journal.specs.Book.{FollowsEntry}

-- the mark that an outcome gives is an end
pub ended_from : (o : Outcome) → has_ended (mark_from o) ≡ true
ended_from (Number n) = refl
ended_from (Digest d) = refl
ended_from NotThere = refl
ended_from _ = refl

module _ {before after : TentativeView} {w : WorkerId} {kind : Kind} {made : List Change} {ready : ReadyWork} (belongs : BelongsTo after.graph after.state)
    (f : FollowsEntry before after (entry w kind (Some made)) ready) where
  -- the changes led to the state
  entry_led : FollowsOn after.graph before.state w made after.state ready
  entry_led = record {
    belongs = belongs;
    led = record { named = f.allowed.finished.named; possible = f.allowed.finished.possible; state = f.state };
    index = rw f.graph f.index;
  }

  -- those of a claim, and those of an end
  pub claim_led : {u : ℕ} → kind ≡ Claim u → FollowsOn after.graph before.state w (claimed_unit w u) after.state ready
  claim_led {u} is = subst (λ (cs : List Change). FollowsOn after.graph before.state w cs after.state ready) (subst (λ (k : Kind). IsListOf before.graph before.state w k made) is f.allowed.finished.list) entry_led

  pub close_led : {d : Closed} → kind ≡ Close d → FollowsOn after.graph before.state w (closed_unit w d.unit (mark_from d.outcome)) after.state ready
  close_led {d} is = subst (λ (cs : List Change). FollowsOn after.graph before.state w cs after.state ready) (subst (λ (k : Kind). IsListOf before.graph before.state w k made) is f.allowed.finished.list) entry_led

  -- in the graph, the state and the changes as they were read
  pub other_led : {g : GraphView} {s : StateView} {cs : List Change} → g ≡ after.graph → s ≡ after.state → cs ≡ made → Follows g before.state w cs s ready
  other_led graph state changes = rw (graph, state, changes) (record { belongs = belongs; led = inl entry_led.led; index = entry_led.index })
