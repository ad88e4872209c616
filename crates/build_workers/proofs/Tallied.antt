-- What a worker reserved for what its desk sent.
use Rattle.std.proofs.Common.{ap, arith}
use Rattle.item_actions.specs.declared.outcomes.Outcome.{Outcome}
use Rattle.daemon_requirements.specs.declared.work.Isolation.{Isolation}
use Rattle.daemon_requirements.specs.declared.work.Isolation.TheVariants.{InThread, Process}
use Rattle.daemon_manager.specs.Counts.{TallyView}
use Rattle.daemon_protocol.specs.declared.frames.Request.{Request}
use Rattle.item_work.specs.Requests.{SentView}
use Rattle.item_work.specs.Sends.{SendsFor}
use Rattle.item_work.specs.Tallying.{ReservesForEach, TalliesFor}

-- an item that sent a request reserved a daemon for it
pub reserves_for : (i : Isolation) (mine mine' : TallyView) (before after : SentView) (r : Request) (o : Outcome) → SendsFor i before after r o → TalliesFor i mine mine' before.count after.count o
    → ReservesForEach before.count after.count mine mine'
reserves_for InThread mine mine' before after r o sent counted = omega (arith, ap (λ (s : SentView). s.count) sent, ap (λ (t : TallyView). t.reserved) counted)
reserves_for (Process asked) mine mine' before after r o sent counted = counted.for_each
