-- What a desk sends goes on over the next part of a run.
use Rattle.std.proofs.Common.{◌≡◌, ℕ, List, [], ◌∷◌, ◌++◌, Bool, true, false, Option, Some, inl, inr, refl, subst, sym}
use Rattle.std.specs.Prelude.{slice_get}
use Rattle.std.proofs.lemmas.List.{append-nil}
use Rattle.item_actions.specs.declared.actions.ItemAction.{ItemAction}
use Rattle.lock_transforms.specs.declared.entries.Closed.{Closed}
use Rattle.daemon_requirements.specs.declared.work.Isolation.{Isolation}
use Rattle.daemon_requirements.specs.declared.work.Isolation.TheVariants.{InThread, Process}
use Rattle.daemon_requirements.specs.declared.work.Work.{Work}
use Rattle.item_work.specs.Requests.{SentView, mode_of, request_for}
use Rattle.item_work.specs.Sends.{SendsFor}
use Rattle.plan_reader.specs.PlanView.{process_of, work_view}
use Rattle.plan_reader.specs.Units.{PlannedUnit, item_unit}
use Rattle.coordination.specs.declared.rule.Sight.{Sight}
use Rattle.build_workers.specs.Kept.{HasClosed}
use Rattle.build_workers.specs.Sent.{AreSentAndOneMore, AreSentBy, AreSentFor, HasSent, SentFor, SentForUnit, SentForWork}
use Rattle.build_workers.specs.Units.{IsFetched}
use Rattle.build_workers.proofs.Keeping.{closes_then}

-- nothing is sent for a fetch
pub of_fetch : (units : List PlannedUnit) (d : Closed) {old new : SentView} → IsFetched units d.unit → new ≡ old → SentFor units d old new
of_fetch units d {old} {new} fetched same = subst (λ (o : Option PlannedUnit). SentForUnit o d old new) (sym fetched.1) same

-- and for an item what running it sends
of_work : (isolation : Isolation) (action : ItemAction) (file : List ℕ) (d : Closed) (old new : SentView) → SendsFor isolation old new (record { unit = d.unit; action = action; file = file; keep = mode_of isolation }) d.outcome
    → SentForWork (process_of isolation) (Some action) file d old new
of_work InThread action file d old new sent = sent
of_work (Process asked) action file d old new sent = sent

pub of_item : (units : List PlannedUnit) (w : Work) (d : Closed) (old new : SentView) → slice_get units d.unit ≡ Some (item_unit (work_view w)) → SendsFor w.isolation old new (request_for d.unit w) d.outcome → SentFor units d old new
of_item units w d old new is sent = subst (λ (o : Option PlannedUnit). SentForUnit o d old new) (sym is) (of_work w.isolation w.action w.file d old new sent)

-- what a part that was done sent is what one sent that is said to have failed
sent_by : (done : Bool) (units : List PlannedUnit) (ds : List Closed) (before after : SentView) → AreSentFor units ds before after → AreSentBy done units ds before after
sent_by true units ds before after sent = sent
sent_by false units ds before after sent = (after, sent, inl refl)

-- nothing was closed, and nothing sent
pub sent_nothing : (done : Bool) (units : List PlannedUnit) {before after : SentView} {old new : Sight} → HasClosed [] old new → after ≡ before → HasSent done units before after old new
sent_nothing done units {before} {after} closes same = record { closed = []; closes = closes; sent = sent_by done units [] before after same }

-- one unit was closed
pub sent_one : (units : List PlannedUnit) (d : Closed) {before after : SentView} {old new : Sight} → HasClosed (d ∷ []) old new → SentFor units d before after → HasSent true units before after old new
sent_one units d {before} {after} closes sent = record { closed = d ∷ []; closes = closes; sent = (after, sent, refl) }

-- one unit was run, and not closed
pub sent_more : (units : List PlannedUnit) (d : Closed) {before after : SentView} {old new : Sight} → HasClosed [] old new → SentFor units d before after → HasSent false units before after old new
sent_more units d {before} {after} closes sent = record { closed = []; closes = closes; sent = (before, refl, inr (d, sent)) }

joined : (units : List PlannedUnit) (ds es : List Closed) (a b c : SentView) → AreSentFor units ds a b → AreSentFor units es b c → AreSentFor units (ds ++ es) a c
joined units [] es a b c same rest = subst (λ v. AreSentFor units es v c) same rest
joined units (d ∷ ds) es a b c first rest = (first.0, first.1, joined units ds es first.0 b c first.2 rest)

joined_by : (done : Bool) (units : List PlannedUnit) (ds es : List Closed) (a b c : SentView) → AreSentFor units ds a b → AreSentBy done units es b c → AreSentBy done units (ds ++ es) a c
joined_by true units ds es a b c first rest = joined units ds es a b c first rest
joined_by false units ds es a b c first rest = (rest.0, joined units ds es a b rest.0 first rest.1, rest.2)

-- one part after the other, where the first was done
pub sent_then : (last : Bool) (units : List PlannedUnit) {a b c : SentView} {r s t : Sight} → HasSent true units a b r s → HasSent last units b c s t → HasSent last units a c r t
sent_then last units {a} {b} {c} {r} {s} {t} k l = record {
  closed = k.closed ++ l.closed;
  closes = closes_then k.closes l.closes;
  sent = joined_by last units k.closed l.closed a b c k.sent l.sent;
}

-- a part that failed, behind which nothing was closed
pub sent_still : {units : List PlannedUnit} {before after : SentView} {old mid new : Sight} → HasSent false units before after old mid → HasClosed [] mid new → HasSent false units before after old new
sent_still {units} {before} {after} k closed = record {
  closed = k.closed ++ [];
  closes = closes_then k.closes closed;
  sent = subst (λ ds. AreSentAndOneMore units ds before after) (sym (append-nil k.closed)) k.sent;
}
