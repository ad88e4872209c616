-- What a try of a transform leaves, as the call says it, and what one leaves that takes up what the worker has parked.
use Rattle.std.proofs.Common.{◌≡◌, ◌≢◌, ◌<◌, Bool, true, false, Option, Some, None, refl, ap, ◌∙◌, subst}
use Rattle.lock_journal.specs.Names.{WorkerId, BookView, IsDisabled, IsFixedList, IsUnmet, Closed}
use Rattle.lock_transforms.specs.declared.entries.Kind.TheVariants as kinds
use Rattle.lock_transforms.specs.declared.kinds.unblocks.Unblock.{Unblock as UnblockOf}
use Rattle.worker_choices.specs.NextSteps.{can_take_up}
use Rattle.blocking_section.specs.Sections.{CanNotTakeUp}
use Rattle.coordination.specs.Names.{HasFinished, WasStopped, hearing, KnowsNoStop}
use Rattle.coordination.specs.declared.decisions.Decided.{Decided}
use Rattle.coordination.specs.declared.decisions.Decided.TheVariants as decided
use Rattle.coordination.specs.declared.rule.Sight.{Sight}
use Rattle.coordination.proofs.TakenBooks.{sound-same}
use Rattle.planned_work.specs.Done.{CannotTakeUpYet, CloseLeaves, HasTakenUp, IsKeptInside, answer_of}
use Rattle.planned_work.specs.Sections.{EnterLeaves}
use Rattle.planned_work.specs.Trying.{DecisionLeaves, RunLeaves}
use Rattle.planned_work.specs.declared.trying.Ran.{Ran}
use Rattle.planned_work.specs.declared.trying.Ran.TheVariants as ran
use Rattle.planned_work.specs.declared.trying.Tried.{Tried}
use Rattle.planned_work.specs.declared.trying.Tried.TheVariants as tried
use Rattle.planned_work.proofs.Tried.{found_again}

-- a closing, and the entry into a section
pub closing_leaves : (c : Closed) (s s' : Sight) (r : Ran) → RunLeaves (kinds.Close c) (IsFixedList (kinds.Close c)) (IsDisabled (kinds.Close c)) s s' r → CloseLeaves c s s' (answer_of r)
closing_leaves c s s' ran.Finished h = h
closing_leaves c s s' ran.NoMemory h = h
closing_leaves c s s' ran.Retry h = h
closing_leaves c s s' ran.Again h = h

pub entry_leaves : (s s' : Sight) (r : Ran) → RunLeaves (kinds.Block None) (IsFixedList (kinds.Block None)) (IsUnmet (kinds.Block None)) s s' r → EnterLeaves s s' (answer_of r)
entry_leaves s s' ran.Finished h = h
entry_leaves s s' ran.NoMemory h = h
entry_leaves s s' ran.Retry h = h
entry_leaves s s' ran.Again h = h

-- a decision to take up what is parked
abbrev pub Ups : Option Closed → Sight → Sight → Tried (Unit {0}) → Type 0
Ups closed s s' t =
    DecisionLeaves (λ (queued : Bool) (w : WorkerId) (book : BookView) (a : Unit {0}). can_take_up w book.state ≡ true) (λ (queued : Bool) (w : WorkerId) (book : BookView). can_take_up w book.state ≡ false) (λ (a : Unit {0}). Some (record { closed = closed }))
    (λ (x : UnblockOf). kinds.Unblock x.closed) (λ (x : UnblockOf). IsFixedList (kinds.Unblock x.closed)) (λ (x : UnblockOf) g w k. ⊥) (λ (x : UnblockOf). IsDisabled (kinds.Unblock x.closed)) s s' t

same_step : (x y : UnblockOf) → Some x ≡ Some y → y ≡ x
same_step x y is = cc

pub taken_up : (closed : Option Closed) (s s' : Sight) (a : Unit {0}) → Ups closed s s' (tried.Decided (decided.Entered a true)) → HasTakenUp closed s s'
taken_up closed s s' a h = subst (λ (x : UnblockOf). HasFinished (kinds.Unblock x.closed) (IsFixedList (kinds.Unblock x.closed)) s s') (same_step (record { closed = closed }) h.step h.is) h.finished

pub kept_inside : (closed : Option Closed) (s s' : Sight) (d : Decided (Unit {0})) → ((a : Unit {0}) → d ≢ decided.Entered a true) → Ups closed s s' (tried.Decided d) → IsKeptInside closed s s'
kept_inside closed s s' (decided.Answered a) other h = let none = h.1 in absurd (cc)
kept_inside closed s s' (decided.Entered a true) other h = absurd (other a refl)
kept_inside closed s s' (decided.Entered a false) other h = absurd h.failed.failed.cause
kept_inside closed s s' (decided.Waiting a) other h =
    let u = h.unchanged in record {
      book = h.before;
      found = h.found;
      disabled = subst (λ (x : UnblockOf). IsDisabled (kinds.Unblock x.closed) h.before.graph s.worker h.before.state) (same_step (record { closed = closed }) h.step h.is) u.cause;
      free = h.answer;
      looked = record {
        book = h.after;
        found = found_again s.worker s.seen h.before h.after h.found h.graph u.state u.history (sound-same h.before h.after h.found.sound h.graph u.state u.history);
        sight = h.sight;
      };
    }

-- it can't be taken up yet, and the worker hears of no stop, or of one
pub not_yet : (closed : Option Closed) (s between s' : Sight) → Ups closed s between tried.Unanswered → (s' ≡ between) × KnowsNoStop between → CannotTakeUpYet s s'
not_yet closed s between s' h none = record {
  unheard = subst KnowsNoStop h.sight none.1;
  waits = record { book = h.book; found = h.found; cause = h.cause; sight = none.0 ∙ h.sight };
}

pub stopped_inside : (closed : Option Closed) (s between s' : Sight) (by : WorkerId) → Ups closed s between tried.Unanswered → by.0 < between.seen.graph.workers → s' ≡ hearing between by → WasStopped CanNotTakeUp by s s'
stopped_inside closed s between s' by h stopper is = record {
  book = h.book;
  found = h.found;
  cause = h.cause;
  stopper = subst (λ (k : Sight). by.0 < k.seen.graph.workers) h.sight stopper;
  sight = is ∙ ap (λ (k : Sight). hearing k by) h.sight;
}
