-- Two calls in turn, of which the first makes no entry.
use Rattle.std.proofs.Common.{inl, inr, sym, ap, ◌∙◌, subst}
use Rattle.std.specs.List.{list_any}
use Rattle.lock_journal.specs.Names.{WorkerId, BookView, Kind, is_action, is_unit}
use Rattle.coordination.specs.Names.{Finds, Cause, Making, HasFinished, IsAnswered, WasStopped, ShowsTheSame}
use Rattle.coordination.specs.declared.rule.Sight.{Sight}
use Rattle.worker_notes.proofs.lemmas.Growing.{agrees_then}
use Rattle.async_tracker.specs.Shows.{IsFree, IsIdleOrParked}

module _ {A : Type 0} {answers : WorkerId → BookView → A → Type 0} {a : A} {old mid : Sight} (q : IsAnswered answers a old mid) where
  found_later : (book : BookView) → Finds old.worker q.book book → Finds old.worker old.seen book
  found_later book found = record { agrees = agrees_then old.worker old.seen q.book book q.found.agrees found.agrees; sound = found.sound; known = found.known }

  pub finished_then : {kind : Kind} {makes : Making} {new : Sight} → HasFinished kind makes mid new → HasFinished kind makes old new
  finished_then {kind} {makes} {new} = subst (λ (s : Sight). HasFinished kind makes s new → HasFinished kind makes old new) (sym q.sight)
      (λ f. record { before = f.before; after = f.after; changes = f.changes; found = found_later f.before f.found; graph = f.graph; finished = f.finished; left = f.left; sight = f.sight })

  pub answered_then : {B : Type 0} {others : WorkerId → BookView → B → Type 0} {b : B} {new : Sight} → IsAnswered others b mid new → IsAnswered others b old new
  answered_then {B} {others} {b} {new} = subst (λ (s : Sight). IsAnswered others b s new → IsAnswered others b old new) (sym q.sight)
      (λ r. record { book = r.book; found = found_later r.book r.found; answer = r.answer; sight = r.sight })

  pub stopped_then : {cause : Cause} {by : WorkerId} {new : Sight} → WasStopped cause by mid new → WasStopped cause by old new
  stopped_then {cause} {by} {new} = subst (λ (s : Sight). WasStopped cause by s new → WasStopped cause by old new) (sym q.sight)
      (λ r. record { book = r.book; found = found_later r.book r.found; cause = r.cause; stopper = r.stopper; sight = r.sight })

-- what is so of a pass that shows the same
pub free_still : {old new : Sight} → ShowsTheSame old new → IsFree old → IsFree new
free_still same free = record { lease = same.lease ∙ free.lease; blocked = same.blocked ∙ free.blocked; units = ap (list_any is_unit) same.claimed ∙ free.units }

pub waits_still : {old new : Sight} → ShowsTheSame old new → IsIdleOrParked old → IsIdleOrParked new
waits_still same (inl idle) = inl (same.locks ∙ idle.0, same.claimed ∙ idle.1)
waits_still same (inr parked) = inr (ap (list_any is_action) same.claimed ∙ parked)
