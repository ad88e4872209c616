-- What a worker shows once it has entered a blocking section, and what it may wait for before.
use Rattle.std.proofs.Common.{◌≡◌, ◌<◌, ℕ, true, false, List, [], ◌++◌, Option, None, Some, refl, sym, ap, ◌∙◌, subst}
use Rattle.std.proofs.lemmas.Bool.{eq-eqb, false≢true, false_from_ne_true, or_right}
use Rattle.std.proofs.lemmas.List.Folds.{list_any-append}
use Rattle.lock_journal.specs.Names.{holding_after, GraphView, IsFetchOf, task_with, Holding, StateView, holding_of, mark_of, owner_of, owns, runs_by}
use Rattle.lock_journal.specs.Names.{stands_in, LockId, WorkerId, Running, MarkId, TaskOf, UnitOf, IsFixedList, IsUnmet, BookView, list_of, owned}
use Rattle.lock_journal.specs.Names.{Block, after_all, claimed_after, locks_after, mark_before, with_if}
use Rattle.resource_lock.proofs.lemmas.Undo.{owner_from}
use Rattle.coordination.specs.Names.{Finds, HasFinished, claimed_shown, lease_shown, locks_shown, parked_shown}
use Rattle.coordination.specs.declared.rule.Sight.{Sight}
use Rattle.worker_notes.proofs.lemmas.Nothing.{owns_none}
use Rattle.coordination.proofs.lemmas.Shown.{ShowsAfter, shows_after}
use Rattle.blocking_section.specs.Sections.{HasSetDown, HasUnit, IsGivenBackBy, IsNotReady, MayEnter, OwnsNothingMeanwhile, is_ready, with_unit}
use Rattle.lock_journal.proofs.lemmas.Claims.{has_member, action_claimed, unit_claimed, task_runs}
use Rattle.blocking_section.proofs.Down.{down, down_claimed, down_holding, down_locks, enters_for, enters_without}

-- the same of the list with the fetch's move before it
block_holding : (unit : Option ℕ) (g : GraphView) (s : StateView) (w : WorkerId) (h : Holding) → after_all holding_after h (list_of g s w (Block unit)) ≡ record { lease = false; parked = h.parked ++ owned s w; blocked = true }
block_holding None g s w h = down_holding h (owned s w)
block_holding (Some u) g s w h = down_holding h (owned s w)

block_locks : (unit : Option ℕ) (g : GraphView) (s : StateView) (w : WorkerId) (ls : List LockId) → owned s w ≡ ls → after_all locks_after ls (list_of g s w (Block unit)) ≡ []
block_locks None g s w ls is = ap (λ (ks : List LockId). after_all locks_after ls (down ks)) is ∙ down_locks ls
block_locks (Some u) g s w ls is = ap (λ (ks : List LockId). after_all locks_after ls (down ks)) is ∙ down_locks ls

block_claimed : (unit : Option ℕ) (g : GraphView) (s : StateView) (w : WorkerId) (ms : List MarkId) → after_all (claimed_after w) ms (list_of g s w (Block unit)) ≡ with_unit unit ms
block_claimed None g s w ms = down_claimed w ms (owned s w)
block_claimed (Some u) g s w ms = down_claimed w (with_if mark_before (runs_by w (Running w)) (UnitOf u) ms) (owned s w) ∙ ap (λ b. with_if mark_before b (UnitOf u) ms) (eq-eqb w.0 w.0 refl)

module _ {unit : Option ℕ} {old new : Sight} (f : HasFinished (Block unit) (IsFixedList (Block unit)) old new) where
  left : ShowsAfter old new (list_of f.before.graph f.before.state old.worker (Block unit))
  left = shows_after f f.finished.made

  holding_left : holding_of new.seen.state new.worker ≡ record { lease = false; parked = parked_shown old ++ locks_shown old; blocked = true }
  holding_left = left.holding ∙ block_holding unit f.before.graph f.before.state old.worker (holding_of old.seen.state old.worker)
      ∙ ap (λ (ls : List LockId). record { lease = false; parked = parked_shown old ++ ls; blocked = true }) f.found.agrees.state.owned

  pub set_down_shows : HasSetDown unit old new
  set_down_shows = record {
    locks = left.locks ∙ block_locks unit f.before.graph f.before.state old.worker (locks_shown old) f.found.agrees.state.owned;
    lease = ap (λ (h : Holding). h.lease) holding_left;
    blocked = ap (λ (h : Holding). h.blocked) holding_left;
    parked = ap (λ (h : Holding). h.parked) holding_left;
    claimed = left.claimed ∙ block_claimed unit f.before.graph f.before.state old.worker (claimed_shown old);
  }

-- nothing is owned as long as nobody but others makes entries
pub nothing_meanwhile : {unit : Option ℕ} {old new : Sight} → HasSetDown unit old new → OwnsNothingMeanwhile new
nothing_meanwhile {new = new} shows book agrees =
    let same = agrees.state in record {
      locks = λ l. same.owns l ∙ false_from_ne_true (owns new.seen.state new.worker l) (λ own. owns_none new.seen.state new.worker shows.locks l (owner_from (owner_of new.seen.state l) new.worker own));
      lease = ap (λ (h : Holding). h.lease) same.holding ∙ shows.lease;
    }

unit_held : (unit : Option ℕ) (old : Sight) → MayEnter unit old → HasUnit unit (with_unit unit (claimed_shown old))
unit_held None old may = may
unit_held (Some u) old may = has_member mark_before (UnitOf u) (claimed_shown old)

pub given_back : {unit : Option ℕ} {old new : Sight} → new.worker ≡ old.worker → MayEnter unit old → HasSetDown unit old new → IsGivenBackBy new (record { worker = old.worker; unit = unit; locks = locks_shown old })
given_back {unit} {old} {new} worker may shows = record {
  worker = sym worker;
  blocked = shows.blocked;
  locks = λ l there. ap (stands_in l) shows.parked ∙ (list_any-append _ (parked_shown old) (locks_shown old) ∙ or_right (stands_in l (parked_shown old)) (stands_in l (locks_shown old)) there);
  unit = subst (HasUnit unit) (sym shows.claimed) (unit_held unit old may);
}

-- what it may wait for
pub not_ready : (unit : Option ℕ) (old : Sight) (book : BookView) → Finds old.worker old.seen book → lease_shown old ≡ true → MayEnter unit old → IsUnmet (Block unit) book.graph old.worker book.state → IsNotReady unit book.graph old.worker book.state
not_ready None old book found lease may unmet =
    let leased : (holding_of book.state old.worker).lease ≡ true = ap (λ (h : Holding). h.lease) found.agrees.state.holding ∙ lease in
    absurd (false≢true (sym (unmet tt) ∙ enters_without book.graph book.state old.worker leased (found.agrees.state.runs_unit ∙ sym (unit_claimed old.seen.state old.worker) ∙ may)))
not_ready (Some u) old book found lease may unmet =
    let leased : (holding_of book.state old.worker).lease ≡ true = ap (λ (h : Holding). h.lease) found.agrees.state.holding ∙ lease in
    let graph : old.seen.graph ≡ book.graph = sym found.agrees.graph in
    let there = subst (λ (g : GraphView). u < g.units) graph may.0.there in
    let fetch : IsFetchOf book.graph may.0.action u = subst (λ (g : GraphView). IsFetchOf g may.0.action u) graph may.0.fetch in
    let task : mark_of book.state (TaskOf (task_with book.graph may.0.action)) ≡ Running old.worker =
    subst (λ (g : GraphView). mark_of book.state (TaskOf (task_with g may.0.action)) ≡ Running old.worker) graph
    ((found.agrees.state.running (TaskOf (task_with old.seen.graph may.0.action))).0 (task_runs old.seen.state old.worker (task_with old.seen.graph may.0.action) may.0.task)) in (
      may.0.action,
      fetch,
      false_from_ne_true (is_ready book.graph book.state may.0.action u) (λ ready. false≢true (sym (unmet there)
          ∙ enters_for book.graph book.state old.worker may.0.action u fetch leased task (found.agrees.state.is_parked ∙ sym (action_claimed old.seen.state old.worker) ∙ may.1) ready)),
    )
