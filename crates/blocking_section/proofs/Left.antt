-- What a worker shows once it has left a blocking section, and what it may wait for before.
use Rattle.std.proofs.Common.{◌≡◌, ◌<◌, ℕ, zero, suc, true, false, length, List, [], ◌∷◌, ◌++◌, get_or, Option, None, Some, refl, sym, ap, ◌∙◌, arith}
use Rattle.std.proofs.lemmas.Bool.{eq-eqb, false≢true, false_from_ne_true, true_from_ne_false}
use Rattle.lock_journal.specs.Names.{holding_after, GraphView, Holding, StateView, holding_of, mark_of, stands_in, IsWorkerOf, Change, Move, LockId}
use Rattle.lock_journal.specs.Names.{WorkerId, Mark, Waiting, Running, MarkId, UnitOf, IsDisabled, IsFixedList, BookView, is_enabled, list_of}
use Rattle.lock_journal.specs.Names.{mark_from, can_take_all, rises, Unblock, after_all, claimed_after, locks_after, mark_before, with_if, without_if}
use Rattle.resource_lock.proofs.lemmas.Runs.{worker_from}
use Rattle.item_actions.specs.declared.outcomes.Outcome.{Outcome}
use Rattle.worker_choices.specs.NextSteps.{can_take_up}
use Rattle.coordination.specs.Names.{Finds, HasFinished, claimed_shown, locks_shown, parked_shown}
use Rattle.coordination.specs.declared.rule.Sight.{Sight}
use Rattle.worker_notes.proofs.lemmas.Entries.{belongs_sound, good_sound}
use Rattle.coordination.proofs.lemmas.Shown.{ShowsAfter, shows_after}
use Rattle.blocking_section.specs.BlockedView.{BlockedView}
use Rattle.blocking_section.specs.Sections.{CanNotTakeUp, FitsUnit, HasTakenUp, HasUnit, IsGivenBackBy, closed_with, without_unit}
use Rattle.blocking_section.proofs.After.{after_all-append}
use Rattle.lock_journal.proofs.lemmas.Claims.{unit_claimed, unit_runs}
use Rattle.blocking_section.proofs.lemmas.Up.{ended_not_running, leaves_for, leaves_without, up, up_claimed, up_holding, up_rises, up_stands}

-- the changes, by what is parked: with the fetch's move behind where there is one
abbrev up_with : WorkerId → Option ℕ → Option Outcome → List LockId → List Change
up_with w (Some u) (Some o) ps = up ps ++ Move (UnitOf u) (Running w) (mark_from o) ∷ []
up_with w _ _ ps = up ps

list_is : (unit : Option ℕ) (outcome : Option Outcome) (g : GraphView) (s : StateView) (w : WorkerId) (ps : List LockId) → (holding_of s w).parked ≡ ps → list_of g s w (Unblock (closed_with unit outcome)) ≡ up_with w unit outcome ps
list_is None None g s w ps is = ap up is
list_is None (Some o) g s w ps is = ap up is
list_is (Some u) None g s w ps is = ap up is
list_is (Some u) (Some o) g s w ps is = ap (λ (ks : List LockId). up ks ++ Move (UnitOf u) (Running w) (mark_from o) ∷ []) is

with_holding : (unit : Option ℕ) (outcome : Option Outcome) (w : WorkerId) (h : Holding) → after_all holding_after h (up_with w unit outcome h.parked) ≡ record { lease = true; parked = []; blocked = false }
with_holding None None w h = up_holding h
with_holding None (Some o) w h = up_holding h
with_holding (Some u) None w h = up_holding h
with_holding (Some u) (Some o) w h = after_all-append holding_after h (up h.parked) (Move (UnitOf u) (Running w) (mark_from o) ∷ []) ∙ up_holding h

with_locks : (unit : Option ℕ) (outcome : Option Outcome) (w : WorkerId) (ps ls : List LockId) → after_all locks_after ls (up_with w unit outcome ps) ≡ after_all locks_after ls (up ps)
with_locks None None w ps ls = refl
with_locks None (Some o) w ps ls = refl
with_locks (Some u) None w ps ls = refl
with_locks (Some u) (Some o) w ps ls = after_all-append locks_after ls (up ps) (Move (UnitOf u) (Running w) (mark_from o) ∷ [])

with_claimed : (unit : Option ℕ) (outcome : Option Outcome) (w : WorkerId) (ps : List LockId) (ms : List MarkId) → FitsUnit unit outcome → after_all (claimed_after w) ms (up_with w unit outcome ps) ≡ without_unit unit ms
with_claimed None None w ps ms fits = up_claimed w ms ps
with_claimed None (Some o) w ps ms fits = absurd fits
with_claimed (Some u) None w ps ms fits = absurd fits
with_claimed (Some u) (Some o) w ps ms fits =
    after_all-append (claimed_after w) ms (up ps) (Move (UnitOf u) (Running w) (mark_from o) ∷ [])
    ∙ (ap (λ (ns : List MarkId). claimed_after w ns (Move (UnitOf u) (Running w) (mark_from o))) (up_claimed w ms ps)
    ∙ (λ i. with_if mark_before (ended_not_running w w o i) (UnitOf u) (without_if mark_before (eq-eqb w.0 w.0 refl i) (UnitOf u) ms)))

module _ (unit : Option ℕ) (outcome : Option Outcome) {old new : Sight} (f : HasFinished (Unblock (closed_with unit outcome)) (IsFixedList (Unblock (closed_with unit outcome))) old new) (fits : FitsUnit unit outcome) where
  left : ShowsAfter old new (up_with old.worker unit outcome (parked_shown old))
  left = shows_after f (f.finished.made ∙ list_is unit outcome f.before.graph f.before.state old.worker (parked_shown old) (ap (λ (h : Holding). h.parked) f.found.agrees.state.holding))

  holding_left : holding_of new.seen.state new.worker ≡ record { lease = true; parked = []; blocked = false }
  holding_left = left.holding ∙ with_holding unit outcome old.worker (holding_of old.seen.state old.worker)

  pub taken_up_shows : HasTakenUp unit old new
  taken_up_shows = record {
    lease = ap (λ (h : Holding). h.lease) holding_left;
    blocked = ap (λ (h : Holding). h.blocked) holding_left;
    parked = ap (λ (h : Holding). h.parked) holding_left;
    locks = λ l. ap (stands_in l) (left.locks ∙ with_locks unit outcome old.worker (parked_shown old) (locks_shown old)) ∙ up_stands l (parked_shown old) (locks_shown old);
    claimed = left.claimed ∙ with_claimed unit outcome old.worker (parked_shown old) (claimed_shown old) fits;
  }

  pub locks_again : (ls : List LockId) → rises 0 ls ≡ true → parked_shown old ≡ ls → locks_shown old ≡ [] → locks_shown new ≡ ls
  locks_again ls h parked nothing =
      left.locks
      ∙ (with_locks unit outcome old.worker (parked_shown old) (locks_shown old)
      ∙ ((λ i. after_all locks_after (nothing i) (up (parked i))) ∙ up_rises 0 ls h))

-- a mark that runs is one of the list
within : (ms : List Mark) (u : ℕ) (w : WorkerId) → get_or ms u Waiting ≡ Running w → u < length ms
within [] u w is = absurd (cc)
within (m ∷ ms) zero w is = omega arith
within (m ∷ ms) (suc u) w is = omega (arith, within ms u w is)

-- what it may wait for
pub can_not_take_up : (b : BlockedView) (outcome : Option Outcome) (old : Sight) (book : BookView) → Finds old.worker old.seen book → IsGivenBackBy old b → FitsUnit b.unit outcome
    → IsDisabled (Unblock (closed_with b.unit outcome)) book.graph old.worker book.state → CanNotTakeUp book.graph old.worker book.state
can_not_take_up b outcome old book found own fits disabled = at b.unit outcome fits own.unit disabled
  where
    worker : IsWorkerOf book.state old.worker
    worker = worker_from book.graph book.state old.worker (belongs_sound book found.sound) found.known

    blocked : (holding_of book.state old.worker).blocked ≡ true
    blocked = ap (λ (h : Holding). h.blocked) found.agrees.state.holding ∙ own.blocked

    at : (unit : Option ℕ) (o : Option Outcome) → FitsUnit unit o → HasUnit unit (claimed_shown old) → IsDisabled (Unblock (closed_with unit o)) book.graph old.worker book.state → CanNotTakeUp book.graph old.worker book.state
    at None None fit has off = false_from_ne_true (can_take_all book.state old.worker (holding_of book.state old.worker).parked) (λ free.
        false≢true (sym (off tt) ∙ leaves_without book.graph book.state old.worker worker (good_sound book found.sound) blocked (found.agrees.state.runs_unit ∙ sym (unit_claimed old.seen.state old.worker) ∙ has) free))
    at (Some u) (Some o) fit has off =
        let runs : mark_of book.state (UnitOf u) ≡ Running old.worker = (found.agrees.state.running (UnitOf u)).0 (unit_runs old.seen.state old.worker u has) in
        let belongs = belongs_sound book found.sound in
        let there : u < book.graph.units = omega (arith, within book.state.units u old.worker runs, belongs.units) in
        false_from_ne_true (can_take_all book.state old.worker (holding_of book.state old.worker).parked) (λ free.
        false≢true (sym (off (there, fit)) ∙ leaves_for book.graph book.state old.worker (record { unit = u; outcome = o }) worker (good_sound book found.sound) blocked runs free))
    at None (Some o) fit has off = absurd fit
    at (Some u) None fit has off = absurd fit

-- Where all that was given back can be had the way out is open at once, on the book of which that was said: the step of `TakeUp` can finish.
pub takes_up_at_once : (b : BlockedView) (outcome : Option Outcome) (old : Sight) (book : BookView) → Finds old.worker old.seen book → IsGivenBackBy old b → FitsUnit b.unit outcome
    → can_take_up old.worker book.state ≡ true → is_enabled book.graph book.state old.worker (Unblock (closed_with b.unit outcome)) ≡ true
takes_up_at_once b outcome old book found own fits free =
    true_from_ne_false (is_enabled book.graph book.state old.worker (Unblock (closed_with b.unit outcome))) (λ off. false≢true (sym (can_not_take_up b outcome old book found own fits (λ kind. off)) ∙ free))
