-- Where items can be claimed and closed, and what that leaves.
use Rattle.std.proofs.Common.{◌≡◌, ◌≢◌, ℕ, Bool, true, false, not, ◌&&◌, ◌||◌, inl, inr, refl, sym, ap, ◌∙◌, subst}
use Rattle.std.specs.Prelude.{Contains, nat_lt}
use Rattle.std.proofs.lemmas.Bool.{and_from, eq-eqb, false≢true}
use Rattle.lock_journal.specs.Names.{can, make, same_mark, GraphView, is_item, Holding, StateView, holding_of, is_idle, is_parked, leases_out}
use Rattle.lock_journal.specs.Names.{mark_of, runs_by, runs_unit, WorkerId, Queued, Running, UnitOf, Move, Take, IsDisabled, IsFixedList, BookView}
use Rattle.lock_journal.specs.Names.{condition, is_enabled, mark_from, Claim, Close, mark_before, with_if, without_if}
use Rattle.item_actions.specs.declared.outcomes.Outcome.{Outcome}
use Rattle.item_actions.specs.declared.outcomes.Outcome.TheVariants as outcomes
use Rattle.coordination.specs.Names.{Finds, HasFinished, claimed_shown, lease_shown}
use Rattle.coordination.specs.declared.rule.Sight.{Sight}
use Rattle.async_tracker.specs.Shows.{IsFree, IsIdleOrParked, IsItemHere, ShowsClaimed, ShowsClosed}
use Rattle.coordination.proofs.lemmas.Shown.{shows_left}
use Rattle.lock_journal.proofs.lemmas.Claims.{action_claimed, idle_shown, unit_claimed, unit_runs}

-- what is so of a worker in a state where it may claim
pub record MayClaim (s : StateView) (w : WorkerId) : Type 0 where
  pub units : runs_unit s w ≡ false
  pub blocked : (holding_of s w).blocked ≡ false
  pub lease : (holding_of s w).lease ≡ false
  pub rests : (is_parked s w || is_idle s w) ≡ true

pub claim_enabled : (g : GraphView) (s : StateView) (w : WorkerId) (u : ℕ) → is_item g u ≡ true → mark_of s (UnitOf u) ≡ Queued → MayClaim s w → nat_lt (leases_out s) s.max_leases ≡ true → is_enabled g s w (Claim u) ≡ true
claim_enabled g s w u item queued may free =
    let holds : condition g s w (Claim u) ≡ true = λ i. item i && same_mark (queued i) Queued && not (may.units i) && not (may.blocked i) && not (may.lease i) && may.rests i in
    let takes : can s w Take ≡ true = λ i. not (may.lease i) && not (may.blocked i) && free i in
    let moves : can (make s w Take) w (Move (UnitOf u) Queued (Running w)) ≡ true = λ i. same_mark (queued i) Queued && true && true && eq-eqb w.0 w.0 refl i in
    and_from _ _ holds (and_from _ _ takes (and_from _ _ moves refl))

either_way : (a b : Bool) → b ≡ true → (a || b) ≡ true
either_way true b h = refl
either_way false b h = h

rests_or : (s : Sight) → IsFree s → IsIdleOrParked s → (is_parked s.seen.state s.worker || is_idle s.seen.state s.worker) ≡ true
rests_or s free (inl idle) = either_way (is_parked s.seen.state s.worker) (is_idle s.seen.state s.worker) (idle_shown s.seen.state s.worker idle.0 idle.1 free.lease free.blocked)
rests_or s free (inr parked) = ap (λ b. b || is_idle s.seen.state s.worker) (sym (action_claimed s.seen.state s.worker) ∙ parked)

pub may_claim : (old : Sight) (book : BookView) → Finds old.worker old.seen book → IsFree old → IsIdleOrParked old → MayClaim book.state old.worker
may_claim old book found free rests =
    let same = found.agrees.state in record {
      units = same.runs_unit ∙ (sym (unit_claimed old.seen.state old.worker) ∙ free.units);
      blocked = ap (λ (h : Holding). h.blocked) same.holding ∙ free.blocked;
      lease = ap (λ (h : Holding). h.lease) same.holding ∙ free.lease;
      rests = (λ i. same.is_parked i || same.is_idle i) ∙ rests_or old free rests;
    }

pub claimed_shows : {u : ℕ} {old new : Sight} → HasFinished (Claim u) (IsFixedList (Claim u)) old new → ShowsClaimed u old new
claimed_shows {u} {old} f = shows_left f f.finished.made record {
  holding = refl;
  locks = refl;
  claimed = ap (λ b. with_if mark_before b (UnitOf u) (claimed_shown old)) (eq-eqb old.worker.0 old.worker.0 refl);
}

-- a unit that ended runs by nobody
ended_by_nobody : (w : WorkerId) (o : Outcome) → runs_by w (mark_from o) ≡ false
ended_by_nobody w (outcomes.Number n) = refl
ended_by_nobody w (outcomes.Digest d) = refl
ended_by_nobody w outcomes.NotThere = refl
ended_by_nobody w outcomes.TooLong = refl
ended_by_nobody w outcomes.Fault = refl
ended_by_nobody w outcomes.NoMemory = refl
ended_by_nobody w outcomes.Skipped = refl

pub closed_shows : {u : ℕ} {o : Outcome} {old new : Sight} → HasFinished (Close (record { unit = u; outcome = o })) (IsFixedList (Close (record { unit = u; outcome = o }))) old new → ShowsClosed u old new
closed_shows {u} {o} {old} f =
    let w : WorkerId = old.worker in
    shows_left f f.finished.made record {
      holding = refl;
      locks = refl;
      claimed = ap (λ b. with_if mark_before b (UnitOf u) (without_if mark_before (runs_by w (Running w)) (UnitOf u) (claimed_shown old))) (ended_by_nobody w o)
          ∙ ap (λ b. without_if mark_before b (UnitOf u) (claimed_shown old)) (eq-eqb w.0 w.0 refl);
    }

close_enabled : (g : GraphView) (s : StateView) (w : WorkerId) (u : ℕ) (o : Outcome) → is_item g u ≡ true → mark_of s (UnitOf u) ≡ Running w → (holding_of s w).lease ≡ true → is_enabled g s w (Close (record { unit = u; outcome = o })) ≡ true
close_enabled g s w u (outcomes.Number n) item runs lease = rw (item, runs, lease, eq-eqb w.0 w.0 refl) refl
close_enabled g s w u (outcomes.Digest d) item runs lease = rw (item, runs, lease, eq-eqb w.0 w.0 refl) refl
close_enabled g s w u outcomes.NotThere item runs lease = rw (item, runs, lease, eq-eqb w.0 w.0 refl) refl
close_enabled g s w u outcomes.TooLong item runs lease = rw (item, runs, lease, eq-eqb w.0 w.0 refl) refl
close_enabled g s w u outcomes.Fault item runs lease = rw (item, runs, lease, eq-eqb w.0 w.0 refl) refl
close_enabled g s w u outcomes.NoMemory item runs lease = rw (item, runs, lease, eq-eqb w.0 w.0 refl) refl
close_enabled g s w u outcomes.Skipped item runs lease = rw (item, runs, lease, eq-eqb w.0 w.0 refl) refl

-- a close of a claimed item waits for nothing
pub close_never_waits : (old : Sight) (book : BookView) (u : ℕ) (o : Outcome) → Finds old.worker old.seen book → IsItemHere old.seen.graph u → Contains (claimed_shown old) (UnitOf u) → lease_shown old ≡ true → o ≢ outcomes.Skipped
    → IsDisabled (Close (record { unit = u; outcome = o })) book.graph old.worker book.state → ⊥
close_never_waits old book u o found item there lease known disabled =
    let graph : old.seen.graph ≡ book.graph = sym found.agrees.graph in
    let here : IsItemHere book.graph u = subst (λ (g : GraphView). IsItemHere g u) graph item in
    let same = found.agrees.state in
    let runs : mark_of book.state (UnitOf u) ≡ Running old.worker = (same.running (UnitOf u)).0 (unit_runs old.seen.state old.worker u there) in
    let leased : (holding_of book.state old.worker).lease ≡ true = ap (λ (h : Holding). h.lease) same.holding ∙ lease in
    false≢true (sym (disabled (here.in_range, known)) ∙ close_enabled book.graph book.state old.worker u o here.item runs leased)
