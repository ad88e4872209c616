-- What a pass shows behind a call that leaves what it shows, and behind a claim and its close.
use Rattle.std.proofs.Common.{◌≡◌, ℕ, Bool, false, cond, List, [], ◌∷◌, inl, inr, sym, ap, ◌∙◌, subst, arith}
use Rattle.std.specs.Prelude.{Contains}
use Rattle.std.proofs.lemmas.Bool.{cases_Bool, le-ltb}
use Rattle.lock_journal.specs.Names.{stands_last, GraphView, action_of, lock_with, Retention, Retain, Release, ReleaseAndReacquire, LockId}
use Rattle.lock_journal.specs.Names.{MarkId, ActionOf, UnitOf, mark_before, with_member, without_member}
use Rattle.coordination.specs.Names.{ShowsTheSame, lease_shown}
use Rattle.coordination.specs.declared.rule.Sight.{Sight}
use Rattle.async_tracker.specs.ParkedView.{ParkedView}
use Rattle.async_tracker.specs.Shows.{HasParkedLast, IsParkedBy, ShowsClaimed, ShowsClosed, ShowsParked, ShowsResumed, locks_on_park, locks_on_resume, parked_on_park, parked_on_resume}

-- what is so of a pass that shows the same
pub shows_then : {a b c : Sight} → ShowsTheSame a b → ShowsTheSame b c → ShowsTheSame a c
shows_then p q = record {
  worker = q.worker ∙ p.worker;
  graph = q.graph ∙ p.graph;
  locks = q.locks ∙ p.locks;
  lease = q.lease ∙ p.lease;
  claimed = q.claimed ∙ p.claimed;
  parked = q.parked ∙ p.parked;
  blocked = q.blocked ∙ p.blocked;
}

last_still : (r : Retention) (l : LockId) {old new : Sight} → ShowsTheSame old new → HasParkedLast r l old → HasParkedLast r l new
last_still Retain l same last = tt
last_still Release l same last = ap (stands_last l) same.parked ∙ last
last_still ReleaseAndReacquire l same last = ap (stands_last l) same.parked ∙ last

pub parked_still : {old new : Sight} (p : ParkedView) → ShowsTheSame old new → IsParkedBy old p → IsParkedBy new p
parked_still {old} {new} p same by =
    let last = last_still (action_of old.seen.graph p.action).retention (lock_with old.seen.graph p.action) same by.lock in
    record {
      worker = by.worker ∙ sym same.worker;
      action = subst (λ (ms : List MarkId). Contains ms (ActionOf p.action)) (sym same.claimed) by.action;
      lock = subst (λ (g : GraphView). HasParkedLast (action_of g p.action).retention (lock_with g p.action) new) (sym same.graph) last;
    }

-- what the pass shows of a worker that parks, resumes or claims goes by what it showed before a call that changed nothing of it
pub parked_from : {old mid new : Sight} (r : Retention) (l : LockId) (a : ℕ) → ShowsTheSame old mid → ShowsParked r l a mid new → ShowsParked r l a old new
parked_from r l a same parked = record {
  worker = parked.worker ∙ same.worker;
  graph = parked.graph ∙ same.graph;
  locks = parked.locks ∙ ap (locks_on_park r l) same.locks;
  lease = parked.lease;
  claimed = parked.claimed ∙ ap (with_member mark_before (ActionOf a)) same.claimed;
  parked = parked.parked ∙ ap (parked_on_park r l) same.parked;
  blocked = parked.blocked ∙ same.blocked;
}

pub resumed_from : {old mid new : Sight} (r : Retention) (l : LockId) (a : ℕ) → ShowsTheSame old mid → ShowsResumed r l a mid new → ShowsResumed r l a old new
resumed_from r l a same resumed = record {
  worker = resumed.worker ∙ same.worker;
  graph = resumed.graph ∙ same.graph;
  locks = resumed.locks ∙ ap (locks_on_resume r l) same.locks;
  lease = resumed.lease;
  claimed = resumed.claimed ∙ ap (without_member mark_before (ActionOf a)) same.claimed;
  parked = resumed.parked ∙ ap (parked_on_resume r) same.parked;
  blocked = resumed.blocked ∙ same.blocked;
}

pub claimed_from : {old mid new : Sight} (u : ℕ) → ShowsTheSame old mid → ShowsClaimed u mid new → ShowsClaimed u old new
claimed_from u same shows = record {
  worker = shows.worker ∙ same.worker;
  graph = shows.graph ∙ same.graph;
  locks = shows.locks ∙ same.locks;
  lease = shows.lease;
  claimed = shows.claimed ∙ ap (with_member mark_before (UnitOf u)) same.claimed;
  parked = shows.parked ∙ same.parked;
  blocked = shows.blocked ∙ same.blocked;
}

-- a member that was added and taken out again
without-with : {X : Type 0} (before : X → X → Bool) (x : X) → before x x ≡ false → (xs : List X) → without_member before x (with_member before x xs) ≡ xs
without-with before x apart [] = λ i. cond (apart i) (x ∷ []) (cond (apart i) (x ∷ []) [])
without-with {X = X} before x apart (y ∷ ys) = elim (cases_Bool (before y x)) [
  | inl first ↦ ap (without_member before x) (λ i. cond (first i) (y ∷ with_member before x ys) (x ∷ y ∷ ys))
      ∙ (λ i. cond (first i) (y ∷ without_member before x (with_member before x ys)) (cond (before x y) (y ∷ with_member before x ys) (with_member before x ys)))
      ∙ ap (λ (zs : List X). y ∷ zs) (without-with before x apart ys)
  | inr later ↦ ap (without_member before x) (λ i. cond (later i) (y ∷ with_member before x ys) (x ∷ y ∷ ys))
      ∙ (λ i. cond (apart i) (x ∷ without_member before x (y ∷ ys)) (cond (apart i) (x ∷ y ∷ ys) (y ∷ ys)))
]

-- a unit that was claimed and closed again
pub same_again : (u : ℕ) (a b c : Sight) → lease_shown a ≡ false → ShowsClaimed u a b → ShowsClosed u b c → ShowsTheSame a c
same_again u a b c none claimed closed = record {
  worker = closed.worker ∙ claimed.worker;
  graph = closed.graph ∙ claimed.graph;
  locks = closed.locks ∙ claimed.locks;
  lease = closed.lease ∙ sym none;
  claimed = closed.claimed ∙ (ap (without_member mark_before (UnitOf u)) claimed.claimed ∙ without-with mark_before (UnitOf u) (le-ltb u u (omega arith)) _);
  parked = closed.parked ∙ claimed.parked;
  blocked = closed.blocked ∙ claimed.blocked;
}
