-- What a worker has at its place, in each book that it finds.
use Rattle.std.proofs.Common.{◌≡◌, ℕ, ◌<◌, ◌⊎◌, Bool, true, false, not, ◌==◌, List, [], ◌∷◌, length, Option, None, Some, inl, inr, refl, sym, ap, ◌∙◌, subst, arith}
use Rattle.std.specs.List.{list_any}
use Rattle.std.proofs.lemmas.Bool.{eq-eqb, false≢true, false_from_ne_true, ne_eqb, or_parts}
use Rattle.lock_journal.specs.Names.{stands_last, Fits, GraphView, action_of, task_of, IsActionOf, lock_with, task_with, Holding, StateView}
use Rattle.lock_journal.specs.Names.{holding_of, is_parked, mark_of, owns, runs_unit, stands_in, Retention, Retain, Release, ReleaseAndReacquire}
use Rattle.lock_journal.specs.Names.{LockId, Running, MarkId, TaskOf, ActionOf, UnitOf, BookView, is_action, is_unit}
use Rattle.lock_journal.proofs.lemmas.Claims.{action_claimed, action_runs, task_runs, unit_claimed, unit_runs}
use Rattle.lock_journal.proofs.lemmas.Fitting.{apart_of}
use Rattle.lock_journal.proofs.lemmas.Owned.{stands_in_owned}
use Rattle.coordination.specs.Names.{Finds, HoldsNothing, blocked_shown, claimed_shown, lease_shown, locks_shown, parked_shown}
use Rattle.coordination.specs.declared.rule.Sight.{Sight}
use Rattle.worker_notes.proofs.lemmas.Entries.{belongs_sound}
use Rattle.async_tracker.specs.Shows.{HasParkedLast, IsFree, IsIdleOrParked, IsItemHere, IsParkedBy, OwnsToPark, WorksOn}
use Rattle.single_steps.proofs.TaskActions.{running_within}
use Rattle.planned_work.specs.InPlace.{HasLock, HasReleasedTask, IsInPlace, parked_under}
use Rattle.planned_work.specs.Places.{action_in, has_any, place_by, place_of, task_in, unit_in}
use Rattle.planned_work.specs.declared.places.Place.{Place}
use Rattle.planned_work.specs.declared.places.Place.TheVariants as places
use Rattle.planned_work.proofs.KeptInPlace.{in_place}
use Rattle.planned_work.proofs.NeverStuck.{none_any, unit_stands}
use Rattle.planned_work.proofs.Placed.{action_stands, task_stands}

-- what a place says of whether the worker is blocked, of its marks, and of whether it has anything
abbrev Reads : Place → Bool → Option ℕ → Option ℕ → Option ℕ → Bool → Type 0
Reads places.Idle b u a t any = (b ≡ false) × (u ≡ None) × (a ≡ None) × (t ≡ None) × (any ≡ false)
Reads (places.InTask n) b u a t any = (b ≡ false) × (u ≡ None) × (a ≡ None) × (t ≡ Some n)
Reads (places.Parked n) b u a t any = (b ≡ false) × (u ≡ None) × (a ≡ Some n)
Reads (places.Item n) b u a t any = (b ≡ false) × (u ≡ Some n)
Reads (places.ItemIn n m) b u a t any = (b ≡ false) × (u ≡ Some n)
Reads _ b u a t any = Unit {0}

reads_by : (b : Bool) (u a t : Option ℕ) (any : Bool) → Reads (place_by b u a t any) b u a t any
reads_by true (Some u) a t any = tt
reads_by true None a t any = tt
reads_by false (Some u) (Some a) t any = (refl, refl)
reads_by false (Some u) None t any = (refl, refl)
reads_by false None (Some a) t any = (refl, refl, refl)
reads_by false None None (Some t) any = (refl, refl, refl, refl)
reads_by false None None None true = tt
reads_by false None None None false = (refl, refl, refl, refl, refl)

pub reads : (s : Sight) (p : Place) → place_of s ≡ p → Reads p (blocked_shown s) (unit_in (claimed_shown s)) (action_in (claimed_shown s)) (task_in (claimed_shown s)) (has_any s)
reads s p is =
    subst (λ (q : Place). Reads q (blocked_shown s) (unit_in (claimed_shown s)) (action_in (claimed_shown s)) (task_in (claimed_shown s)) (has_any s)) is
    (reads_by (blocked_shown s) (unit_in (claimed_shown s)) (action_in (claimed_shown s)) (task_in (claimed_shown s)) (has_any s))

no_marks : (ms : List MarkId) → unit_in ms ≡ None → action_in ms ≡ None → task_in ms ≡ None → ms ≡ []
no_marks [] u a t = refl
no_marks (TaskOf n ∷ ms) u a t = absurd (cc)
no_marks (ActionOf n ∷ ms) u a t = absurd (cc)
no_marks (UnitOf n ∷ ms) u a t = absurd (cc)

no_action : (ms : List MarkId) → action_in ms ≡ None → list_any is_action ms ≡ false
no_action [] is = refl
no_action (TaskOf t ∷ ms) is = no_action ms is
no_action (ActionOf a ∷ ms) is = absurd (cc)
no_action (UnitOf u ∷ ms) is = no_action ms is

some_action : (ms : List MarkId) (n : ℕ) → action_in ms ≡ Some n → list_any is_action ms ≡ true
some_action [] n is = absurd (cc)
some_action (TaskOf t ∷ ms) n is = some_action ms n is
some_action (ActionOf a ∷ ms) n is = refl
some_action (UnitOf u ∷ ms) n is = some_action ms n is

no_locks : (ls : List LockId) → not (length ls == 0) ≡ false → ls ≡ []
no_locks [] is = refl
no_locks (l ∷ ls) is = absurd (false≢true (sym is ∙ ap not (ne_eqb (length (l ∷ ls)) 0 (λ same. absurd (omega (arith, same))))))

module _ (old : Sight) (book : BookView) (fits : Fits old.seen.graph) (found : Finds old.worker old.seen book) where
  -- the worker is in place in the book
  pub here : IsInPlace book.graph book.state old.worker
  here = subst (λ (s : StateView). IsInPlace book.graph s old.worker) (sym found.sound.replays) (in_place book.graph book.history old.worker (subst Fits (sym found.agrees.graph) fits) found.sound.lawful)

  -- as its pass shows it
  pub same_blocked : (holding_of book.state old.worker).blocked ≡ blocked_shown old
  same_blocked = ap (λ (h : Holding). h.blocked) found.agrees.state.holding

  pub same_lease : (holding_of book.state old.worker).lease ≡ lease_shown old
  same_lease = ap (λ (h : Holding). h.lease) found.agrees.state.holding

  pub same_parked : (holding_of book.state old.worker).parked ≡ parked_shown old
  same_parked = ap (λ (h : Holding). h.parked) found.agrees.state.holding

  pub waits_not : list_any is_action (claimed_shown old) ≡ false → is_parked book.state old.worker ≡ false
  waits_not none = found.agrees.state.is_parked ∙ (sym (action_claimed old.seen.state old.worker) ∙ none)

  pub runs_none : list_any is_unit (claimed_shown old) ≡ false → runs_unit book.state old.worker ≡ false
  runs_none none = found.agrees.state.runs_unit ∙ (sym (unit_claimed old.seen.state old.worker) ∙ none)

  -- who is idle holds nothing
  module _ (is : place_of old ≡ places.Idle) where
    no_claims : claimed_shown old ≡ []
    no_claims = let r = reads old places.Idle is in no_marks (claimed_shown old) r.1 r.2 r.3

    pub idle_holds : HoldsNothing old
    idle_holds =
        let r = reads old places.Idle is in
        let has = or_parts (lease_shown old) (not (length (locks_shown old) == 0)) r.4 in
        let parked : parked_shown old ≡ [] = sym same_parked ∙ here.parked (same_blocked ∙ r.0) (waits_not (ap (list_any is_action) no_claims)) in
        record { locks = no_locks (locks_shown old) has.1; claimed = no_claims; holding = λ i. record { lease = has.0 i; parked = parked i; blocked = r.0 i } }

    pub idle_free : IsFree old
    idle_free =
        let r = reads old places.Idle is in
        let has = or_parts (lease_shown old) (not (length (locks_shown old) == 0)) r.4 in
        record { lease = has.0; blocked = r.0; units = ap (list_any is_unit) no_claims }

    pub idle_rests : IsIdleOrParked old
    idle_rests = inl (idle_holds.locks, no_claims)

  -- who waits for items has neither a lease nor a unit, and has parked its lock last
  module _ (n : ℕ) (is : place_of old ≡ places.Parked n) where
    waits_for : mark_of book.state (ActionOf n) ≡ Running old.worker
    waits_for = (found.agrees.state.running (ActionOf n)).0 (action_runs old.seen.state old.worker n (action_stands (claimed_shown old) n (reads old (places.Parked n) is).2))

    pub parked_free : IsFree old
    parked_free =
        let r = reads old (places.Parked n) is in
        let none = none_any (claimed_shown old) r.1 in
        record {
          lease = sym same_lease ∙ false_from_ne_true (holding_of book.state old.worker).lease (λ lease. false≢true (sym (runs_none none) ∙ here.lease n waits_for lease));
          blocked = r.0;
          units = none;
        }

    pub parked_waits : IsIdleOrParked old
    parked_waits = inr (some_action (claimed_shown old) n (reads old (places.Parked n) is).2)

    has_parked_last : (r : Retention) (l : LockId) → parked_shown old ≡ parked_under r l → HasParkedLast r l old
    has_parked_last Retain l same = tt
    has_parked_last Release l same = ap (stands_last l) same ∙ eq-eqb l.0 l.0 refl
    has_parked_last ReleaseAndReacquire l same = ap (stands_last l) same ∙ eq-eqb l.0 l.0 refl

    pub parked_by : IsParkedBy old (record { worker = old.worker; action = n })
    parked_by =
        let same : parked_shown old ≡ parked_under (action_of old.seen.graph n).retention (lock_with old.seen.graph n) =
        sym same_parked ∙ ((here.waits n waits_for).1 ∙ ap (λ (g : GraphView). parked_under (action_of g n).retention (lock_with g n)) found.agrees.graph) in
        record {
          worker = refl;
          action = action_stands (claimed_shown old) n (reads old (places.Parked n) is).2;
          lock = has_parked_last (action_of old.seen.graph n).retention (lock_with old.seen.graph n) same;
        }

  -- who is in its task works on it with a lease and the lock, or has released both
  module _ (t : ℕ) (is : place_of old ≡ places.InTask t) where
    pub runs_task_here : mark_of book.state (TaskOf t) ≡ Running old.worker
    runs_task_here = (found.agrees.state.running (TaskOf t)).0 (task_runs old.seen.state old.worker t (task_stands (claimed_shown old) t (reads old (places.InTask t) is).3))

    pub open_here : (holding_of book.state old.worker).blocked ≡ false
    open_here = same_blocked ∙ (reads old (places.InTask t) is).0

    pub alone_here : is_parked book.state old.worker ≡ false
    alone_here = waits_not (no_action (claimed_shown old) (reads old (places.InTask t) is).2)

    pub unitless_here : list_any is_unit (claimed_shown old) ≡ false
    unitless_here = none_any (claimed_shown old) (reads old (places.InTask t) is).1

    pub works_here : lease_shown old ≡ true → WorksOn old t
    works_here lease = record { task = task_stands (claimed_shown old) t (reads old (places.InTask t) is).3; lease = lease; actions = no_action (claimed_shown old) (reads old (places.InTask t) is).2 }

    pub owns_lock : (holding_of book.state old.worker).lease ≡ true → owns book.state old.worker (task_of book.graph t).lock ≡ true
    owns_lock lease = at (here.task t runs_task_here)
      where
        at : HasLock book.state old.worker (task_of book.graph t).lock ⊎ HasReleasedTask book.graph book.state old.worker t → owns book.state old.worker (task_of book.graph t).lock ≡ true
        at (inl (inl own)) = own
        at (inl (inr parked)) = absurd (false≢true (sym (ap (stands_in (task_of book.graph t).lock) (here.parked open_here alone_here)) ∙ parked))
        at (inr released) = absurd (false≢true (sym released.lease ∙ lease))

    owns_where : (r : Retention) (l : LockId) → owns book.state old.worker l ≡ true → OwnsToPark r l old
    owns_where Retain l own = tt
    owns_where Release l own = sym (ap (stands_in l) found.agrees.state.owned) ∙ (stands_in_owned book.state old.worker l ∙ own)
    owns_where ReleaseAndReacquire l own = sym (ap (stands_in l) found.agrees.state.owned) ∙ (stands_in_owned book.state old.worker l ∙ own)

    pub owns_to_park : (a : ℕ) → IsActionOf book.graph t a → (holding_of book.state old.worker).lease ≡ true → OwnsToPark (action_of old.seen.graph a).retention (lock_with old.seen.graph a) old
    owns_to_park a ia lease =
        let apart = apart_of book.graph (subst Fits (sym found.agrees.graph) fits) in
        let same : t ≡ task_with book.graph a = apart.one_task t (task_with book.graph a) a ia (apart.own_task a (apart.action_within t a ia)) in
        let own : owns book.state old.worker (lock_with book.graph a) ≡ true = subst (λ n. owns book.state old.worker (task_of book.graph n).lock ≡ true) same (owns_lock lease) in
        subst (λ (g : GraphView). OwnsToPark (action_of g a).retention (lock_with g a) old) found.agrees.graph (owns_where (action_of book.graph a).retention (lock_with book.graph a) own)

  -- who runs an item has a lease
  module _ (u : ℕ) (open' : blocked_shown old ≡ false) (unit : unit_in (claimed_shown old) ≡ Some u) where
    runs_unit_here : mark_of book.state (UnitOf u) ≡ Running old.worker
    runs_unit_here = (found.agrees.state.running (UnitOf u)).0 (unit_runs old.seen.state old.worker u (unit_stands (claimed_shown old) u unit))

    pub is_item_here : IsItemHere old.seen.graph u
    is_item_here =
        let within : u < book.graph.units = omega (arith, running_within book.state.units u old.worker runs_unit_here, (belongs_sound book found.sound).units) in
        subst (λ (g : GraphView). IsItemHere g u) found.agrees.graph (record { in_range = within; item = (here.item u runs_unit_here (same_blocked ∙ open')).0 })

    pub leased_here : lease_shown old ≡ true
    leased_here = sym same_lease ∙ (here.item u runs_unit_here (same_blocked ∙ open')).1
