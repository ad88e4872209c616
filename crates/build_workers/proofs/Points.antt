-- What a worker has at one point of a run, by what it had at the point before.
use Rattle.std.proofs.Common.{arith, Some, Result, Ok, ◌≡◌, ℕ, ◌<◌, Bool, true, false, List, [], ◌∷◌, ◌++◌, inl, inr, refl, sym, ap, ◌∙◌, subst, Contains}
use Rattle.std.specs.Prelude.{nat_lt}
use Rattle.std.specs.List.{list_any}
use Rattle.std.proofs.lemmas.Bool.{eq-eqb, false≢true, le-ltb}
use Rattle.lock_journal.specs.Names.{without_last, GraphView, action_of, task_of, Fits, IsActionOf, IsFetchOf, lock_with, task_with, Holding}
use Rattle.lock_journal.specs.Names.{holding_of, stands_in, GraphAction, Retention, Retain, Release, ReleaseAndReacquire, LockId, TaskOf, ActionOf}
use Rattle.lock_journal.specs.Names.{UnitOf, lock_before, mark_before, with_member, without_member, is_action, is_unit}
use Rattle.lock_journal.proofs.lemmas.Fitting.{apart_of}
use Rattle.coordination.specs.Names.{HoldsNothing, ShowsTheSame, blocked_shown, claimed_shown, lease_shown, locks_shown, parked_shown}
use Rattle.coordination.specs.declared.rule.Sight.{Sight}
use Rattle.async_tracker.specs.Shows.{IsIdleOrParked, OwnsToPark, ShowsParked, ShowsResumed, WorksOn}
use Rattle.async_tracker.specs.Tasks.{MayEnd, ShowsEnded, ShowsStarted, locks_on_end}
use Rattle.blocking_section.specs.Sections.{HasSetDown, HasTakenUp}
use Rattle.build_workers.specs.Points.{CanHelp, IsFetchIn, IsInTask, RunsTask}

not_below : (n : ℕ) → nat_lt n n ≡ false
not_below n = le-ltb n n (omega arith)

-- a list without its one member
alone_lock : (l : LockId) → without_member lock_before l (l ∷ []) ≡ []
alone_lock l = rw (not_below l.0) refl

alone_task : (t : ℕ) → without_member mark_before (TaskOf t) (TaskOf t ∷ []) ≡ []
alone_task t = rw (not_below t) refl

without_action : (t a : ℕ) → without_member mark_before (ActionOf a) (TaskOf t ∷ ActionOf a ∷ []) ≡ TaskOf t ∷ []
without_action t a = rw (not_below a) refl

without_unit_last : (t u : ℕ) → without_member mark_before (UnitOf u) (TaskOf t ∷ UnitOf u ∷ []) ≡ TaskOf t ∷ []
without_unit_last t u = rw (not_below u) refl

alone_stands : (l : LockId) → stands_in l (l ∷ []) ≡ true
alone_stands l = rw (eq-eqb l.0 l.0 refl) refl

-- a holding by its parts
by_parts : (h : Holding) (leased : Bool) (put_by : List LockId) (b : Bool) → h.lease ≡ leased → h.parked ≡ put_by → h.blocked ≡ b → h ≡ record { lease = leased; parked = put_by; blocked = b }
by_parts h leased put_by b e f k = λ i. record { lease = e i; parked = f i; blocked = k i }

-- where the pass shows what it showed

pub same_rests : {a c : Sight} → ShowsTheSame a c → HoldsNothing a → HoldsNothing c
same_rests {a} {c} same rests = record {
  locks = same.locks ∙ rests.locks;
  claimed = same.claimed ∙ rests.claimed;
  holding = by_parts (holding_of c.seen.state c.worker) false [] false
      (same.lease ∙ ap (λ (h : Holding). h.lease) rests.holding)
      (same.parked ∙ ap (λ (h : Holding). h.parked) rests.holding)
      (same.blocked ∙ ap (λ (h : Holding). h.blocked) rests.holding);
}

pub same_helps : {a c : Sight} → ShowsTheSame a c → CanHelp a → CanHelp c
same_helps {a} {c} same helps = record {
  free = record {
    lease = same.lease ∙ helps.free.lease;
    blocked = same.blocked ∙ helps.free.blocked;
    units = subst (λ ms. list_any is_unit ms ≡ false) (sym same.claimed) helps.free.units;
  };
  waits = at helps.waits;
}
  where
    at : IsIdleOrParked a → IsIdleOrParked c
    at (inl (locks, claimed)) = inl (same.locks ∙ locks, same.claimed ∙ claimed)
    at (inr parked) = inr (subst (λ ms. list_any is_action ms ≡ true) (sym same.claimed) parked)

-- a task starts
pub started : {t : ℕ} {old new : Sight} → ShowsStarted t old new → HoldsNothing old → RunsTask t new
started {t} shows rests = record {
  locks = shows.locks ∙ ap (λ (g : GraphView). (task_of g t).lock ∷ []) (sym shows.graph);
  lease = shows.lease;
  claimed = shows.claimed;
  parked = shows.parked;
  blocked = shows.blocked ∙ ap (λ (h : Holding). h.blocked) rests.holding;
}

-- a running task's worker works on it
pub runs_works : {t : ℕ} {s : Sight} → RunsTask t s → WorksOn s t
runs_works {t} {s} runs = record {
  task = subst (λ ms. Contains ms (TaskOf t)) (sym runs.claimed) (0, omega arith, refl);
  lease = runs.lease;
  actions = ap (list_any is_action) runs.claimed;
}

-- the worker of the task may end it, and then has nothing
pub may_end : {t : ℕ} {s : Sight} → IsInTask t s → MayEnd s t
may_end {t} {s} in_task = at in_task
  where
    from_marks : claimed_shown s ≡ TaskOf t ∷ [] → blocked_shown s ≡ false → MayEnd s t
    from_marks claimed blocked = record {
      task = subst (λ ms. Contains ms (TaskOf t)) (sym claimed) (0, omega arith, refl);
      actions = ap (list_any is_action) claimed;
      units = ap (list_any is_unit) claimed;
      blocked = blocked;
    }

    at : IsInTask t s → MayEnd s t
    at (inl runs) = from_marks runs.claimed runs.blocked
    at (inr released) = from_marks released.claimed released.blocked

pub ended : {t : ℕ} {old new : Sight} → ShowsEnded t old new → IsInTask t old → HoldsNothing new
ended {t} {old} {new} shows in_task = at in_task
  where
    l : LockId
    l = (task_of old.seen.graph t).lock

    nothing : locks_on_end (lease_shown old) l (locks_shown old) ≡ [] → claimed_shown old ≡ TaskOf t ∷ [] → parked_shown old ≡ [] → blocked_shown old ≡ false → HoldsNothing new
    nothing locks claimed parked blocked = record {
      locks = shows.locks ∙ locks;
      claimed = shows.claimed ∙ (ap (without_member mark_before (TaskOf t)) claimed ∙ alone_task t);
      holding = by_parts (holding_of new.seen.state new.worker) false [] false shows.lease (shows.parked ∙ parked) (shows.blocked ∙ blocked);
    }

    at : IsInTask t old → HoldsNothing new
    at (inl runs) = nothing ((λ i. locks_on_end (runs.lease i) l (runs.locks i)) ∙ alone_lock l) runs.claimed runs.parked runs.blocked
    at (inr released) = nothing (λ i. locks_on_end (released.lease i) l (released.locks i)) released.claimed released.parked released.blocked

-- a worker that ran the task, parked and resumed
pub resumed : {t : ℕ} {old mid new : Sight} (a : ℕ) (r : Retention) (l : LockId) → l ≡ (task_of old.seen.graph t).lock → RunsTask t old → ShowsParked r l a old mid → ShowsResumed r l a mid new → IsInTask t new
resumed {t} {old} {mid} {new} a r l is runs parked went_on = at r parked went_on
  where
    graph : new.seen.graph ≡ old.seen.graph
    graph = went_on.graph ∙ parked.graph

    own : l ∷ [] ≡ (task_of new.seen.graph t).lock ∷ []
    own = ap (λ k. k ∷ []) is ∙ ap (λ (g : GraphView). (task_of g t).lock ∷ []) (sym graph)

    locks : locks_shown old ≡ l ∷ []
    locks = runs.locks ∙ ap (λ k. k ∷ []) (sym is)

    marks : claimed_shown mid ≡ TaskOf t ∷ ActionOf a ∷ [] → without_member mark_before (ActionOf a) (claimed_shown mid) ≡ TaskOf t ∷ []
    marks e = ap (without_member mark_before (ActionOf a)) e ∙ without_action t a

    with_action : with_member mark_before (ActionOf a) (claimed_shown old) ≡ TaskOf t ∷ ActionOf a ∷ []
    with_action = ap (with_member mark_before (ActionOf a)) runs.claimed

    at : (r : Retention) → ShowsParked r l a old mid → ShowsResumed r l a mid new → IsInTask t new
    at Retain p n = inl record {
      locks = n.locks ∙ (p.locks ∙ (locks ∙ own));
      lease = n.lease;
      claimed = n.claimed ∙ marks (p.claimed ∙ with_action);
      parked = n.parked ∙ (p.parked ∙ runs.parked);
      blocked = n.blocked ∙ (p.blocked ∙ runs.blocked);
    }
    at ReleaseAndReacquire p n = inl record {
      locks = n.locks ∙ (ap (with_member lock_before l) (p.locks ∙ (ap (without_member lock_before l) locks ∙ alone_lock l)) ∙ own);
      lease = n.lease;
      claimed = n.claimed ∙ marks (p.claimed ∙ with_action);
      parked = n.parked ∙ ap without_last (p.parked ∙ ap (λ ls. ls ++ l ∷ []) runs.parked);
      blocked = n.blocked ∙ (p.blocked ∙ runs.blocked);
    }
    at Release p n = inr record {
      locks = n.locks ∙ (p.locks ∙ (ap (without_member lock_before l) locks ∙ alone_lock l));
      lease = n.lease;
      claimed = n.claimed ∙ marks (p.claimed ∙ with_action);
      parked = n.parked ∙ ap without_last (p.parked ∙ ap (λ ls. ls ++ l ∷ []) runs.parked);
      blocked = n.blocked ∙ (p.blocked ∙ runs.blocked);
    }

-- the fetch is over, and the worker has its lock and the lease again
pub took_up : {t : ℕ} {old mid new : Sight} (u : ℕ) → RunsTask t old → HasSetDown (Some u) old mid → HasTakenUp (Some u) mid new → new.seen.graph ≡ old.seen.graph → locks_shown new ≡ locks_shown old → RunsTask t new
took_up {t} u runs down up graph locks = record {
  locks = locks ∙ (runs.locks ∙ ap (λ (g : GraphView). (task_of g t).lock ∷ []) (sym graph));
  lease = up.lease;
  claimed = up.claimed ∙ (ap (without_member mark_before (UnitOf u)) (down.claimed ∙ ap (with_member mark_before (UnitOf u)) runs.claimed) ∙ without_unit_last t u);
  parked = up.parked;
  blocked = up.blocked;
}

-- an action of the task is under no other
pub own_task : {g : GraphView} {t a : ℕ} → Fits g → IsActionOf g t a → task_with g a ≡ t
own_task {g} {t} {a} fits own = let apart = apart_of g fits in apart.one_task (task_with g a) t a (apart.own_task a (apart.action_within t a own)) own

-- so the worker that runs the task works on what the action is of
pub works_for : {t a : ℕ} {s : Sight} → Fits s.seen.graph → IsActionOf s.seen.graph t a → RunsTask t s → WorksOn s (task_with s.seen.graph a)
works_for {t} {a} {s} fits own runs = subst (WorksOn s) (sym (own_task fits own)) (runs_works runs)

owns_lock : {t a : ℕ} {s : Sight} → Fits s.seen.graph → IsActionOf s.seen.graph t a → RunsTask t s → stands_in (lock_with s.seen.graph a) (locks_shown s) ≡ true
owns_lock {t} {a} {s} fits own runs =
    ap (stands_in (lock_with s.seen.graph a)) (runs.locks ∙ ap (λ n. (task_of s.seen.graph n).lock ∷ []) (sym (own_task fits own)))
    ∙ alone_stands (lock_with s.seen.graph a)

-- and owns its lock
pub owns_for : {t a : ℕ} {s : Sight} (r : Retention) → Fits s.seen.graph → IsActionOf s.seen.graph t a → RunsTask t s → OwnsToPark r (lock_with s.seen.graph a) s
owns_for Retain fits own runs = tt
owns_for {t} {a} {s} Release fits own runs = owns_lock fits own runs
owns_for {t} {a} {s} ReleaseAndReacquire fits own runs = owns_lock fits own runs

-- who has a lease hasn't released the task
pub with_lease : {t : ℕ} {s : Sight} → IsInTask t s → lease_shown s ≡ true → RunsTask t s
with_lease (inl runs) lease = runs
with_lease (inr released) lease = absurd (false≢true (sym released.lease ∙ lease))

-- a fetch of an action of the task
pub fetch_in : {g : GraphView} {t a : ℕ} (found : GraphAction) → Fits g → IsActionOf g t a → found ≡ action_of g a → found.fetch ≡ true → IsFetchIn g t found.first_unit × (found.first_unit < g.units)
fetch_in {g} {t} {a} found fits own is fetch =
    let is_fetch : IsFetchOf g a found.first_unit = (ap (λ (x : GraphAction). x.fetch) (sym is) ∙ fetch, ap (λ (x : GraphAction). x.first_unit) is) in
    let apart = apart_of g fits in
    (record { action = a; fetch = is_fetch; task = own_task fits own }, (apart.unit_within a found.first_unit (inl is_fetch)).1)

pub ok_is : {E : Type 0} {b d : Bool} → ◌≡◌ {A = Result Bool E} (Ok b) (Ok d) → b ≡ d
ok_is is = cc
