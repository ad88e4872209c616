-- What holds of units, tasks and locks that changes don't touch, and the index as it follows changes.
use Rattle.std.proofs.Common.{◌≡◌, ℕ, zero, suc, ◌+◌, ◌<◌, ◌≤◌, not, List, [], ◌∷◌, length, get_or, set, drop, None, Some, refl, sym, ap, ◌∙◌, subst, arith, ◌⊎◌, inl, inr}
use Rattle.std.specs.Prelude.{◌↔◌}
use Rattle.std.specs.List.{AllByRecursion}
use Rattle.std.proofs.lemmas.Bool.{cases_eq}
use Rattle.std.proofs.lemmas.List.{drop_all, drop_more, get_or-set_other}
use Rattle.std.proofs.lemmas.Option.{IfSome_then}
use Rattle.resource_lock.specs.Change.{NamesOnly, make, make_all}
use Rattle.resource_lock.specs.GraphView.{GraphView}
use Rattle.resource_lock.specs.Marks.{has_ended, has_fallen, has_passed}
use Rattle.resource_lock.specs.Shape.{BelongsTo}
use Rattle.resource_lock.specs.StateView.{StateView, mark_of, owner_of}
use Rattle.resource_lock.specs.declared.changes.Change.{Change}
use Rattle.resource_lock.specs.declared.changes.Change.TheVariants.{Lock, Unlock, Take, Give, Move, Park, Unpark, Enter, Leave}
use Rattle.resource_lock.specs.declared.ids.LockId.{LockId}
use Rattle.resource_lock.specs.declared.ids.WorkerId.{WorkerId}
use Rattle.resource_lock.specs.declared.marks.Mark.{Mark}
use Rattle.resource_lock.specs.declared.marks.Mark.TheVariants.{Waiting}
use Rattle.resource_lock.specs.declared.marks.MarkId.TheVariants.{Task as TaskOf, Action as ActionOf, Unit as UnitOf}
use Rattle.resource_lock.proofs.lemmas.Runs.{all_named_along, same_shape-make_all}
use Rattle.ready_work.specs.Rank.{Dependencies, after}
use Rattle.ready_work.specs.Choices.{CanSkip, IsFree, IsQueued, IsStartable, IsOpenUnit, IsUnended}
use Rattle.ready_work.specs.Dependents.{AreDependents}
use Rattle.ready_work.specs.ReadyWork.{Follows, IsIndexBut, IsIndexOf, Lead, Notes, TouchLock, TouchTask, TouchUnit, TouchesLock, TouchesTask, TouchesUnit}
use Rattle.ready_work.specs.Sets.{Looks, LooksWhereKept, NoNumber}
use Rattle.ready_work.specs.TaskSets.{CanSkipByCount, IsCountedAt, IsStartableByCount, IsUnendedIn, LooksAt, MovesTasks, NotesTask}
use Rattle.ready_work.specs.declared.ready_works.ReadyWork.{ReadyWork}
use Rattle.ready_work.specs.declared.dependency_counts.DependencyCounts.{DependencyCounts}
use Rattle.ready_work.specs.declared.task_sets.TaskSets.{TaskSets}
use Rattle.ready_work.proofs.ByCount.{skip_by_count, startable_by_count, task_sets_by_count, unended_in}
use Rattle.ready_work.proofs.Counting.{counts_put}
use Rattle.ready_work.proofs.Looking.{kept_looked, kept_looks_nowhere, kept_room, looks_fewer, looks_nowhere, set_looked, set_moved, set_moves}
use Rattle.ready_work.proofs.TaskLooks.{looks_at_fewer, looks_at_nowhere, looks_move}

-- ---- units

unit_same : (s : StateView) (w : WorkerId) (c : Change) (u : ℕ) → TouchesUnit c u ⊎ (mark_of (make s w c) (UnitOf u) ≡ mark_of s (UnitOf u))
unit_same s w (Move (UnitOf v) from to) u = at (cases_eq u v)
  where
    at : (u ≡ v) ⊎ (u ≡ v → ⊥) → (u ≡ v) ⊎ (get_or (set s.units v to) u Waiting ≡ get_or s.units u Waiting)
    at (inl e) = inl e
    at (inr ne) = inr (get_or-set_other s.units v u to Waiting ne)
unit_same s w (Move (TaskOf t) from to) u = inr refl
unit_same s w (Move (ActionOf a) from to) u = inr refl
unit_same s w (Lock l) u = inr refl
unit_same s w (Unlock l) u = inr refl
unit_same s w Take u = inr refl
unit_same s w Give u = inr refl
unit_same s w (Park l) u = inr refl
unit_same s w (Unpark l) u = inr refl
unit_same s w Enter u = inr refl
unit_same s w Leave u = inr refl

units_same : (s : StateView) (w : WorkerId) (cs : List Change) (u : ℕ) → TouchUnit cs u ⊎ (mark_of (make_all s w cs) (UnitOf u) ≡ mark_of s (UnitOf u))
units_same s w [] u = inr refl
units_same s w (c ∷ cs) u = at (unit_same s w c u) (units_same (make s w c) w cs u)
  where
    at : TouchesUnit c u ⊎ (mark_of (make s w c) (UnitOf u) ≡ mark_of s (UnitOf u)) → TouchUnit cs u ⊎ (mark_of (make_all (make s w c) w cs) (UnitOf u) ≡ mark_of (make s w c) (UnitOf u)) → TouchUnit (c ∷ cs) u ⊎ (mark_of (make_all (make s w c) w cs) (UnitOf u) ≡ mark_of s (UnitOf u))
    at (inl touched) _ = inl (inl touched)
    at (inr same) (inl touched) = inl (inr touched)
    at (inr same) (inr rest) = inr (rest ∙ same)

-- ---- tasks

task_same : (s : StateView) (w : WorkerId) (c : Change) (t : ℕ) → TouchesTask c t ⊎ (mark_of (make s w c) (TaskOf t) ≡ mark_of s (TaskOf t))
task_same s w (Move (TaskOf j) from to) t = at (cases_eq t j)
  where
    at : (t ≡ j) ⊎ (t ≡ j → ⊥) → (t ≡ j) ⊎ (get_or (set s.tasks j to) t Waiting ≡ get_or s.tasks t Waiting)
    at (inl e) = inl e
    at (inr ne) = inr (get_or-set_other s.tasks j t to Waiting ne)
task_same s w (Move (UnitOf u) from to) t = inr refl
task_same s w (Move (ActionOf a) from to) t = inr refl
task_same s w (Lock l) t = inr refl
task_same s w (Unlock l) t = inr refl
task_same s w Take t = inr refl
task_same s w Give t = inr refl
task_same s w (Park l) t = inr refl
task_same s w (Unpark l) t = inr refl
task_same s w Enter t = inr refl
task_same s w Leave t = inr refl

tasks_same : (s : StateView) (w : WorkerId) (cs : List Change) (t : ℕ) → TouchTask cs t ⊎ (mark_of (make_all s w cs) (TaskOf t) ≡ mark_of s (TaskOf t))
tasks_same s w [] t = inr refl
tasks_same s w (c ∷ cs) t = at (task_same s w c t) (tasks_same (make s w c) w cs t)
  where
    at : TouchesTask c t ⊎ (mark_of (make s w c) (TaskOf t) ≡ mark_of s (TaskOf t)) → TouchTask cs t ⊎ (mark_of (make_all (make s w c) w cs) (TaskOf t) ≡ mark_of (make s w c) (TaskOf t)) → TouchTask (c ∷ cs) t ⊎ (mark_of (make_all (make s w c) w cs) (TaskOf t) ≡ mark_of s (TaskOf t))
    at (inl touched) _ = inl (inl touched)
    at (inr same) (inl touched) = inl (inr touched)
    at (inr same) (inr rest) = inr (rest ∙ same)

-- ---- locks

lock_same : (s : StateView) (w : WorkerId) (c : Change) (k : ℕ) → TouchesLock c k ⊎ (owner_of (make s w c) (record { 0 = k }) ≡ owner_of s (record { 0 = k }))
lock_same s w (Lock l) k = at (cases_eq k l.0)
  where
    at : (k ≡ l.0) ⊎ (k ≡ l.0 → ⊥) → (k ≡ l.0) ⊎ (get_or (set s.owners l.0 (Some w)) k None ≡ get_or s.owners k None)
    at (inl e) = inl e
    at (inr ne) = inr (get_or-set_other s.owners l.0 k (Some w) None ne)
lock_same s w (Unlock l) k = at (cases_eq k l.0)
  where
    at : (k ≡ l.0) ⊎ (k ≡ l.0 → ⊥) → (k ≡ l.0) ⊎ (get_or (set s.owners l.0 None) k None ≡ get_or s.owners k None)
    at (inl e) = inl e
    at (inr ne) = inr (get_or-set_other s.owners l.0 k None None ne)
lock_same s w (Move (UnitOf u) from to) k = inr refl
lock_same s w (Move (TaskOf t) from to) k = inr refl
lock_same s w (Move (ActionOf a) from to) k = inr refl
lock_same s w Take k = inr refl
lock_same s w Give k = inr refl
lock_same s w (Park l) k = inr refl
lock_same s w (Unpark l) k = inr refl
lock_same s w Enter k = inr refl
lock_same s w Leave k = inr refl

locks_same : (s : StateView) (w : WorkerId) (cs : List Change) (k : ℕ) → TouchLock cs k ⊎ (owner_of (make_all s w cs) (record { 0 = k }) ≡ owner_of s (record { 0 = k }))
locks_same s w [] k = inr refl
locks_same s w (c ∷ cs) k = at (lock_same s w c k) (locks_same (make s w c) w cs k)
  where
    at : TouchesLock c k ⊎ (owner_of (make s w c) (record { 0 = k }) ≡ owner_of s (record { 0 = k })) → TouchLock cs k ⊎ (owner_of (make_all (make s w c) w cs) (record { 0 = k }) ≡ owner_of (make s w c) (record { 0 = k })) → TouchLock (c ∷ cs) k ⊎ (owner_of (make_all (make s w c) w cs) (record { 0 = k }) ≡ owner_of s (record { 0 = k }))
    at (inl touched) _ = inl (inl touched)
    at (inr same) (inl touched) = inl (inr touched)
    at (inr same) (inr rest) = inr (rest ∙ same)

-- ---- what holds of the same units, tasks and locks in both states

same_open : (g : GraphView) (r s : StateView) (u : ℕ) → mark_of s (UnitOf u) ≡ mark_of r (UnitOf u) → IsOpenUnit g r u ↔ IsOpenUnit g s u
same_open g r s u same = (λ o. record { within = o.within; unended = ap has_ended same ∙ o.unended }, λ o. record { within = o.within; unended = ap has_ended (sym same) ∙ o.unended })

same_queued : (g : GraphView) (r s : StateView) (u : ℕ) → mark_of s (UnitOf u) ≡ mark_of r (UnitOf u) → IsQueued g r u ↔ IsQueued g s u
same_queued g r s u same = (λ q. record { within = q.within; queued = same ∙ q.queued }, λ q. record { within = q.within; queued = sym same ∙ q.queued })

-- a task by its counts, which are the same in both states
same_skip : (r s : StateView) (fallen : DependencyCounts) (t : ℕ) → length s.tasks ≡ length r.tasks → mark_of s (TaskOf t) ≡ mark_of r (TaskOf t) → CanSkipByCount r fallen t → CanSkipByCount s fallen t
same_skip r s fallen t size same p = let lt = p.within in record { within = omega (arith, lt, size); waits = same ∙ p.waits; some = p.some }

same_startable : (r s : StateView) (unpassed : DependencyCounts) (t : ℕ) → length s.tasks ≡ length r.tasks → mark_of s (TaskOf t) ≡ mark_of r (TaskOf t) → IsStartableByCount r unpassed t → IsStartableByCount s unpassed t
same_startable r s unpassed t size same p = let lt = p.within in record { within = omega (arith, lt, size); waits = same ∙ p.waits; none = p.none }

same_unended : (r s : StateView) (t : ℕ) → length s.tasks ≡ length r.tasks → mark_of s (TaskOf t) ≡ mark_of r (TaskOf t) → IsUnendedIn r t → IsUnendedIn s t
same_unended r s t size same p = let lt = p.within in record { within = omega (arith, lt, size); unended = ap has_ended same ∙ p.unended }

both : {A B C : Type 0} → A ↔ B → (B → C) → (C → B) → A ↔ C
both eq to from = (λ a. to (eq.0 a), λ c. eq.1 (from c))

same_free : (g : GraphView) (r s : StateView) (k : ℕ) → owner_of s (record { 0 = k }) ≡ owner_of r (record { 0 = k }) → IsFree g r k ↔ IsFree g s k
same_free g r s k same = (λ f. record { within = f.within; free = same ∙ f.free }, λ f. record { within = f.within; free = sym same ∙ f.free })

or_same : {A B C : Type 0} → (B → C) → A ⊎ B → A ⊎ C
or_same f (inl a) = inl a
or_same f (inr b) = inr (f b)

-- ---- the index follows

-- what the changes don't touch is the same in both states
record Spare (changes : List Change) (r s : StateView) : Type 0 where
  size : length s.tasks ≡ length r.tasks
  units : (u : ℕ) → TouchUnit changes u ⊎ (mark_of s (UnitOf u) ≡ mark_of r (UnitOf u))
  tasks : (t : ℕ) → TouchTask changes t ⊎ (mark_of s (TaskOf t) ≡ mark_of r (TaskOf t))
  locks : (l : ℕ) → TouchLock changes l ⊎ (owner_of s (record { 0 = l }) ≡ owner_of r (record { 0 = l }))

spared : (r s : StateView) (w : WorkerId) (changes : List Change) → Lead r s w changes → Spare changes r s
spared r s w changes led = subst (Spare changes r) (sym led.state) (record {
  size = let shape = same_shape-make_all r w changes in sym shape.tasks;
  units = units_same r w changes;
  tasks = tasks_same r w changes;
  locks = locks_same r w changes;
})

spared_back : (changes : List Change) (r s : StateView) → Spare changes r s → Spare changes s r
spared_back changes r s spare = record {
  size = sym spare.size;
  units = λ u. or_same sym (spare.units u);
  tasks = λ t. or_same sym (spare.tasks t);
  locks = λ l. or_same sym (spare.locks l);
}

spared_where_led : (r s : StateView) (w : WorkerId) (changes : List Change) → Lead r s w changes ⊎ Lead s r w changes → Spare changes r s
spared_where_led r s w changes (inl led) = spared r s w changes led
spared_where_led r s w changes (inr back) = spared_back changes s r (spared s r w changes back)

-- the index of the state before is right in this state, but for what the changes touch
pub index_open : (g : GraphView) (before : StateView) (w : WorkerId) (changes : List Change) (s : StateView) (ready : ReadyWork) → Follows g before w changes s ready → IsIndexBut g s (TouchUnit changes) (TouchTask changes) (TouchLock changes) ready
index_open g before w changes s ready f = record {
  made = f.index.made;
  open_units = set_moved (IsOpenUnit g before) (IsOpenUnit g s) (TouchUnit changes) ready.open_units (λ u. or_same (same_open g before s u) (spare.units u)) f.index.open_units;
  queued = IfSome_then ready.queued f.index.queued (λ set. set_moved (IsQueued g before) (IsQueued g s) (TouchUnit changes) set (λ u. or_same (same_queued g before s u) (spare.units u)));
  tasks = record {
    skippable = set_moved (CanSkip g before) (CanSkipByCount s ready.tasks.fallen) (TouchTask changes) ready.tasks.skippable (λ t. or_same (skip t) (spare.tasks t)) f.index.tasks.skippable;
    startable = set_moved (IsStartable g before) (IsStartableByCount s ready.tasks.unpassed) (TouchTask changes) ready.tasks.startable.tasks (λ t. or_same (startable t) (spare.tasks t)) f.index.tasks.startable;
    unended = set_moved (IsUnended g before) (IsUnendedIn s) (TouchTask changes) ready.tasks.unended (λ t. or_same (unended t) (spare.tasks t)) f.index.tasks.unended;
  };
  counted = record { each = λ t lt. counted t (f.index.counted.each t (omega (arith, lt, spare.size))) (spare.tasks t) };
  free = set_moved (IsFree g before) (IsFree g s) (TouchLock changes) ready.tasks.startable.free (λ l. or_same (same_free g before s l) (spare.locks l)) f.index.free;
}
  where
    spare : Spare changes before s
    spare = spared_where_led before s w changes f.led

    size : length before.tasks ≡ length g.tasks
    size = sym spare.size ∙ f.belongs.tasks

    skip : (t : ℕ) → mark_of s (TaskOf t) ≡ mark_of before (TaskOf t) → CanSkip g before t ↔ CanSkipByCount s ready.tasks.fallen t
    skip t same = both (skip_by_count g before ready.tasks f.index.made.fits size f.index.made.dependency_counts f.index.counted t) (same_skip before s ready.tasks.fallen t spare.size same) (same_skip s before ready.tasks.fallen t (sym spare.size) (sym same))

    startable : (t : ℕ) → mark_of s (TaskOf t) ≡ mark_of before (TaskOf t) → IsStartable g before t ↔ IsStartableByCount s ready.tasks.unpassed t
    startable t same = both (startable_by_count g before ready.tasks f.index.made.fits size f.index.made.dependency_counts f.index.counted t) (same_startable before s ready.tasks.unpassed t spare.size same) (same_startable s before ready.tasks.unpassed t (sym spare.size) (sym same))

    unended : (t : ℕ) → mark_of s (TaskOf t) ≡ mark_of before (TaskOf t) → IsUnended g before t ↔ IsUnendedIn s t
    unended t same = both (unended_in g before ready.tasks f.index.made.fits size f.index.made.dependency_counts f.index.counted t) (same_unended before s t spare.size same) (same_unended s before t (sym spare.size) (sym same))

    counted : (t : ℕ) → NoNumber t ⊎ IsCountedAt before ready.tasks t → TouchTask changes t ⊎ (mark_of s (TaskOf t) ≡ mark_of before (TaskOf t)) → TouchTask changes t ⊎ IsCountedAt s ready.tasks t
    counted t (inl none) _ = absurd none
    counted t (inr is) (inl touched) = inl touched
    counted t (inr is) (inr same) = inr (record { unpassed = is.unpassed ∙ ap (λ m. not (has_passed m)) (sym same); fallen = is.fallen ∙ ap has_fallen (sym same) })

-- nothing is left open
pub index_closed : (g : GraphView) (s : StateView) (ready : ReadyWork) → BelongsTo g s → IsIndexBut g s NoNumber NoNumber NoNumber ready → IsIndexOf g s ready
index_closed g s ready belongs is = record {
  made = is.made;
  open_units = is.open_units;
  queued = is.queued;
  tasks = task_sets_by_count g s ready.tasks is.made.fits belongs.tasks is.made.dependency_counts is.counted is.tasks;
  counted = is.counted;
  free = is.free;
}

pub index_at_end : (g : GraphView) (s : StateView) (changes : List Change) (i : ℕ) (ready : ReadyWork) → length changes ≤ i → BelongsTo g s → IsIndexBut g s (TouchUnit (drop i changes)) (TouchTask (drop i changes)) (TouchLock (drop i changes)) ready → IsIndexOf g s ready
index_at_end g s changes i ready all belongs is = index_closed g s ready belongs (subst (λ (cs : List Change). IsIndexBut g s (TouchUnit cs) (TouchTask cs) (TouchLock cs) ready) (drop_all i changes all) is)

-- a lock was looked at, and nothing else
looked_at_lock : (g : GraphView) (s : StateView) (c : Change) (lock : LockId) (old new : ReadyWork) → ((k : ℕ) → TouchesUnit c k → ⊥) → ((k : ℕ) → TouchesTask c k → ⊥) → ((k : ℕ) → TouchesLock c k → k ≡ lock.0) → new ≡ record old { tasks = new.tasks } → Looks (IsFree g s) (λ l. l ≡ lock.0) old.tasks.startable.free new.tasks.startable.free → LooksAt s NoNumber old.tasks new.tasks → Notes g s c old new
looked_at_lock g s c lock old new no_unit no_task own same free tasks = record {
  dependents = ap (λ (r : ReadyWork). r.dependents) same;
  open_units = subst (Looks (IsOpenUnit g s) (TouchesUnit c) old.open_units) (sym (ap (λ (r : ReadyWork). r.open_units) same)) (looks_nowhere (IsOpenUnit g s) (TouchesUnit c) old.open_units no_unit);
  queued = subst (LooksWhereKept (IsQueued g s) (TouchesUnit c) old.queued) (sym (ap (λ (r : ReadyWork). r.queued) same)) (kept_looks_nowhere (IsQueued g s) (TouchesUnit c) old.queued no_unit);
  tasks = looks_move g s (TouchesTask c) old.tasks new.tasks no_task (looks_at_fewer s NoNumber (TouchesTask c) old.tasks new.tasks no_task tasks);
  free = looks_fewer (IsFree g s) (λ l. l ≡ lock.0) (TouchesLock c) old.tasks.startable.free new.tasks.startable.free own free;
}

pub noted_lock : (g : GraphView) (s : StateView) (c : Change) (lock : LockId) (old new : ReadyWork) → (c ≡ Lock lock) ⊎ (c ≡ Unlock lock) → new ≡ record old { tasks = new.tasks } → Looks (IsFree g s) (λ l. l ≡ lock.0) old.tasks.startable.free new.tasks.startable.free → LooksAt s NoNumber old.tasks new.tasks → Notes g s c old new
noted_lock g s c lock old new (inl is) same free tasks = subst (λ (d : Change). Notes g s d old new) (sym is) (looked_at_lock g s (Lock lock) lock old new (λ k t. t) (λ k t. t) (λ k own. own) same free tasks)
noted_lock g s c lock old new (inr is) same free tasks = subst (λ (d : Change). Notes g s d old new) (sym is) (looked_at_lock g s (Unlock lock) lock old new (λ k t. t) (λ k t. t) (λ k own. own) same free tasks)

pub all_at : (s : StateView) (cs : List Change) (i : ℕ) (d : Change) → AllByRecursion (NamesOnly s) cs → i < length cs → NamesOnly s (get_or cs i d)
all_at s [] i d all lt = absurd (omega arith)
all_at s (c ∷ cs) zero d all lt = all.0
all_at s (c ∷ cs) (suc i) d all lt = all_at s cs i d all.1 (omega arith)

named_where_led : (r s : StateView) (w : WorkerId) (changes : List Change) → Lead r s w changes ⊎ Lead s r w changes → AllByRecursion (NamesOnly s) changes
named_where_led r s w changes (inl led) = subst (λ (v : StateView). AllByRecursion (NamesOnly v) changes) (sym led.state) (all_named_along r (make_all r w changes) changes (same_shape-make_all r w changes) led.named)
named_where_led r s w changes (inr back) = back.named

pub named_after : (g : GraphView) (before : StateView) (w : WorkerId) (changes : List Change) (s : StateView) (ready : ReadyWork) (i : ℕ) (d : Change) → Follows g before w changes s ready → i < length changes → NamesOnly s (get_or changes i d)
named_after g before w changes s ready i d f lt = all_at s changes i d (named_where_led before s w changes f.led) lt

-- what one change touches was looked at
pub next_looked : (g : GraphView) (s : StateView) (c : Change) (cs : List Change) (old new : ReadyWork) → Notes g s c old new → IsIndexBut g s (TouchUnit (c ∷ cs)) (TouchTask (c ∷ cs)) (TouchLock (c ∷ cs)) old → IsIndexBut g s (TouchUnit cs) (TouchTask cs) (TouchLock cs) new
next_looked g s c cs old new notes is = record {
  made = record {
    fits = is.made.fits;
    dependents = subst (λ all. AreDependents g all) (sym notes.dependents) is.made.dependents;
    units = let a = is.made.units in let b = notes.open_units.room in omega arith;
    queued_units = kept_room (IsQueued g s) (TouchesUnit c) g.units old.queued new.queued notes.queued is.made.queued_units;
    tasks = notes.tasks.room (length g.tasks) is.made.tasks;
    dependency_counts = notes.tasks.dependency_counts is.made.dependency_counts;
    locks = let a = is.made.locks in let b = notes.free.room in omega arith;
    task_locks = notes.tasks.locks ∙ is.made.task_locks;
  };
  open_units = set_looked (IsOpenUnit g s) (TouchUnit (c ∷ cs)) (TouchesUnit c) (TouchUnit cs) old.open_units new.open_units (λ u touched. touched) notes.open_units is.open_units;
  queued = kept_looked (IsQueued g s) (TouchUnit (c ∷ cs)) (TouchesUnit c) (TouchUnit cs) old.queued new.queued (λ u touched. touched) notes.queued is.queued;
  tasks = record {
    skippable = set_moves (CanSkipByCount s old.tasks.fallen) (CanSkipByCount s new.tasks.fallen) (TouchTask (c ∷ cs)) (TouchesTask c) (TouchTask cs) old.tasks.skippable new.tasks.skippable (λ t touched. touched) notes.tasks.skippable is.tasks.skippable;
    startable = set_moves (IsStartableByCount s old.tasks.unpassed) (IsStartableByCount s new.tasks.unpassed) (TouchTask (c ∷ cs)) (TouchesTask c) (TouchTask cs) old.tasks.startable.tasks new.tasks.startable.tasks (λ t touched. touched) notes.tasks.startable is.tasks.startable;
    unended = set_moves (IsUnendedIn s) (IsUnendedIn s) (TouchTask (c ∷ cs)) (TouchesTask c) (TouchTask cs) old.tasks.unended new.tasks.unended (λ t touched. touched) notes.tasks.unended is.tasks.unended;
  };
  counted = record { each = λ t lt. counted t (is.counted.each t lt) };
  free = set_looked (IsFree g s) (TouchLock (c ∷ cs)) (TouchesLock c) (TouchLock cs) old.tasks.startable.free new.tasks.startable.free (λ l touched. touched) notes.free is.free;
}
  where
    counted : (t : ℕ) → TouchTask (c ∷ cs) t ⊎ IsCountedAt s old.tasks t → TouchTask cs t ⊎ IsCountedAt s new.tasks t
    counted t (inl (inl touched)) = inr (notes.tasks.counted t touched)
    counted t (inl (inr touched)) = inl touched
    counted t (inr is_counted') = inr (notes.tasks.still t is_counted')

pub index_next : (g : GraphView) (s : StateView) (changes : List Change) (i : ℕ) (d : Change) (old new : ReadyWork) → i < length changes → Notes g s (get_or changes i d) old new → IsIndexBut g s (TouchUnit (drop i changes)) (TouchTask (drop i changes)) (TouchLock (drop i changes)) old → IsIndexBut g s (TouchUnit (drop (i + 1) changes)) (TouchTask (drop (i + 1) changes)) (TouchLock (drop (i + 1) changes)) new
index_next g s changes i d old new lt notes is = next_looked g s (get_or changes i d) (drop (i + 1) changes) old new notes (subst (λ (cs : List Change). IsIndexBut g s (TouchUnit cs) (TouchTask cs) (TouchLock cs) old) (drop_more changes i d lt) is)

-- a task's mark moved: it was noted by the dependents of the graph
pub noted_task : (g : GraphView) (s : StateView) (all : Dependencies) (task : ℕ) (old new : TaskSets) → AreDependents g all → NotesTask s (after all task) task old new → MovesTasks g s (λ k. k ≡ task) old new
noted_task g s all task old new are notes = record {
  skippable = notes.skippable;
  startable = notes.startable;
  unended = notes.unended;
  locks = notes.locks;
  room = λ n room. record {
    skippable = let a = room.skippable in let b = notes.skippable.room in omega arith;
    startable = let a = room.startable in let b = notes.startable.room in omega arith;
    unended = let a = room.unended in let b = notes.unended.room in omega arith;
    unpassed = record { counted = notes.unpassed.size ∙ room.unpassed.counted; counts = notes.unpassed.counts_size ∙ room.unpassed.counts };
    fallen = record { counted = notes.fallen.size ∙ room.fallen.counted; counts = notes.fallen.counts_size ∙ room.fallen.counts };
  };
  dependency_counts = λ is. record {
    unpassed = counts_put g all task (not (has_passed (mark_of s (TaskOf task)))) old.unpassed new.unpassed are notes.unpassed is.unpassed;
    fallen = counts_put g all task (has_fallen (mark_of s (TaskOf task))) old.fallen new.fallen are notes.fallen is.fallen;
  };
  counted = λ t e. subst (IsCountedAt s new) (sym e) (record { unpassed = notes.unpassed.put; fallen = notes.fallen.put });
  still = λ t is. still t is (cases_eq t task);
}
  where
    still : (t : ℕ) → IsCountedAt s old t → (t ≡ task) ⊎ (t ≡ task → ⊥) → IsCountedAt s new t
    still t is (inl e) = subst (IsCountedAt s new) (sym e) (record { unpassed = notes.unpassed.put; fallen = notes.fallen.put })
    still t is (inr ne) = record { unpassed = notes.unpassed.others t ne ∙ is.unpassed; fallen = notes.fallen.others t ne ∙ is.fallen }

-- no task's mark moved
pub no_task_noted : (g : GraphView) (s : StateView) (Seen : ℕ → Type 0) (sets : TaskSets) → ((k : ℕ) → Seen k → ⊥) → MovesTasks g s Seen sets sets
no_task_noted g s Seen sets none = looks_move g s Seen sets sets none (looks_at_nowhere s Seen sets none)

-- a unit was looked at, and nothing else
pub noted_unit : (g : GraphView) (s : StateView) (u : ℕ) (from to : Mark) (old new : ReadyWork) → new ≡ record old { open_units = new.open_units; queued = new.queued } → Looks (IsOpenUnit g s) (λ k. k ≡ u) old.open_units new.open_units → LooksWhereKept (IsQueued g s) (λ k. k ≡ u) old.queued new.queued → Notes g s (Move (UnitOf u) from to) old new
noted_unit g s u from to old new same open' queued = record {
  dependents = ap (λ (r : ReadyWork). r.dependents) same;
  open_units = open';
  queued = queued;
  tasks = subst (MovesTasks g s (TouchesTask (Move (UnitOf u) from to)) old.tasks) (sym (ap (λ (r : ReadyWork). r.tasks) same)) (no_task_noted g s (TouchesTask (Move (UnitOf u) from to)) old.tasks (λ k t. t));
  free = subst (λ (sets : TaskSets). Looks (IsFree g s) (TouchesLock (Move (UnitOf u) from to)) old.tasks.startable.free sets.startable.free) (sym (ap (λ (r : ReadyWork). r.tasks) same))
      (looks_nowhere (IsFree g s) (TouchesLock (Move (UnitOf u) from to)) old.tasks.startable.free (λ k t. t));
}
