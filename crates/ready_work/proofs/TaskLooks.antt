-- The sets of tasks, as tasks are looked at.
use Rattle.std.proofs.Common.{◌≡◌, ◌≢◌, ℕ, zero, ◌+◌, ◌<◌, ◌≤◌, Bool, true, false, not, List, [], ◌∷◌, length, get_or, take, refl, sym, ◌∙◌, ap, subst, arith, ◌⊎◌, inl, inr}
use Rattle.std.specs.Prelude.{◌↔◌, Contains, IsTrue}
use Rattle.std.proofs.lemmas.Bool.{cases_Bool, cases_eq, true≢false}
use Rattle.resource_lock.specs.GraphView.{GraphView}
use Rattle.resource_lock.specs.Marks.{has_ended, has_fallen, has_passed}
use Rattle.resource_lock.specs.StateView.{StateView, mark_of}
use Rattle.resource_lock.specs.declared.marks.Mark.{Mark}
use Rattle.resource_lock.specs.declared.marks.Mark.TheVariants.{Waiting}
use Rattle.resource_lock.specs.declared.marks.MarkId.TheVariants.{Task as TaskOf}
use Rattle.ready_work.specs.DependentLists.{times}
use Rattle.ready_work.specs.NumberSetView.{has}
use Rattle.ready_work.specs.Sets.{IsSetOf, Looks, Moves, NoNumber, SameNumbers}
use Rattle.ready_work.specs.StartableTasksView.{StartableTasksView}
use Rattle.ready_work.specs.DependencyCounts.{count_of, is_counted, weight, IsOfSize, AreCountsOf, PutsCount}
use Rattle.ready_work.specs.TaskSets.{AreEmpty, AreSetsBelow, AreSetsByCount, CanSkipByCount, HasClosedLocks, HasTaskRoom, IsSeen, IsStartableByCount, IsUnendedIn, LooksAt, MovesTasks, NotesTask}
use Rattle.ready_work.specs.declared.dependency_counts.DependencyCounts.{DependencyCounts}
use Rattle.ready_work.specs.declared.task_sets.TaskSets.{TaskSets}
use Rattle.ready_work.proofs.Counting.{contains_times}
use Rattle.ready_work.proofs.Members.{in_more, one_member}
use Rattle.ready_work.proofs.Looking.{all_below, looks_fewer, looks_nowhere, looks_then, moves_looked, moves_seen, none_below, one_below, set_same}

-- what was looked at by the same counts
skip_of : (s : StateView) (Seen : ℕ → Type 0) (f h : DependencyCounts) (old new : TaskSets) → f ≡ h → Looks (CanSkipByCount s f) Seen old.skippable new.skippable → Looks (CanSkipByCount s h) Seen old.skippable new.skippable
skip_of s Seen f h old new is looks = subst (λ (t : DependencyCounts). Looks (CanSkipByCount s t) Seen old.skippable new.skippable) is looks

start_of : (s : StateView) (Seen : ℕ → Type 0) (u v : DependencyCounts) (old new : TaskSets) → u ≡ v → Looks (IsStartableByCount s u) Seen old.startable.tasks new.startable.tasks → Looks (IsStartableByCount s v) Seen old.startable.tasks new.startable.tasks
start_of s Seen u v old new is looks = subst (λ (t : DependencyCounts). Looks (IsStartableByCount s t) Seen old.startable.tasks new.startable.tasks) is looks

pub looks_at_nowhere : (s : StateView) (Seen : ℕ → Type 0) (sets : TaskSets) → ((k : ℕ) → Seen k → ⊥) → LooksAt s Seen sets sets
looks_at_nowhere s Seen sets none = record {
  skippable = looks_nowhere (CanSkipByCount s sets.fallen) Seen sets.skippable none;
  startable = looks_nowhere (IsStartableByCount s sets.unpassed) Seen sets.startable.tasks none;
  unended = looks_nowhere (IsUnendedIn s) Seen sets.unended none;
  locks = refl;
  unpassed = refl;
  fallen = refl;
}

pub looks_at_then : (s : StateView) (A B Both : ℕ → Type 0) (old mid new : TaskSets) → ((k : ℕ) → Both k → A k ⊎ B k) → LooksAt s A old mid → LooksAt s B mid new → LooksAt s Both old new
looks_at_then s A B Both old mid new cover first second = record {
  skippable = looks_then (CanSkipByCount s old.fallen) A B Both old.skippable mid.skippable new.skippable cover first.skippable (skip_of s B mid.fallen old.fallen mid new first.fallen second.skippable);
  startable = looks_then (IsStartableByCount s old.unpassed) A B Both old.startable.tasks mid.startable.tasks new.startable.tasks cover first.startable (start_of s B mid.unpassed old.unpassed mid new first.unpassed second.startable);
  unended = looks_then (IsUnendedIn s) A B Both old.unended mid.unended new.unended cover first.unended second.unended;
  locks = second.locks ∙ first.locks;
  unpassed = second.unpassed ∙ first.unpassed;
  fallen = second.fallen ∙ first.fallen;
}

pub looks_at_fewer : (s : StateView) (A B : ℕ → Type 0) (old new : TaskSets) → ((k : ℕ) → B k → A k) → LooksAt s A old new → LooksAt s B old new
looks_at_fewer s A B old new fewer looks = record {
  skippable = looks_fewer (CanSkipByCount s old.fallen) A B old.skippable new.skippable fewer looks.skippable;
  startable = looks_fewer (IsStartableByCount s old.unpassed) A B old.startable.tasks new.startable.tasks fewer looks.startable;
  unended = looks_fewer (IsUnendedIn s) A B old.unended new.unended fewer looks.unended;
  locks = looks.locks;
  unpassed = looks.unpassed;
  fallen = looks.fallen;
}

pub room_after : (n : ℕ) (s : StateView) (Seen : ℕ → Type 0) (old new : TaskSets) → LooksAt s Seen old new → HasTaskRoom n old → HasTaskRoom n new
room_after n s Seen old new looks room = record {
  skippable = let a = room.skippable in let b = looks.skippable.room in omega arith;
  startable = let a = room.startable in let b = looks.startable.room in omega arith;
  unended = let a = room.unended in let b = looks.unended.room in omega arith;
  unpassed = subst (IsOfSize n) (sym looks.unpassed) room.unpassed;
  fallen = subst (IsOfSize n) (sym looks.fallen) room.fallen;
}

-- ---- one task

pub skip_right : (s : StateView) (fallen : DependencyCounts) (t n : ℕ) (m : Mark) (b : Bool) → t < length s.tasks → m ≡ mark_of s (TaskOf t) → n ≡ count_of fallen t → IsTrue b ↔ ((m ≡ Waiting) × (0 < n)) → (b ≡ true) ↔ CanSkipByCount s fallen t
skip_right s fallen t n m b within is count means = (
  λ yes'. let p = means.0 yes' in record { within = within; waits = sym is ∙ p.0; some = omega (arith, count, p.1) },
  λ p. let some = p.some in means.1 (is ∙ p.waits, omega (arith, count, some)),
)

pub startable_right : (s : StateView) (unpassed : DependencyCounts) (t n : ℕ) (m : Mark) (b : Bool) → t < length s.tasks → m ≡ mark_of s (TaskOf t) → n ≡ count_of unpassed t → IsTrue b ↔ ((m ≡ Waiting) × (n ≡ 0)) → (b ≡ true) ↔ IsStartableByCount s unpassed t
startable_right s unpassed t n m b within is count means = (
  λ yes'. let p = means.0 yes' in record { within = within; waits = sym is ∙ p.0; none = sym count ∙ p.1 },
  λ p. means.1 (is ∙ p.waits, count ∙ p.none),
)

-- whether a task hasn't ended
pub unended_right : (s : StateView) (t : ℕ) (m : Mark) (ended : Bool) → t < length s.tasks → m ≡ mark_of s (TaskOf t) → ended ≡ has_ended m → (not ended ≡ true) ↔ IsUnendedIn s t
unended_right s t m false within is ended = (λ _. record { within = within; unended = ap has_ended (sym is) ∙ sym ended }, λ _. refl)
unended_right s t m true within is ended = (λ no_end. absurd (true≢false (sym no_end)), λ u. absurd (true≢false (ended ∙ ap has_ended is ∙ u.unended)))

-- ---- a task and its dependents

-- the counts come to the same for a task
pub record SameFor (old : TaskSets) (unpassed fallen : DependencyCounts) (k : ℕ) : Type 0 where
  pub some : (0 < count_of old.fallen k) ↔ (0 < count_of fallen k)
  pub none : (count_of old.unpassed k ≡ 0) ↔ (count_of unpassed k ≡ 0)

equal_for : (old : TaskSets) (unpassed fallen : DependencyCounts) (k : ℕ) → count_of unpassed k ≡ count_of old.unpassed k → count_of fallen k ≡ count_of old.fallen k → SameFor old unpassed fallen k
equal_for old unpassed fallen k u f = record {
  some = (λ p. omega (arith, f, p), λ p. omega (arith, f, p));
  none = (λ p. u ∙ p, λ p. sym u ∙ p);
}

weight_none : (b : Bool) (n : ℕ) → n ≡ 0 → weight b n ≡ 0
weight_none true n e = e
weight_none false n e = refl

put_known : (row : List ℕ) (task k : ℕ) (b : Bool) (old new : DependencyCounts) → PutsCount row task b old new → is_counted old task ≡ b → count_of new k ≡ count_of old k
put_known row task k b old new puts known = omega (arith, puts.counts k, ap (λ was. weight was (times row k)) known)

put_elsewhere : (row : List ℕ) (task k : ℕ) (b : Bool) (old new : DependencyCounts) → PutsCount row task b old new → times row k ≡ 0 → count_of new k ≡ count_of old k
put_elsewhere row task k b old new puts none = omega (arith, puts.counts k, weight_none (is_counted old task) (times row k) none, weight_none b (times row k) none)

-- nothing that is counted is new
pub same_for_known : (row : List ℕ) (task : ℕ) (old : TaskSets) (unpassed fallen : DependencyCounts) (bu bf : Bool) → PutsCount row task bu old.unpassed unpassed → PutsCount row task bf old.fallen fallen → is_counted old.unpassed task ≡ bu → is_counted old.fallen task ≡ bf → (k : ℕ) → SameFor old unpassed fallen k
same_for_known row task old unpassed fallen bu bf pu pf ku kf k = equal_for old unpassed fallen k (put_known row task k bu old.unpassed unpassed pu ku) (put_known row task k bf old.fallen fallen pf kf)

-- a dependent is due to be looked at, or its counts come to the same
pub seen_or_same : (row : List ℕ) (task : ℕ) (old : TaskSets) (unpassed fallen : DependencyCounts) (bu bf each : Bool) → PutsCount row task bu old.unpassed unpassed → PutsCount row task bf old.fallen fallen → (each ≡ false → (is_counted old.fallen task ≡ bf) × (bu ≡ false)) → (k : ℕ) → IsSeen each unpassed row k ⊎ SameFor old unpassed fallen k
seen_or_same row task old unpassed fallen bu bf each pu pf quiet k = at (cases_eq (times row k) 0)
  where
    fewer : bu ≡ false → count_of unpassed k ≤ count_of old.unpassed k
    fewer e = omega (arith, pu.counts k, ap (λ b. weight b (times row k)) e)

    open_still : (is_counted old.fallen task ≡ bf) × (bu ≡ false) → count_of unpassed k ≢ 0 → SameFor old unpassed fallen k
    open_still (kf, e) ne = record {
      some = (λ p. omega (arith, put_known row task k bf old.fallen fallen pf kf, p), λ p. omega (arith, put_known row task k bf old.fallen fallen pf kf, p));
      none = (λ p. absurd (ne (omega (arith, p, fewer e))), λ p. absurd (ne p));
    }

    due : Contains row k → (each ≡ true) ⊎ (each ≡ false) → (count_of unpassed k ≡ 0) ⊎ (count_of unpassed k ≡ 0 → ⊥) → IsSeen each unpassed row k ⊎ SameFor old unpassed fallen k
    due c (inl e) _ = inl (record { listed = c; due = inl e })
    due c (inr e) (inl none) = inl (record { listed = c; due = inr none })
    due c (inr e) (inr ne) = inr (open_still (quiet e) ne)

    at : (times row k ≡ 0) ⊎ (times row k ≡ 0 → ⊥) → IsSeen each unpassed row k ⊎ SameFor old unpassed fallen k
    at (inl none) = inr (equal_for old unpassed fallen k (put_elsewhere row task k bu old.unpassed unpassed pu none) (put_elsewhere row task k bf old.fallen fallen pf none))
    at (inr ne) = due (contains_times row k (omega (arith, ne))) (cases_Bool each) (cases_eq (count_of unpassed k) 0)

pub room_put : (n : ℕ) (row : List ℕ) (task : ℕ) (old : TaskSets) (unpassed fallen : DependencyCounts) (bu bf : Bool) → PutsCount row task bu old.unpassed unpassed → PutsCount row task bf old.fallen fallen → HasTaskRoom n old → HasTaskRoom n (record old { unpassed = unpassed; fallen = fallen })
room_put n row task old unpassed fallen bu bf pu pf room = record {
  skippable = room.skippable;
  startable = room.startable;
  unended = room.unended;
  unpassed = record { counted = pu.size ∙ room.unpassed.counted; counts = pu.counts_size ∙ room.unpassed.counts };
  fallen = record { counted = pf.size ∙ room.fallen.counted; counts = pf.counts_size ∙ room.fallen.counts };
}

-- the counts were put, and tasks were looked at, the task among them
pub noted : (s : StateView) (row : List ℕ) (task : ℕ) (Seen : ℕ → Type 0) (old : TaskSets) (unpassed fallen : DependencyCounts) (new : TaskSets) → PutsCount row task (not (has_passed (mark_of s (TaskOf task)))) old.unpassed unpassed → PutsCount row task (has_fallen (mark_of s (TaskOf task))) old.fallen fallen → ((k : ℕ) → k ≡ task → Seen k) → ((k : ℕ) → Seen k ⊎ SameFor old unpassed fallen k) → LooksAt s Seen (record old { unpassed = unpassed; fallen = fallen }) new → NotesTask s row task old new
noted s row task Seen old unpassed fallen new pu pf into known looks = record {
  skippable = subst (λ (t : DependencyCounts). Moves (CanSkipByCount s old.fallen) (CanSkipByCount s t) (λ k. k ≡ task) old.skippable new.skippable) (sym looks.fallen)
      (moves_seen (CanSkipByCount s old.fallen) (CanSkipByCount s fallen) Seen (λ k. k ≡ task) old.skippable new.skippable into (λ k. skip_known k (known k)) looks.skippable);
  startable = subst (λ (t : DependencyCounts). Moves (IsStartableByCount s old.unpassed) (IsStartableByCount s t) (λ k. k ≡ task) old.startable.tasks new.startable.tasks) (sym looks.unpassed)
      (moves_seen (IsStartableByCount s old.unpassed) (IsStartableByCount s unpassed) Seen (λ k. k ≡ task) old.startable.tasks new.startable.tasks into (λ k. start_known k (known k)) looks.startable);
  unended = moves_seen (IsUnendedIn s) (IsUnendedIn s) Seen (λ k. k ≡ task) old.unended new.unended into (λ k. inr (λ u. u, λ u. u)) looks.unended;
  locks = looks.locks;
  unpassed = subst (PutsCount row task (not (has_passed (mark_of s (TaskOf task)))) old.unpassed) (sym looks.unpassed) pu;
  fallen = subst (PutsCount row task (has_fallen (mark_of s (TaskOf task))) old.fallen) (sym looks.fallen) pf;
}
  where
    skip_known : (k : ℕ) → Seen k ⊎ SameFor old unpassed fallen k → Seen k ⊎ (CanSkipByCount s old.fallen k ↔ CanSkipByCount s fallen k)
    skip_known k (inl seen) = inl seen
    skip_known k (inr same) = inr (
      λ p. record { within = p.within; waits = p.waits; some = same.some.0 p.some },
      λ p. record { within = p.within; waits = p.waits; some = same.some.1 p.some },
    )

    start_known : (k : ℕ) → Seen k ⊎ SameFor old unpassed fallen k → Seen k ⊎ (IsStartableByCount s old.unpassed k ↔ IsStartableByCount s unpassed k)
    start_known k (inl seen) = inl seen
    start_known k (inr same) = inr (
      λ p. record { within = p.within; waits = p.waits; none = same.none.0 p.none },
      λ p. record { within = p.within; waits = p.waits; none = same.none.1 p.none },
    )

-- the task is looked at, and no other matters
pub noted_alone : (s : StateView) (row : List ℕ) (task : ℕ) (old : TaskSets) (unpassed fallen : DependencyCounts) (new : TaskSets) → PutsCount row task (not (has_passed (mark_of s (TaskOf task)))) old.unpassed unpassed → PutsCount row task (has_fallen (mark_of s (TaskOf task))) old.fallen fallen → ((k : ℕ) → SameFor old unpassed fallen k) → LooksAt s (λ k. k ≡ task) (record old { unpassed = unpassed; fallen = fallen }) new → NotesTask s row task old new
noted_alone s row task old unpassed fallen new pu pf same looks = noted s row task (λ k. k ≡ task) old unpassed fallen new pu pf (λ k e. e) (λ k. inr (same k)) looks

-- the task is looked at, and then those of its dependents that are due
pub noted_all : (s : StateView) (row : List ℕ) (task : ℕ) (each : Bool) (old : TaskSets) (unpassed fallen : DependencyCounts) (mid new : TaskSets) → PutsCount row task (not (has_passed (mark_of s (TaskOf task)))) old.unpassed unpassed → PutsCount row task (has_fallen (mark_of s (TaskOf task))) old.fallen fallen → ((k : ℕ) → IsSeen each unpassed row k ⊎ SameFor old unpassed fallen k) → LooksAt s (λ k. k ≡ task) (record old { unpassed = unpassed; fallen = fallen }) mid → LooksAt s (IsSeen each mid.unpassed row) mid new → NotesTask s row task old new
noted_all s row task each old unpassed fallen mid new pu pf known first second =
    noted s row task (λ k. (k ≡ task) ⊎ IsSeen each unpassed row k) old unpassed fallen new pu pf (λ k e. inl e) (λ k. wider k (known k))
    (looks_at_then s (λ k. k ≡ task) (IsSeen each mid.unpassed row) (λ k. (k ≡ task) ⊎ IsSeen each unpassed row k) (record old { unpassed = unpassed; fallen = fallen }) mid new cover first second)
  where
    wider : (k : ℕ) → IsSeen each unpassed row k ⊎ SameFor old unpassed fallen k → ((k ≡ task) ⊎ IsSeen each unpassed row k) ⊎ SameFor old unpassed fallen k
    wider k (inl seen) = inl (inr seen)
    wider k (inr same) = inr same

    cover : (k : ℕ) → (k ≡ task) ⊎ IsSeen each unpassed row k → (k ≡ task) ⊎ IsSeen each mid.unpassed row k
    cover k (inl e) = inl e
    cover k (inr seen) = inr (subst (λ (t : DependencyCounts). IsSeen each t row k) (sym first.unpassed) seen)

-- a look moves no counts
pub looks_move : (g : GraphView) (s : StateView) (Seen : ℕ → Type 0) (old new : TaskSets) → ((k : ℕ) → Seen k → ⊥) → LooksAt s Seen old new → MovesTasks g s Seen old new
looks_move g s Seen old new none looks = record {
  skippable = subst (λ (t : DependencyCounts). Moves (CanSkipByCount s old.fallen) (CanSkipByCount s t) Seen old.skippable new.skippable) (sym looks.fallen) (moves_looked (CanSkipByCount s old.fallen) Seen old.skippable new.skippable looks.skippable);
  startable = subst (λ (t : DependencyCounts). Moves (IsStartableByCount s old.unpassed) (IsStartableByCount s t) Seen old.startable.tasks new.startable.tasks) (sym looks.unpassed) (moves_looked (IsStartableByCount s old.unpassed) Seen old.startable.tasks new.startable.tasks looks.startable);
  unended = moves_looked (IsUnendedIn s) Seen old.unended new.unended looks.unended;
  locks = looks.locks;
  room = λ n. room_after n s Seen old new looks;
  dependency_counts = λ is. record { unpassed = subst (AreCountsOf g) (sym looks.unpassed) is.unpassed; fallen = subst (AreCountsOf g) (sym looks.fallen) is.fallen };
  counted = λ t seen. absurd (none t seen);
  still = λ t is. record { unpassed = ap (λ (y : DependencyCounts). is_counted y t) looks.unpassed ∙ is.unpassed; fallen = ap (λ (y : DependencyCounts). is_counted y t) looks.fallen ∙ is.fallen };
}

-- ---- those that are due, one after another

-- the one that is due was looked at
pub seen_one : (each : Bool) (unpassed : DependencyCounts) (task k : ℕ) → IsSeen each unpassed (task ∷ []) k → k ≡ task
seen_one each unpassed task k seen = one_member task k seen.listed

-- it isn't due
pub none_due : (each : Bool) (unpassed : DependencyCounts) (task : ℕ) → each ≡ false → count_of unpassed task ≢ 0 → (k : ℕ) → IsSeen each unpassed (task ∷ []) k → ⊥
none_due each unpassed task e ne k seen = at (seen_one each unpassed task k seen) seen.due
  where
    at : k ≡ task → (each ≡ true) ⊎ (count_of unpassed k ≡ 0) → ⊥
    at here (inl yes') = true≢false (sym yes' ∙ e)
    at here (inr none) = ne (sym (ap (count_of unpassed) here) ∙ none)

pub seen_next : (each : Bool) (unpassed now : DependencyCounts) (tasks : List ℕ) (i : ℕ) → now ≡ unpassed → i < length tasks → (k : ℕ) → IsSeen each unpassed (take (i + 1) tasks) k → IsSeen each unpassed (take i tasks) k ⊎ IsSeen each now (get_or tasks i 0 ∷ []) k
seen_next each unpassed now tasks i same lt k seen = at (in_more tasks i lt k seen.listed)
  where
    at : Contains (take i tasks) k ⊎ (k ≡ get_or tasks i 0) → IsSeen each unpassed (take i tasks) k ⊎ IsSeen each now (get_or tasks i 0 ∷ []) k
    at (inl c) = inl (record { listed = c; due = seen.due })
    at (inr e) = inr (subst (λ (t : DependencyCounts). IsSeen each t (get_or tasks i 0 ∷ []) k) (sym same) (record { listed = (zero, omega arith, sym e); due = seen.due }))

-- ---- all tasks are looked at, one after another

pub no_task_below : (s : StateView) (sets : TaskSets) → AreEmpty sets → AreSetsBelow s 0 sets.unpassed sets.fallen sets
no_task_below s sets none = record {
  skippable = none_below (CanSkipByCount s sets.fallen) sets.skippable none.skippable;
  startable = none_below (IsStartableByCount s sets.unpassed) sets.startable.tasks none.startable;
  unended = none_below (IsUnendedIn s) sets.unended none.unended;
  same_unpassed = refl;
  same_fallen = refl;
}

pub one_task_below : (s : StateView) (n : ℕ) (unpassed fallen : DependencyCounts) (old new : TaskSets) → LooksAt s (λ k. k ≡ n) old new → AreSetsBelow s n unpassed fallen old → AreSetsBelow s (n + 1) unpassed fallen new
one_task_below s n unpassed fallen old new looks are = record {
  skippable = one_below (CanSkipByCount s fallen) n old.skippable new.skippable (skip_of s (λ k. k ≡ n) old.fallen fallen old new are.same_fallen looks.skippable) are.skippable;
  startable = one_below (IsStartableByCount s unpassed) n old.startable.tasks new.startable.tasks (start_of s (λ k. k ≡ n) old.unpassed unpassed old new are.same_unpassed looks.startable) are.startable;
  unended = one_below (IsUnendedIn s) n old.unended new.unended looks.unended are.unended;
  same_unpassed = looks.unpassed ∙ are.same_unpassed;
  same_fallen = looks.fallen ∙ are.same_fallen;
}

pub all_tasks_below : (s : StateView) (n : ℕ) (unpassed fallen : DependencyCounts) (sets : TaskSets) → length s.tasks ≤ n → AreSetsBelow s n unpassed fallen sets → AreSetsByCount s NoNumber sets
all_tasks_below s n unpassed fallen sets all are = record {
  skippable = subst (λ (t : DependencyCounts). IsSetOf (CanSkipByCount s t) NoNumber sets.skippable) (sym are.same_fallen) (all_below (CanSkipByCount s fallen) n sets.skippable (λ k p. let a = p.within in omega arith) are.skippable);
  startable = subst (λ (t : DependencyCounts). IsSetOf (IsStartableByCount s t) NoNumber sets.startable.tasks) (sym are.same_unpassed) (all_below (IsStartableByCount s unpassed) n sets.startable.tasks (λ k p. let a = p.within in omega arith) are.startable);
  unended = all_below (IsUnendedIn s) n sets.unended (λ k p. let a = p.within in omega arith) are.unended;
}

-- the tasks keep their locks while none is given
pub closed_kept : (g : GraphView) (old new : StartableTasksView) → new.locks ≡ old.locks → SameNumbers old.free new.free → HasClosedLocks g old → HasClosedLocks g new
closed_kept g old new locks same has = record {
  locks = locks ∙ has.locks;
  room = let a = has.room in let b = same.room in omega arith;
  closed = λ l. same.members l ∙ has.closed l;
}

-- the startable tasks are the same while locks are given
pub sets_kept : (s : StateView) (Open : ℕ → Type 0) (sets : TaskSets) (startable : StartableTasksView) → SameNumbers sets.startable.tasks startable.tasks → AreSetsByCount s Open sets → AreSetsByCount s Open (record sets { startable = startable })
sets_kept s Open sets startable same are = record {
  skippable = are.skippable;
  startable = set_same (IsStartableByCount s sets.unpassed) Open sets.startable.tasks startable.tasks same are.startable;
  unended = are.unended;
}
