-- What holds of every state that a lawful history reaches.
use Rattle.std.proofs.Common.{◌≡◌, ℕ, ◌<◌, ◌⊎◌, Bool, true, false, List, [], ◌∷◌, get_or, refl, sym, ◌∙◌, subst, inl, inr}
use Rattle.std.specs.List.{list_all, AllByRecursion}
use Rattle.std.proofs.lemmas.Bool.{and_parts, and_cases}
use Rattle.lock_journal.specs.Names.{Mark, Waiting, Queued, Running, Passed, Failed, Skipped, MarkId, TaskOf, ActionOf, UnitOf, GraphView, task_of}
use Rattle.lock_journal.specs.Names.{actions_of, units_of, IsActionOf, IsUnitOf, BelongsTo, StateView, mark_of, has_passed, IsDone, IsEnded}
use Rattle.lock_journal.specs.Names.{AfterPassed}
use Rattle.lock_journal.proofs.Conditions.{HasFallen, AfterFallen, EarlierFailed, FetchDone, all_passed}
use Rattle.lock_journal.proofs.Finished.{IsFinal}
use Rattle.lock_journal.proofs.Ranges.{Has, has_unit, has_action, each_has, each_unit, each_action}

-- a unit of the task that has ended without passing
pub record HasFallenUnit (g : GraphView) (s : StateView) (t : ℕ) : Type 0 where
  pub action : ℕ
  pub unit : ℕ
  pub of_task : IsActionOf g t action
  pub of_action : IsUnitOf g action unit
  pub fallen : HasFallen (mark_of s (UnitOf unit))

-- each unit of the task has this mark
pub record UnitsAre (g : GraphView) (s : StateView) (t : ℕ) (m : Mark) : Type 0 where
  pub each : (a u : ℕ) → IsActionOf g t a → IsUnitOf g a u → mark_of s (UnitOf u) ≡ m

-- each unit of an earlier action is Passed
pub record UnitsBefore (g : GraphView) (s : StateView) (t a : ℕ) : Type 0 where
  pub each : (b u : ℕ) → IsActionOf g t b → b < a → IsUnitOf g b u → mark_of s (UnitOf u) ≡ Passed

-- each unit of the action has ended
pub record UnitsEnded (g : GraphView) (s : StateView) (a : ℕ) : Type 0 where
  pub each : (u : ℕ) → IsUnitOf g a u → IsEnded (mark_of s (UnitOf u))

-- all that belongs to the task has ended
pub record WholeEnded (g : GraphView) (s : StateView) (t : ℕ) : Type 0 where
  pub actions : (a : ℕ) → IsActionOf g t a → IsEnded (mark_of s (ActionOf a))
  pub units : (a u : ℕ) → IsActionOf g t a → IsUnitOf g a u → IsEnded (mark_of s (UnitOf u))

abbrev pub TaskFact : GraphView → StateView → ℕ → Mark → Type 0
TaskFact g s t (Running w) = AfterPassed g s t
TaskFact g s t Passed = AfterPassed g s t × UnitsAre g s t Passed × WholeEnded g s t
TaskFact g s t Failed = AfterPassed g s t × HasFallenUnit g s t × WholeEnded g s t
TaskFact g s t Skipped = AfterFallen g s t × UnitsAre g s t Skipped × WholeEnded g s t
TaskFact g s t _ = Unit {0}

abbrev pub ActionFact : GraphView → StateView → ℕ → Mark → Type 0
ActionFact g s a Queued = FetchDone g s a
ActionFact g s a (Running w) = FetchDone g s a
ActionFact g s a Passed = UnitsEnded g s a
ActionFact g s a _ = Unit {0}

abbrev pub UnitFact : GraphView → StateView → ℕ → ℕ → Mark → Type 0
UnitFact g s t a Waiting = Unit {0}
UnitFact g s t a Skipped = (mark_of s (TaskOf t) ≡ Skipped) ⊎ EarlierFailed g s t a
UnitFact g s t a _ = UnitsBefore g s t a

pub record IsKept (g : GraphView) (s : StateView) : Type 0 where
  pub belongs : BelongsTo g s
  pub tasks : (t : ℕ) → TaskFact g s t (mark_of s (TaskOf t))
  pub actions : (a : ℕ) → ActionFact g s a (mark_of s (ActionOf a))
  pub units : (t a u : ℕ) → IsActionOf g t a → IsUnitOf g a u → UnitFact g s t a (mark_of s (UnitOf u))

-- Each fact speaks of marks that have ended, so it stays.
pub ended_stays : (s s' : StateView) → IsFinal s s' → (m : MarkId) → IsEnded (mark_of s m) → IsEnded (mark_of s' m)
ended_stays s s' f m e = subst IsEnded (sym (f.kept m e)) e

pub mark_stays : (s s' : StateView) → IsFinal s s' → (m : MarkId) (x : Mark) → IsEnded x → mark_of s m ≡ x → mark_of s' m ≡ x
mark_stays s s' f m x e is = f.kept m (subst IsEnded (sym is) e) ∙ is

pub fallen_stays : (s s' : StateView) → IsFinal s s' → (m : MarkId) → HasFallen (mark_of s m) → HasFallen (mark_of s' m)
fallen_stays s s' f m (inl e) = inl (mark_stays s s' f m Failed tt e)
fallen_stays s s' f m (inr e) = inr (mark_stays s s' f m Skipped tt e)

pub done_stays : (s s' : StateView) → IsFinal s s' → (m : MarkId) → IsDone (mark_of s m) → IsDone (mark_of s' m)
done_stays s s' f m (inl e) = inl (mark_stays s s' f m Passed tt e)
done_stays s s' f m (inr e) = inr (mark_stays s s' f m Failed tt e)

pub after_passed_stays : (g : GraphView) (s s' : StateView) → IsFinal s s' → (t : ℕ) → AfterPassed g s t → AfterPassed g s' t
after_passed_stays g s s' f t h = λ k d lt. mark_stays s s' f (TaskOf (get_or (task_of g t).after k d)) Passed tt (h k d lt)

pub after_fallen_stays : (g : GraphView) (s s' : StateView) → IsFinal s s' → (t : ℕ) → AfterFallen g s t → AfterFallen g s' t
after_fallen_stays g s s' f t h = (h.0, h.1, h.2, h.3, fallen_stays s s' f (TaskOf h.1) h.4)

pub units_are_stays : (g : GraphView) (s s' : StateView) → IsFinal s s' → (t : ℕ) (m : Mark) → IsEnded m → UnitsAre g s t m → UnitsAre g s' t m
units_are_stays g s s' f t m e h = record { each = λ a u ia iu. mark_stays s s' f (UnitOf u) m e (h.each a u ia iu) }

pub units_before_stays : (g : GraphView) (s s' : StateView) → IsFinal s s' → (t a : ℕ) → UnitsBefore g s t a → UnitsBefore g s' t a
units_before_stays g s s' f t a h = record { each = λ b u ib lt iu. mark_stays s s' f (UnitOf u) Passed tt (h.each b u ib lt iu) }

pub units_ended_stays : (g : GraphView) (s s' : StateView) → IsFinal s s' → (a : ℕ) → UnitsEnded g s a → UnitsEnded g s' a
units_ended_stays g s s' f a h = record { each = λ u iu. ended_stays s s' f (UnitOf u) (h.each u iu) }

pub fallen_unit_stays : (g : GraphView) (s s' : StateView) → IsFinal s s' → (t : ℕ) → HasFallenUnit g s t → HasFallenUnit g s' t
fallen_unit_stays g s s' f t h = record { action = h.action; unit = h.unit; of_task = h.of_task; of_action = h.of_action; fallen = fallen_stays s s' f (UnitOf h.unit) h.fallen }

pub fetch_done_stays : (g : GraphView) (s s' : StateView) → IsFinal s s' → (a : ℕ) → FetchDone g s a → FetchDone g s' a
fetch_done_stays g s s' f a h = λ u i. done_stays s s' f (UnitOf u) (h u i)

pub earlier_failed_stays : (g : GraphView) (s s' : StateView) → IsFinal s s' → (t a : ℕ) → EarlierFailed g s t a → EarlierFailed g s' t a
earlier_failed_stays g s s' f t a h = (h.0, h.1, h.2, h.3, h.4, mark_stays s s' f (UnitOf h.1) Failed tt h.5)

pub whole_ended_stays : (g : GraphView) (s s' : StateView) → IsFinal s s' → (t : ℕ) → WholeEnded g s t → WholeEnded g s' t
whole_ended_stays g s s' f t h = record { actions = λ a ia. ended_stays s s' f (ActionOf a) (h.actions a ia); units = λ a u ia iu. ended_stays s s' f (UnitOf u) (h.units a u ia iu) }

pub task_fact_stays : (g : GraphView) (s s' : StateView) → IsFinal s s' → (t : ℕ) (m : Mark) → TaskFact g s t m → TaskFact g s' t m
task_fact_stays g s s' f t Waiting h = tt
task_fact_stays g s s' f t Queued h = tt
task_fact_stays g s s' f t (Running w) h = after_passed_stays g s s' f t h
task_fact_stays g s s' f t Passed h = (after_passed_stays g s s' f t h.0, units_are_stays g s s' f t Passed tt h.1, whole_ended_stays g s s' f t h.2)
task_fact_stays g s s' f t Failed h = (after_passed_stays g s s' f t h.0, fallen_unit_stays g s s' f t h.1, whole_ended_stays g s s' f t h.2)
task_fact_stays g s s' f t Skipped h = (after_fallen_stays g s s' f t h.0, units_are_stays g s s' f t Skipped tt h.1, whole_ended_stays g s s' f t h.2)

pub action_fact_stays : (g : GraphView) (s s' : StateView) → IsFinal s s' → (a : ℕ) (m : Mark) → ActionFact g s a m → ActionFact g s' a m
action_fact_stays g s s' f a Waiting h = tt
action_fact_stays g s s' f a Queued h = fetch_done_stays g s s' f a h
action_fact_stays g s s' f a (Running w) h = fetch_done_stays g s s' f a h
action_fact_stays g s s' f a Passed h = units_ended_stays g s s' f a h
action_fact_stays g s s' f a Failed h = tt
action_fact_stays g s s' f a Skipped h = tt

pub skip_fact_stays : (g : GraphView) (s s' : StateView) → IsFinal s s' → (t a : ℕ) → (mark_of s (TaskOf t) ≡ Skipped) ⊎ EarlierFailed g s t a → (mark_of s' (TaskOf t) ≡ Skipped) ⊎ EarlierFailed g s' t a
skip_fact_stays g s s' f t a (inl e) = inl (mark_stays s s' f (TaskOf t) Skipped tt e)
skip_fact_stays g s s' f t a (inr e) = inr (earlier_failed_stays g s s' f t a e)

pub unit_fact_stays : (g : GraphView) (s s' : StateView) → IsFinal s s' → (t a : ℕ) (m : Mark) → UnitFact g s t a m → UnitFact g s' t a m
unit_fact_stays g s s' f t a Waiting h = tt
unit_fact_stays g s s' f t a Queued h = units_before_stays g s s' f t a h
unit_fact_stays g s s' f t a (Running w) h = units_before_stays g s s' f t a h
unit_fact_stays g s s' f t a Passed h = units_before_stays g s s' f t a h
unit_fact_stays g s s' f t a Failed h = units_before_stays g s s' f t a h
unit_fact_stays g s s' f t a Skipped h = skip_fact_stays g s s' f t a h

-- what a test of every member of a list finds
pub list_all-true : {X : Type 0} (test : X → Bool) (xs : List X) → list_all test xs ≡ true → AllByRecursion (λ x. test x ≡ true) xs
list_all-true test [] h = tt
list_all-true test (x ∷ xs) h = let p = and_parts (test x) (list_all test xs) h in (p.0, list_all-true test xs p.1)

pub list_all-false : (test : ℕ → Bool) (xs : List ℕ) → list_all test xs ≡ false → (x : ℕ) × Has x xs × (test x ≡ false)
list_all-false test [] h = absurd (cc)
list_all-false test (x ∷ xs) h = at (and_cases (test x) (list_all test xs) h) (list_all-false test xs)
  where
    at : (test x ≡ false) ⊎ (list_all test xs ≡ false) → (list_all test xs ≡ false → (y : ℕ) × Has y xs × (test y ≡ false)) → (y : ℕ) × Has y (x ∷ xs) × (test y ≡ false)
    at (inl e) rest = (x, inl refl, e)
    at (inr e) rest = let r = rest e in (r.0, inr r.1, r.2)

has_passed-true : (m : Mark) → has_passed m ≡ true → m ≡ Passed
has_passed-true Passed h = refl
has_passed-true _ h = absurd (cc)

pub ended_not_passed : (m : Mark) → IsEnded m → has_passed m ≡ false → HasFallen m
ended_not_passed Passed e h = absurd (cc)
ended_not_passed Failed e h = inl refl
ended_not_passed Skipped e h = inr refl
ended_not_passed _ e h = absurd e

pub all_passed-true : (g : GraphView) (s : StateView) (t : ℕ) → all_passed g s t ≡ true → UnitsAre g s t Passed
all_passed-true g s t h = record {
  each = λ a u ia iu.
      let outer = list_all-true (λ a. list_all (λ u. has_passed (mark_of s (UnitOf u))) (units_of g a)) (actions_of g t) h in
      let one = each_has (λ a. list_all (λ u. has_passed (mark_of s (UnitOf u))) (units_of g a) ≡ true) a (actions_of g t) outer (has_action g t a ia) in
      let inner = list_all-true (λ u. has_passed (mark_of s (UnitOf u))) (units_of g a) one in
      has_passed-true (mark_of s (UnitOf u)) (each_has (λ u. has_passed (mark_of s (UnitOf u)) ≡ true) u (units_of g a) inner (has_unit g a u iu));
}

pub record HasUnpassed (g : GraphView) (s : StateView) (t : ℕ) : Type 0 where
  pub action : ℕ
  pub unit : ℕ
  pub of_task : IsActionOf g t action
  pub of_action : IsUnitOf g action unit
  pub unpassed : has_passed (mark_of s (UnitOf unit)) ≡ false

pub all_passed-false : (g : GraphView) (s : StateView) (t : ℕ) → all_passed g s t ≡ false → HasUnpassed g s t
all_passed-false g s t h =
    let o = list_all-false (λ a. list_all (λ u. has_passed (mark_of s (UnitOf u))) (units_of g a)) (actions_of g t) h in
    let i = list_all-false (λ u. has_passed (mark_of s (UnitOf u))) (units_of g o.0) o.2 in
    record {
      action = o.0;
      unit = i.0;
      of_task = each_has (IsActionOf g t) o.0 (actions_of g t) (each_action (IsActionOf g t) g t (λ a ia. ia)) o.1;
      of_action = each_has (IsUnitOf g o.0) i.0 (units_of g o.0) (each_unit (IsUnitOf g o.0) g o.0 (λ u iu. iu)) i.1;
      unpassed = i.2;
    }
