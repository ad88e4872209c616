-- Where no action of a task can come next each has passed, or never ran behind one that failed: so the task can end.
use Rattle.std.proofs.Common.{◌≡◌, ◌≢◌, ◌⊎◌, ℕ, zero, suc, ◌-◌, ◌<◌, Bool, true, false, not, ◌&&◌, ◌||◌, List, [], ◌∷◌, ◌++◌, length, Option, None, Some, inl, inr, refl, sym, ap, ◌∙◌, subst, arith}
use Rattle.std.specs.Prelude.{IfSome, if◌then◌else◌}
use Rattle.std.specs.List.{list_all, list_any}
use Rattle.std.proofs.lemmas.Bool.{and_from, and_parts, eq-eqb, false≢true, or_right}
use Rattle.std.proofs.lemmas.List.Folds.{list_any_at}
use Rattle.lock_journal.specs.Names.{can_all, make_all, same_mark, Fits, GraphView, action_of, task_of, opening_of, IsActionOf, IsIn, IsUnitOf}
use Rattle.lock_journal.specs.Names.{actions_of, earlier_actions, task_with, units_in, units_of, BelongsTo, StateView, is_parked, mark_of, runs_by}
use Rattle.lock_journal.specs.Names.{Change, WorkerId, Mark, Waiting, Queued, Running, Passed, Failed, Skipped, MarkId, TaskOf, ActionOf, UnitOf}
use Rattle.lock_journal.specs.Names.{Finishes, IsKindOf, Lawful, lawful_from, Entry, changed, effect, replay, replay_from, condition, earlier_passed}
use Rattle.lock_journal.specs.Names.{end_mark, has_passed, list_of, never_ran, skipped_waiting, units_passed, Kind, Start, Skip, Submit, Park, Resume}
use Rattle.lock_journal.specs.Names.{Block, Unblock, End, IsEnded}
use Rattle.resource_lock.proofs.lemmas.Undo.{same_mark_is}
use Rattle.lock_journal.proofs.Conditions.{EarlierFailed, HasFallen}
use Rattle.lock_journal.proofs.Finished.{HasMoved, IsFinal, final_by, has_moved}
use Rattle.lock_journal.proofs.Kept.{ActionFact, IsKept, UnitFact, ended_not_passed, list_all-false}
use Rattle.lock_journal.proofs.Marks.{AllMoves-weaker, GoesTo, Names, Names-append_right, StaysOrMoves, moves_to, stays_or_moves}
use Rattle.lock_journal.proofs.Moves.{MayMove, list_moves}
use Rattle.lock_journal.proofs.Ranges.{Has, each_has, each_in_range, each_unit, has_in_range, has_unit, unit_of_range}
use Rattle.lock_journal.proofs.Runs.{Holds, all_wait, holds_after, one_more}
use Rattle.lock_journal.proofs.lemmas.Fitting.{RangesApart, apart_of}
use Rattle.async_tracker.specs.Tasks.{is_through}
use Rattle.single_steps.specs.TaskMoves.{can_come}
use Rattle.single_steps.proofs.TaskActions.{AreInStep, all_range, running_within}

-- An action runs by the worker that runs its task, is skipped where the task has ended, and never fails.
pub record AreUnderTasks (g : GraphView) (s : StateView) : Type 0 where
  pub running : (a : ℕ) (v : WorkerId) → mark_of s (ActionOf a) ≡ Running v → mark_of s (TaskOf (task_with g a)) ≡ Running v
  pub skipped : (a : ℕ) → mark_of s (ActionOf a) ≡ Skipped → IsEnded (mark_of s (TaskOf (task_with g a)))
  pub never_fail : (a : ℕ) → mark_of s (ActionOf a) ≢ Failed

end_ended : (b : Bool) → IsEnded (if b then Passed else Failed)
end_ended true = tt
end_ended false = tt

pub action_runs_by : (s : StateView) (w : WorkerId) (a : ℕ) → mark_of s (ActionOf a) ≡ Running w → is_parked s w ≡ true
action_runs_by s w a is = list_any_at (runs_by w) s.actions a Waiting (running_within s.actions a w is) (ap (runs_by w) is ∙ eq-eqb w.0 w.0 refl)

-- the task of an entry that ends it has ended
ended_by : (g : GraphView) (s : StateView) (w : WorkerId) (t : ℕ) (cs : List Change) → BelongsTo g s → t < length g.tasks → cs ≡ list_of g s w (End t) → can_all s w cs ≡ true → IsEnded (mark_of (make_all s w cs) (TaskOf t))
ended_by g s w t cs z within l h = subst IsEnded (sym at) (end_ended (list_all (units_passed g s) (actions_of g t)))
  where
    goes : (from to : Mark) → MayMove g s w (End t) (TaskOf t) from to → to ≡ end_mark g s t
    goes from to p = p.2

    at : mark_of (make_all s w cs) (TaskOf t) ≡ end_mark g s t
    at = moves_to (TaskOf t) (end_mark g s t) cs s w
        (AllMoves-weaker (MayMove g s w (End t)) (GoesTo (TaskOf t) (end_mark g s t)) (λ n from to p e. goes from to (subst (λ m. MayMove g s w (End t) m from to) e p)) cs (list_moves g s w (End t) cs l)) h
        (let e = z.tasks in omega arith) (inr (subst (Names (TaskOf t)) (sym l) (Names-append_right (TaskOf t) (skipped_waiting g s (actions_of g t)) _ (inl refl))))

module _ (g : GraphView) (s : StateView) (w : WorkerId) (fits : Fits g) (belongs : BelongsTo g s) (old : AreUnderTasks g s) (cs : List Change) (possible : can_all s w cs ≡ true) where
  apart : RangesApart g
  apart = apart_of g fits

  never_failed : (k : Kind) (a : ℕ) (from to : Mark) → MayMove g s w k (ActionOf a) from to → to ≡ Failed → ⊥
  never_failed (Skip t) a from to p e = absurd (cc (p.2, e))
  never_failed (Submit b) a from to p e = absurd (cc (p.2, e))
  never_failed (Park b) a from to p e = absurd (cc (p.2, e))
  never_failed (Resume b) a from to p e = absurd (cc (p.2, e))
  never_failed (Block (Some n)) a from to p e = absurd p
  never_failed (Block None) a from to p e = absurd p
  never_failed (Unblock (Some d)) a from to p e = absurd p
  never_failed (Unblock None) a from to p e = absurd p
  never_failed (End t) a from to p e = absurd (cc (p.2, e))
  never_failed k a from to p e = absurd p

  begins : (k : Kind) (a : ℕ) (v : WorkerId) (from to : Mark) → condition g s w k ≡ true → MayMove g s w k (ActionOf a) from to → to ≡ Running v → mark_of s (TaskOf (task_with g a)) ≡ Running v
  begins (Skip t) a v from to holds p e = absurd (cc (p.2, e))
  begins (Submit b) a v from to holds p e = absurd (cc (p.2, e))
  begins (Park b) a v from to holds p e =
      let task : same_mark (mark_of s (TaskOf (task_with g b))) (Running w) ≡ true = (and_parts _ _ (and_parts _ _ (and_parts _ _ holds).0).0).0 in
      subst (λ n. mark_of s (TaskOf (task_with g n)) ≡ Running v) (sym p.0) (same_mark_is _ (Running w) task ∙ (sym p.2 ∙ e))
  begins (Resume b) a v from to holds p e = absurd (cc (p.2, e))
  begins (Block (Some n)) a v from to holds p e = absurd p
  begins (Block None) a v from to holds p e = absurd p
  begins (Unblock (Some d)) a v from to holds p e = absurd p
  begins (Unblock None) a v from to holds p e = absurd p
  begins (End t) a v from to holds p e = absurd (cc (p.2, e))
  begins k a v from to holds p e = absurd p

  -- who waits for items doesn't end the task
  no_task_ends : (k : Kind) (t a : ℕ) (v : WorkerId) (from to : Mark) → condition g s w k ≡ true → mark_of s (ActionOf a) ≡ Running v → MayMove g s w k (TaskOf t) from to → from ≡ Running v → ⊥
  no_task_ends (Start r) t a v from to holds runs p e = absurd (cc (p.1, e))
  no_task_ends (Skip r) t a v from to holds runs p e = absurd (cc (p.1, e))
  no_task_ends (Block (Some n)) t a v from to holds runs p e = absurd p
  no_task_ends (Block None) t a v from to holds runs p e = absurd p
  no_task_ends (Unblock (Some d)) t a v from to holds runs p e = absurd p
  no_task_ends (Unblock None) t a v from to holds runs p e = absurd p
  no_task_ends (End r) t a v from to holds runs p e =
      let same : Running v ≡ Running w = sym e ∙ p.1 in
      let none : not (is_parked s w) ≡ true = (and_parts _ _ (and_parts _ _ (and_parts _ _ (and_parts _ _ holds).0).0).0).1 in
      false≢true (ap not (sym (action_runs_by s w a (runs ∙ same))) ∙ none)
  no_task_ends k t a v from to holds runs p e = absurd p

  no_task_beside : (k : Kind) (t a : ℕ) (v : WorkerId) (from to from' to' : Mark) → MayMove g s w k (ActionOf a) from to → to ≡ Running v → MayMove g s w k (TaskOf t) from' to' → ⊥
  no_task_beside (Start r) t a v from to from' to' p e q = absurd p
  no_task_beside (Skip r) t a v from to from' to' p e q = absurd (cc (p.2, e))
  no_task_beside (Block (Some n)) t a v from to from' to' p e q = absurd q
  no_task_beside (Block None) t a v from to from' to' p e q = absurd q
  no_task_beside (Unblock (Some d)) t a v from to from' to' p e q = absurd q
  no_task_beside (Unblock None) t a v from to from' to' p e q = absurd q
  no_task_beside (End r) t a v from to from' to' p e q = absurd (cc (p.2, e))
  no_task_beside k t a v from to from' to' p e q = absurd q

  skips : (k : Kind) (a : ℕ) (from to : Mark) → IsKindOf g k → Finishes g s w k cs → HasMoved g s w k (make_all s w cs) → MayMove g s w k (ActionOf a) from to → to ≡ Skipped → IsEnded (mark_of (make_all s w cs) (TaskOf (task_with g a)))
  skips (Skip t) a from to kind f moved p e =
      let task = apart.one_task t (task_with g a) a p.0 (apart.own_task a (apart.action_within t a p.0)) in
      subst (λ n. IsEnded (mark_of (make_all s w cs) (TaskOf n))) task (subst IsEnded (sym moved.0) tt)
  skips (Submit b) a from to kind f moved p e = absurd (cc (p.2, e))
  skips (Park b) a from to kind f moved p e = absurd (cc (p.2, e))
  skips (Resume b) a from to kind f moved p e = absurd (cc (p.2, e))
  skips (Block (Some n)) a from to kind f moved p e = absurd p
  skips (Block None) a from to kind f moved p e = absurd p
  skips (Unblock (Some d)) a from to kind f moved p e = absurd p
  skips (Unblock None) a from to kind f moved p e = absurd p
  skips (End t) a from to kind f moved p e =
      let task = apart.one_task t (task_with g a) a p.0.0 (apart.own_task a (apart.action_within t a p.0.0)) in
      subst (λ n. IsEnded (mark_of (make_all s w cs) (TaskOf n))) task (ended_by g s w t cs belongs kind f.list possible)
  skips k a from to kind f moved p e = absurd p

  under_step : (k : Kind) → IsKindOf g k → Finishes g s w k cs → AreUnderTasks g (make_all s w cs)
  under_step k kind f = record {
    running = λ a v e. stays a v (ran a v (moves (ActionOf a)) e) (moves (ActionOf a)) e (moves (TaskOf (task_with g a)));
    skipped = λ a e. ended a (moves (ActionOf a)) e;
    never_fail = λ a e. failed a (moves (ActionOf a)) e;
  }
    where
      moves : (m : MarkId) → StaysOrMoves (MayMove g s w k) m (mark_of s m) (mark_of (make_all s w cs) m)
      moves = stays_or_moves (MayMove g s w k) cs s w (list_moves g s w k cs f.list) possible

      final : IsFinal s (make_all s w cs)
      final = final_by g s w k cs f.list possible

      ran : (a : ℕ) (v : WorkerId) → StaysOrMoves (MayMove g s w k) (ActionOf a) (mark_of s (ActionOf a)) (mark_of (make_all s w cs) (ActionOf a)) → mark_of (make_all s w cs) (ActionOf a) ≡ Running v → mark_of s (TaskOf (task_with g a)) ≡ Running v
      ran a v (inl same) e = old.running a v (sym same ∙ e)
      ran a v (inr m) e = begins k a v m.last_from _ f.condition m.last e

      stays : (a : ℕ) (v : WorkerId) → mark_of s (TaskOf (task_with g a)) ≡ Running v → StaysOrMoves (MayMove g s w k) (ActionOf a) (mark_of s (ActionOf a)) (mark_of (make_all s w cs) (ActionOf a)) → mark_of (make_all s w cs) (ActionOf a) ≡ Running v
          → StaysOrMoves (MayMove g s w k) (TaskOf (task_with g a)) (mark_of s (TaskOf (task_with g a))) (mark_of (make_all s w cs) (TaskOf (task_with g a))) → mark_of (make_all s w cs) (TaskOf (task_with g a)) ≡ Running v
      stays a v task moved e (inl still) = still ∙ task
      stays a v task (inl same) e (inr m) = absurd (no_task_ends k (task_with g a) a v _ m.first_to f.condition (sym same ∙ e) m.first task)
      stays a v task (inr n) e (inr m) = absurd (no_task_beside k (task_with g a) a v n.last_from _ _ m.first_to n.last e m.first)

      ended : (a : ℕ) → StaysOrMoves (MayMove g s w k) (ActionOf a) (mark_of s (ActionOf a)) (mark_of (make_all s w cs) (ActionOf a)) → mark_of (make_all s w cs) (ActionOf a) ≡ Skipped → IsEnded (mark_of (make_all s w cs) (TaskOf (task_with g a)))
      ended a (inl same) e = let before = old.skipped a (sym same ∙ e) in subst IsEnded (sym (final.kept (TaskOf (task_with g a)) before)) before
      ended a (inr m) e = skips k a m.last_from _ kind f (has_moved g s w k cs belongs kind f.list possible) m.last e

      failed : (a : ℕ) → StaysOrMoves (MayMove g s w k) (ActionOf a) (mark_of s (ActionOf a)) (mark_of (make_all s w cs) (ActionOf a)) → mark_of (make_all s w cs) (ActionOf a) ≡ Failed → ⊥
      failed a (inl same) e = old.never_fail a (sym same ∙ e)
      failed a (inr m) e = never_failed k a m.last_from _ m.last e

-- along a history
entry_under_tasks : (g : GraphView) (s : StateView) (w : WorkerId) (k : Kind) (o : Option (List Change)) → Fits g → BelongsTo g s → AreUnderTasks g s → IsKindOf g k → IfSome o (Finishes g s w k) → AreUnderTasks g (changed s w o)
entry_under_tasks g s w k None fits belongs old kind f = old
entry_under_tasks g s w k (Some cs) fits belongs old kind f = under_step g s w fits belongs old cs f.possible k kind f

goes_on : (g : GraphView) (h past : List Entry) (s : StateView) → Fits g → Holds g past s → lawful_from g s h → AreUnderTasks g s → AreUnderTasks g (replay_from s h)
goes_on g [] past s fits holds lawful old = old
goes_on g (e ∷ h) past s fits holds lawful old =
    goes_on g h (past ++ e ∷ []) (effect s e) fits (one_more g s e past (apart_of g fits) holds lawful.0) lawful.1
    (entry_under_tasks g s e.worker e.kind e.changes fits holds.kept.belongs old lawful.0.kind lawful.0.finished)

at_first : (g : GraphView) → AreUnderTasks g (opening_of g)
at_first g = record {
  running = λ a v runs. absurd (cc (all_wait (length g.actions) a, runs));
  skipped = λ a skipped. absurd (cc (all_wait (length g.actions) a, skipped));
  never_fail = λ a failed. absurd (cc (all_wait (length g.actions) a, failed));
}

pub under_tasks_after : (g : GraphView) (h : List Entry) → Fits g → Lawful g h → AreUnderTasks g (replay g h)
under_tasks_after g h fits lawful = goes_on g h [] (opening_of g) fits (holds_after g [] (apart_of g fits) tt) lawful (at_first g)

any_has : (p : ℕ → Bool) (x : ℕ) (xs : List ℕ) → Has x xs → p x ≡ true → list_any p xs ≡ true
any_has p x [] has holds = absurd has
any_has p x (y ∷ xs) (inl same) holds = ap (λ b. b || list_any p xs) (subst (λ z. p z ≡ true) same holds)
any_has p x (y ∷ xs) (inr later) holds = or_right (p y) (list_any p xs) (any_has p x xs later holds)

module _ (g : GraphView) (s : StateView) (w : WorkerId) (t : ℕ) (fits : Fits g) (kept : IsKept g s) (are : AreInStep g s) (under : AreUnderTasks g s) (task : mark_of s (TaskOf t) ≡ Running w)
    (alone : is_parked s w ≡ false) (none : (b : ℕ) → IsActionOf g t b → can_come g s b ≡ false) where
  apart_here : RangesApart g
  apart_here = apart_of g fits

  own : (b : ℕ) → IsActionOf g t b → task_with g b ≡ t
  own b ib = (apart_of g fits).one_task (task_with g b) t b ((apart_of g fits).own_task b ((apart_of g fits).action_within t b ib)) ib

  -- each action has passed or waits
  rests : (b : ℕ) (m : Mark) → IsActionOf g t b → mark_of s (ActionOf b) ≡ m → (m ≡ Passed) ⊎ (m ≡ Waiting)
  rests b Waiting ib is = inr refl
  rests b Queued ib is = absurd (false≢true (sym (none b ib) ∙ ap (λ m. same_mark m Queued || (same_mark m Waiting && earlier_passed g s b)) is))
  rests b (Running v) ib is =
      let same : Running v ≡ Running w = sym (under.running b v is) ∙ (ap (λ n. mark_of s (TaskOf n)) (own b ib) ∙ task) in
      absurd (false≢true (sym alone ∙ action_runs_by s w b (is ∙ same)))
  rests b Passed ib is = inl refl
  rests b Failed ib is = absurd (under.never_fail b is)
  rests b Skipped ib is = absurd (subst IsEnded (ap (λ n. mark_of s (TaskOf n)) (own b ib) ∙ task) (under.skipped b is))

  not_earlier : (b : ℕ) → IsActionOf g t b → mark_of s (ActionOf b) ≡ Waiting → earlier_passed g s b ≡ false
  not_earlier b ib is = sym (ap (λ m. same_mark m Queued || (same_mark m Waiting && earlier_passed g s b)) is) ∙ none b ib

  before : (a b : ℕ) → IsActionOf g t a → Has b (earlier_actions g a) → IsActionOf g t b × (b < a)
  before a b ia has =
      let inside : IsIn (task_of g (task_with g a)).first_action (a - (task_of g (task_with g a)).first_action) b =
      each_has (IsIn (task_of g (task_with g a)).first_action (a - (task_of g (task_with g a)).first_action)) b (earlier_actions g a)
      (each_in_range (IsIn (task_of g (task_with g a)).first_action (a - (task_of g (task_with g a)).first_action)) (task_of g (task_with g a)).first_action (a - (task_of g (task_with g a)).first_action) (λ n x. x)) has in
      let same : (task_of g (task_with g a)).first_action ≡ (task_of g t).first_action = ap (λ n. (task_of g n).first_action) (own a ia) in
      ((omega (arith, inside.0, inside.1, same), omega (arith, inside.0, inside.1, ia.0, ia.1, same)), omega (arith, inside.0, inside.1))

  sooner : (a b : ℕ) → b < a → EarlierFailed g s t b → EarlierFailed g s t a
  sooner a b lt e = (e.0, e.1, e.2, omega (arith, lt, e.3), e.4, e.5)

  -- a unit of an action that has passed, which hasn't passed itself, failed, or one before it did
  fallen : (a b u : ℕ) → IsActionOf g t b → b < a → IsUnitOf g b u → HasFallen (mark_of s (UnitOf u)) → EarlierFailed g s t a
  fallen a b u ib lt iu (inl failed) = (b, u, ib, lt, iu, failed)
  fallen a b u ib lt iu (inr skipped) = at (subst (UnitFact g s t b) skipped (kept.units t b u ib iu))
    where
      at : (mark_of s (TaskOf t) ≡ Skipped) ⊎ EarlierFailed g s t b → EarlierFailed g s t a
      at (inl gone) = absurd (cc (gone, task))
      at (inr e) = sooner a b lt e

  unpassed : (a b : ℕ) → IsActionOf g t b → b < a → mark_of s (ActionOf b) ≡ Passed → units_passed g s b ≡ false → EarlierFailed g s t a
  unpassed a b ib lt passed out =
      let found = list_all-false (λ u. has_passed (mark_of s (UnitOf u))) (units_of g b) out in
      let iu : IsUnitOf g b found.0 = each_has (IsUnitOf g b) found.0 (units_of g b) (each_unit (IsUnitOf g b) g b (λ u i. i)) found.1 in
      let ended = subst (ActionFact g s b) passed (kept.actions b) in
      fallen a b found.0 ib lt iu (ended_not_passed (mark_of s (UnitOf found.0)) (ended.each found.0 iu) found.2)

  -- behind an action that waits and can't come a unit failed
  failed_before : (n a : ℕ) → a < n → IsActionOf g t a → mark_of s (ActionOf a) ≡ Waiting → EarlierFailed g s t a
  failed_before zero a lt ia is = absurd (omega (arith, lt))
  failed_before (suc n) a lt ia is =
      let found = list_all-false (λ b. has_passed (mark_of s (ActionOf b)) && units_passed g s b) (earlier_actions g a) (not_earlier a ia is) in
      let place = before a found.0 ia found.1 in
      at found.0 place.0 place.1 found.2 (rests found.0 _ place.0 refl) (λ waits. failed_before n found.0 (omega (arith, lt, place.1)) place.0 waits)
    where
      at : (b : ℕ) → IsActionOf g t b → b < a → (has_passed (mark_of s (ActionOf b)) && units_passed g s b) ≡ false → (mark_of s (ActionOf b) ≡ Passed) ⊎ (mark_of s (ActionOf b) ≡ Waiting)
          → (mark_of s (ActionOf b) ≡ Waiting → EarlierFailed g s t b) → EarlierFailed g s t a
      at b ib less out (inl passed) rest = unpassed a b ib less passed (sym (ap (λ m. has_passed m && units_passed g s b) passed) ∙ out)
      at b ib less out (inr waits) rest = sooner a b less (rest waits)

  -- so it never ran
  units_wait : (a u : ℕ) (m : Mark) → IsActionOf g t a → mark_of s (ActionOf a) ≡ Waiting → EarlierFailed g s t a → IsUnitOf g a u → mark_of s (UnitOf u) ≡ m → same_mark m Waiting ≡ true
  units_wait a u Waiting ia is e iu at = refl
  units_wait a u Skipped ia is e iu at = absurd (are.units a u iu is at)
  units_wait a u Queued ia is e iu at = absurd (cc (sym ((subst (UnitFact g s t a) at (kept.units t a u ia iu)).each e.0 e.1 e.2 e.3 e.4) ∙ e.5))
  units_wait a u (Running v) ia is e iu at = absurd (cc (sym ((subst (UnitFact g s t a) at (kept.units t a u ia iu)).each e.0 e.1 e.2 e.3 e.4) ∙ e.5))
  units_wait a u Passed ia is e iu at = absurd (cc (sym ((subst (UnitFact g s t a) at (kept.units t a u ia iu)).each e.0 e.1 e.2 e.3 e.4) ∙ e.5))
  units_wait a u Failed ia is e iu at = absurd (cc (sym ((subst (UnitFact g s t a) at (kept.units t a u ia iu)).each e.0 e.1 e.2 e.3 e.4) ∙ e.5))

  never : (a : ℕ) → IsActionOf g t a → mark_of s (ActionOf a) ≡ Waiting → never_ran g s a ≡ true
  never a ia is =
      let e = failed_before (suc a) a (omega arith) ia is in
      let same : (task_of g t).first_action ≡ (task_of g (task_with g a)).first_action = sym (ap (λ n. (task_of g n).first_action) (own a ia)) in
      let earlier : Has e.0 (earlier_actions g a) = has_in_range (task_of g (task_with g a)).first_action (a - (task_of g (task_with g a)).first_action) e.0 (omega (arith, e.2.0, e.3, same), omega (arith, e.2.0, e.3, same)) in
      and_from _ _ (and_from _ _ (ap (λ m. same_mark m Waiting) is)
      (all_range (λ u. same_mark (mark_of s (UnitOf u)) Waiting) (action_of g a).first_unit (units_in (action_of g a)) (λ u low high. units_wait a u _ ia is e (unit_of_range (action_of g a) u (low, high)) refl)))
      (any_has (λ b. list_any (λ u. same_mark (mark_of s (UnitOf u)) Failed) (units_of g b)) e.0 (earlier_actions g a) earlier
      (any_has (λ u. same_mark (mark_of s (UnitOf u)) Failed) e.1 (units_of g e.0) (has_unit g e.0 e.1 e.4) (ap (λ m. same_mark m Failed) e.5)))

  pub is_through_here : is_through g s t ≡ true
  is_through_here = all_range (λ a. has_passed (mark_of s (ActionOf a)) || never_ran g s a) (task_of g t).first_action (task_of g t).actions (λ a low high. at a (low, high) (rests a _ (low, high) refl))
    where
      at : (a : ℕ) → IsActionOf g t a → (mark_of s (ActionOf a) ≡ Passed) ⊎ (mark_of s (ActionOf a) ≡ Waiting) → (has_passed (mark_of s (ActionOf a)) || never_ran g s a) ≡ true
      at a ia (inl passed) = ap (λ m. has_passed m || never_ran g s a) passed
      at a ia (inr waits) = or_right (has_passed (mark_of s (ActionOf a))) (never_ran g s a) (never a ia waits)
