-- What lawful histories keep of the units of a task: those of an action that waits, and a fetch that runs.
use Rattle.std.proofs.Common.{◌≡◌, ◌≢◌, ℕ, zero, suc, ◌+◌, ◌<◌, Bool, true, false, not, ◌&&◌, List, [], ◌∷◌, ◌++◌, length, get_or, Option, None, Some, inl, inr, refl, sym, ap, ◌∙◌, subst, arith}
use Rattle.std.specs.Prelude.{IfSome, ◌==◌, ◌≤◌, ◌||◌}
use Rattle.std.specs.List.{list_all, range_with_len}
use Rattle.std.proofs.lemmas.Bool.{and_from, and_parts, eq-eqb, eqb-true, false≢true, leb-true}
use Rattle.std.proofs.lemmas.List.Folds.{Any-from_list_any, list_any_at}
use Rattle.item_actions.specs.declared.outcomes.Outcome.{Outcome}
use Rattle.item_actions.specs.declared.outcomes.Outcome.TheVariants.{Number, Digest}
use Rattle.lock_journal.specs.Names.{can_all, make_all, same_mark, Fits, GraphView, action_of, opening_of, IsActionOf, IsFetchOf, IsItemOf, IsUnitOf}
use Rattle.lock_journal.specs.Names.{fetches, first_item, is_item, task_with, BelongsTo, StateView, mark_of, runs_by, runs_unit, Change, WorkerId}
use Rattle.lock_journal.specs.Names.{Mark, Waiting, Queued, Running, Passed, Failed, Skipped, MarkId, TaskOf, ActionOf, UnitOf, Finishes, IsKindOf}
use Rattle.lock_journal.specs.Names.{IsListOf, Lawful, lawful_from, Entry, changed, effect, replay, replay_from, condition, earlier_passed}
use Rattle.lock_journal.specs.Names.{fetch_closed, has_passed, list_of, mark_from, works_on, Kind, Start, Skip, Submit, Park, Resume, Claim, Close}
use Rattle.lock_journal.specs.Names.{Block, Unblock, End}
use Rattle.resource_lock.proofs.lemmas.Undo.{same_mark_is}
use Rattle.resource_lock.proofs.lemmas.Units.{is_item_from}
use Rattle.lock_journal.proofs.Finished.{HasMoved, has_moved}
use Rattle.lock_journal.proofs.Marks.{AllMoves-weaker, GoesTo, Names, StaysOrMoves, moves_to, stays_or_moves}
use Rattle.lock_journal.proofs.MarkConditions.{mark_condition}
use Rattle.lock_journal.proofs.Moves.{MayMove, list_moves}
use Rattle.lock_journal.proofs.Runs.{Holds, all_wait, holds_after, one_more}
use Rattle.lock_journal.proofs.lemmas.Fitting.{RangesApart, apart_of}
use Rattle.async_tracker.specs.Waits.{can_queue}
use Rattle.single_steps.specs.TaskMoves.{fetch_waits}

-- Items of an action that waits wait too, none of its units is skipped, and a fetch runs by the worker that runs its task.
pub record AreInStep (g : GraphView) (s : StateView) : Type 0 where
  pub items : (a u : ℕ) → IsItemOf g a u → mark_of s (ActionOf a) ≡ Waiting → mark_of s (UnitOf u) ≡ Waiting
  pub units : (a u : ℕ) → IsUnitOf g a u → mark_of s (ActionOf a) ≡ Waiting → mark_of s (UnitOf u) ≢ Skipped
  pub fetches : (a u : ℕ) (v : WorkerId) → IsFetchOf g a u → mark_of s (UnitOf u) ≡ Running v → mark_of s (TaskOf (task_with g a)) ≡ Running v

not_skipped : (o : Outcome) → mark_from o ≡ Skipped → ⊥
not_skipped (Number n) e = absurd (cc)
not_skipped (Digest d) e = absurd (cc)
not_skipped _ e = absurd (cc)

not_running : (o : Outcome) (v : WorkerId) → mark_from o ≡ Running v → ⊥
not_running (Number n) v e = absurd (cc)
not_running (Digest d) v e = absurd (cc)
not_running _ v e = absurd (cc)

no_fetch_is_item : (g : GraphView) (a u : ℕ) → IsFetchOf g a u → first_item (action_of g a) ≤ u → ⊥
no_fetch_is_item g a u fetch low = absurd (omega (arith, ap fetches fetch.0, fetch.1, low))

pub running_within : (ms : List Mark) (u : ℕ) (v : WorkerId) → get_or ms u Waiting ≡ Running v → u < length ms
running_within [] u v is = absurd (cc)
running_within (m ∷ ms) zero v is = omega arith
running_within (m ∷ ms) (suc u) v is = omega (arith, running_within ms u v is)

pub unit_runs_by : (s : StateView) (w : WorkerId) (u : ℕ) → mark_of s (UnitOf u) ≡ Running w → runs_unit s w ≡ true
unit_runs_by s w u is = list_any_at (runs_by w) s.units u Waiting (running_within s.units u w is) (ap (runs_by w) is ∙ eq-eqb w.0 w.0 refl)

-- no action goes back to waiting
never_back : (g : GraphView) (s : StateView) (w : WorkerId) (k : Kind) (a : ℕ) (from to : Mark) → MayMove g s w k (ActionOf a) from to → to ≡ Waiting → ⊥
never_back g s w (Skip t) a from to p e = absurd (cc (p.2, e))
never_back g s w (Submit b) a from to p e = absurd (cc (p.2, e))
never_back g s w (Park b) a from to p e = absurd (cc (p.2, e))
never_back g s w (Resume b) a from to p e = absurd (cc (p.2, e))
never_back g s w (Block (Some n)) a from to p e = absurd p
never_back g s w (Block None) a from to p e = absurd p
never_back g s w (Unblock (Some d)) a from to p e = absurd p
never_back g s w (Unblock None) a from to p e = absurd p
never_back g s w (End t) a from to p e = absurd (cc (p.2, e))
never_back g s w k a from to p e = absurd p

-- the action whose items are queued is queued
submitted : (g : GraphView) (s : StateView) (w : WorkerId) (b : ℕ) (cs : List Change) → BelongsTo g s → b < length g.actions → cs ≡ list_of g s w (Submit b) → can_all s w cs ≡ true → mark_of (make_all s w cs) (ActionOf b) ≡ Queued
submitted g s w b cs z within l h =
    moves_to (ActionOf b) Queued cs s w
    (AllMoves-weaker (MayMove g s w (Submit b)) (GoesTo (ActionOf b) Queued) (λ n from to p e. goes from to (subst (λ m. MayMove g s w (Submit b) m from to) e p)) cs (list_moves g s w (Submit b) cs l)) h
    (let e = z.actions in omega arith) (inr (subst (Names (ActionOf b)) (sym l) (inl refl)))
  where
    goes : (from to : Mark) → MayMove g s w (Submit b) (ActionOf b) from to → to ≡ Queued
    goes from to p = p.2

-- who may begin a fetch works on the task of its action
worked : (g : GraphView) (s : StateView) (w : WorkerId) (n : ℕ) → condition g s w (Block (Some n)) ≡ true → (b : ℕ) × IsFetchOf g b n × (works_on s w (task_with g b) ≡ true)
worked g s w n holds =
    let found = Any-from_list_any (λ b. (action_of g b).fetch && (action_of g b).first_unit == n && works_on s w (task_with g b) && same_mark (mark_of s (ActionOf b)) Waiting && same_mark (mark_of s (UnitOf n)) Waiting && earlier_passed g s b) (range_with_len 0 _) holds in
    let first = and_parts _ _ (and_parts _ _ (and_parts _ _ (and_parts _ _ found.4).0).0).0 in
    let fetch = and_parts _ _ first.0 in
    (found.1, (fetch.0, sym (eqb-true (action_of g found.1).first_unit n fetch.1)), first.1)

module _ (g : GraphView) (s : StateView) (w : WorkerId) (fits : Fits g) (belongs : BelongsTo g s) (old : AreInStep g s) (cs : List Change) (possible : can_all s w cs ≡ true) where
  apart : RangesApart g
  apart = apart_of g fits

  after : StateView
  after = make_all s w cs

  -- an action that waits afterwards was neither queued nor skipped
  no_item_leaves : (k : Kind) (a u : ℕ) (to : Mark) → IsKindOf g k → IsListOf g s w k cs → condition g s w k ≡ true → HasMoved g s w k (make_all s w cs) → IsItemOf g a u
      → mark_of (make_all s w cs) (ActionOf a) ≡ Waiting → MayMove g s w k (UnitOf u) Waiting to → ⊥
  no_item_leaves (Skip t) a u to kind list holds moved item waits p =
      let same = apart.one_action p.0.0 a u p.0.2 (inr item) in
      let ia : IsActionOf g t a = subst (IsActionOf g t) same p.0.1 in
      let skipped = moved.2 a ia (apart.action_within t a ia) in
      absurd (cc (skipped, waits))
  no_item_leaves (Submit b) a u to kind list holds moved item waits p =
      let same = apart.one_action b a u (inr p.0) (inr item) in
      let queued = subst (λ n. mark_of (make_all s w cs) (ActionOf n) ≡ Queued) same (submitted g s w b cs belongs kind list possible) in
      absurd (cc (queued, waits))
  no_item_leaves (Claim n) a u to kind list holds moved item waits p = absurd (cc (p.1))
  no_item_leaves (Close d) a u to kind list holds moved item waits p = absurd (cc (p.1))
  no_item_leaves (Block (Some n)) a u to kind list holds moved item waits p =
      let found = mark_condition g s w (Block (Some n)) apart holds in
      let fetch : IsFetchOf g found.0 u = (found.1.0, p.0 ∙ found.1.1) in
      let same = apart.one_action found.0 a u (inl fetch) (inr item) in
      no_fetch_is_item g a u (subst (λ b. IsFetchOf g b u) same fetch) item.0
  no_item_leaves (Block None) a u to kind list holds moved item waits p = absurd p
  no_item_leaves (Unblock (Some d)) a u to kind list holds moved item waits p = absurd (cc (p.1))
  no_item_leaves (Unblock None) a u to kind list holds moved item waits p = absurd p
  no_item_leaves (End t) a u to kind list holds moved item waits p =
      let same = apart.one_action p.0.0 a u p.0.3 (inr item) in
      let ia : IsActionOf g t a = subst (IsActionOf g t) same p.0.1 in
      let before : mark_of s (ActionOf a) ≡ Waiting = subst (λ n. mark_of s (ActionOf n) ≡ Waiting) same p.0.2 in
      let skipped = moved.1 a ia before (apart.action_within t a ia) in
      absurd (cc (skipped, waits))
  no_item_leaves k a u to kind list holds moved item waits p = absurd p

  no_unit_skipped : (k : Kind) (a u : ℕ) (from to : Mark) → HasMoved g s w k (make_all s w cs) → IsUnitOf g a u → mark_of (make_all s w cs) (ActionOf a) ≡ Waiting → MayMove g s w k (UnitOf u) from to → to ≡ Skipped → ⊥
  no_unit_skipped (Skip t) a u from to moved unit waits p e =
      let same = apart.one_action p.0.0 a u p.0.2 unit in
      let ia : IsActionOf g t a = subst (IsActionOf g t) same p.0.1 in
      let skipped = moved.2 a ia (apart.action_within t a ia) in
      absurd (cc (skipped, waits))
  no_unit_skipped (Submit b) a u from to moved unit waits p e = absurd (cc (p.2, e))
  no_unit_skipped (Claim n) a u from to moved unit waits p e = absurd (cc (p.2, e))
  no_unit_skipped (Close d) a u from to moved unit waits p e = not_skipped d.outcome (sym p.2 ∙ e)
  no_unit_skipped (Block (Some n)) a u from to moved unit waits p e = absurd (cc (p.2, e))
  no_unit_skipped (Block None) a u from to moved unit waits p e = absurd p
  no_unit_skipped (Unblock (Some d)) a u from to moved unit waits p e = not_skipped d.outcome (sym p.2 ∙ e)
  no_unit_skipped (Unblock None) a u from to moved unit waits p e = absurd p
  no_unit_skipped (End t) a u from to moved unit waits p e =
      let same = apart.one_action p.0.0 a u p.0.3 unit in
      let ia : IsActionOf g t a = subst (IsActionOf g t) same p.0.1 in
      let before : mark_of s (ActionOf a) ≡ Waiting = subst (λ n. mark_of s (ActionOf n) ≡ Waiting) same p.0.2 in
      let skipped = moved.1 a ia before (apart.action_within t a ia) in
      absurd (cc (skipped, waits))
  no_unit_skipped k a u from to moved unit waits p e = absurd p

  -- who runs a fetch doesn't end the task
  no_task_ends : (k : Kind) (t u : ℕ) (v : WorkerId) (from to : Mark) → condition g s w k ≡ true → mark_of s (UnitOf u) ≡ Running v → MayMove g s w k (TaskOf t) from to → from ≡ Running v → ⊥
  no_task_ends (Start r) t u v from to holds runs p e = absurd (cc (p.1, e))
  no_task_ends (Skip r) t u v from to holds runs p e = absurd (cc (p.1, e))
  no_task_ends (Block (Some n)) t u v from to holds runs p e = absurd p
  no_task_ends (Block None) t u v from to holds runs p e = absurd p
  no_task_ends (Unblock (Some d)) t u v from to holds runs p e = absurd p
  no_task_ends (Unblock None) t u v from to holds runs p e = absurd p
  no_task_ends (End r) t u v from to holds runs p e =
      let same : Running v ≡ Running w = sym e ∙ p.1 in
      let none : not (runs_unit s w) ≡ true = (and_parts _ _ (and_parts _ _ holds).0).1 in
      false≢true (ap not (sym (unit_runs_by s w u (runs ∙ same))) ∙ none)
  no_task_ends k t u v from to holds runs p e = absurd p

  -- who begins a fetch runs its task
  begins : (k : Kind) (a u : ℕ) (v : WorkerId) (from to : Mark) → condition g s w k ≡ true → IsFetchOf g a u → MayMove g s w k (UnitOf u) from to → to ≡ Running v → mark_of s (TaskOf (task_with g a)) ≡ Running v
  begins (Skip t) a u v from to holds fetch p e = absurd (cc (p.2, e))
  begins (Submit b) a u v from to holds fetch p e = absurd (cc (p.2, e))
  begins (Claim n) a u v from to holds fetch p e =
      let item : is_item g n ≡ true = (and_parts _ _ (and_parts _ _ (and_parts _ _ (and_parts _ _ (and_parts _ _ holds).0).0).0).0).0 in
      absurd (no_fetch_is_item g a u fetch (leb-true _ _ (is_item_from g a u fits (inl fetch) ∙ subst (λ x. is_item g x ≡ true) (sym p.0) item)))
  begins (Close d) a u v from to holds fetch p e = absurd (not_running d.outcome v (sym p.2 ∙ e))
  begins (Block (Some n)) a u v from to holds fetch p e =
      let found = worked g s w n holds in
      let own : IsFetchOf g found.0 u = (found.1.0, p.0 ∙ found.1.1) in
      let same = apart.one_action found.0 a u (inl own) (inl fetch) in
      let task : same_mark (mark_of s (TaskOf (task_with g found.0))) (Running w) ≡ true = (and_parts _ _ (and_parts _ _ found.2).0).0 in
      subst (λ b. mark_of s (TaskOf (task_with g b)) ≡ Running v) same (same_mark_is _ (Running w) task ∙ (sym p.2 ∙ e))
  begins (Block None) a u v from to holds fetch p e = absurd p
  begins (Unblock (Some d)) a u v from to holds fetch p e = absurd (not_running d.outcome v (sym p.2 ∙ e))
  begins (Unblock None) a u v from to holds fetch p e = absurd p
  begins (End t) a u v from to holds fetch p e = absurd (cc (p.2, e))
  begins k a u v from to holds fetch p e = absurd p

  -- nor does the entry that begins it move the task
  no_task_beside : (k : Kind) (t u : ℕ) (v : WorkerId) (from to from' to' : Mark) → MayMove g s w k (UnitOf u) from to → to ≡ Running v → MayMove g s w k (TaskOf t) from' to' → ⊥
  no_task_beside (Start r) t u v from to from' to' p e q = absurd p
  no_task_beside (Skip r) t u v from to from' to' p e q = absurd (cc (p.2, e))
  no_task_beside (Block (Some n)) t u v from to from' to' p e q = absurd q
  no_task_beside (Block None) t u v from to from' to' p e q = absurd q
  no_task_beside (Unblock (Some d)) t u v from to from' to' p e q = absurd q
  no_task_beside (Unblock None) t u v from to from' to' p e q = absurd q
  no_task_beside (End r) t u v from to from' to' p e q = absurd (cc (p.2, e))
  no_task_beside k t u v from to from' to' p e q = absurd q

  in_step : (k : Kind) → IsKindOf g k → Finishes g s w k cs → AreInStep g (make_all s w cs)
  in_step k kind f = record {
    items = λ a u i e. item a u i e (moves (UnitOf u)) (old.items a u i (waited a (moves (ActionOf a)) e));
    units = λ a u i e. unit a u i e (moves (UnitOf u)) (old.units a u i (waited a (moves (ActionOf a)) e));
    fetches = λ a u v i e. stays a u v (ran a u v i (moves (UnitOf u)) e) (moves (UnitOf u)) e (moves (TaskOf (task_with g a)));
  }
    where
      moves : (m : MarkId) → StaysOrMoves (MayMove g s w k) m (mark_of s m) (mark_of (make_all s w cs) m)
      moves = stays_or_moves (MayMove g s w k) cs s w (list_moves g s w k cs f.list) possible

      has : HasMoved g s w k (make_all s w cs)
      has = has_moved g s w k cs belongs kind f.list possible

      waited : (a : ℕ) → StaysOrMoves (MayMove g s w k) (ActionOf a) (mark_of s (ActionOf a)) (mark_of (make_all s w cs) (ActionOf a)) → mark_of (make_all s w cs) (ActionOf a) ≡ Waiting → mark_of s (ActionOf a) ≡ Waiting
      waited a (inl same) e = sym same ∙ e
      waited a (inr m) e = absurd (never_back g s w k a m.last_from _ m.last e)

      item : (a u : ℕ) → IsItemOf g a u → mark_of (make_all s w cs) (ActionOf a) ≡ Waiting → StaysOrMoves (MayMove g s w k) (UnitOf u) (mark_of s (UnitOf u)) (mark_of (make_all s w cs) (UnitOf u)) → mark_of s (UnitOf u) ≡ Waiting → mark_of (make_all s w cs) (UnitOf u) ≡ Waiting
      item a u i e (inl same) before = same ∙ before
      item a u i e (inr m) before = absurd (no_item_leaves k a u m.first_to kind f.list f.condition has i e (subst (λ x. MayMove g s w k (UnitOf u) x m.first_to) before m.first))

      unit : (a u : ℕ) → IsUnitOf g a u → mark_of (make_all s w cs) (ActionOf a) ≡ Waiting → StaysOrMoves (MayMove g s w k) (UnitOf u) (mark_of s (UnitOf u)) (mark_of (make_all s w cs) (UnitOf u)) → mark_of s (UnitOf u) ≢ Skipped → mark_of (make_all s w cs) (UnitOf u) ≢ Skipped
      unit a u i e (inl same) before skipped = before (sym same ∙ skipped)
      unit a u i e (inr m) before skipped = no_unit_skipped k a u m.last_from _ has i e m.last skipped

      ran : (a u : ℕ) (v : WorkerId) → IsFetchOf g a u → StaysOrMoves (MayMove g s w k) (UnitOf u) (mark_of s (UnitOf u)) (mark_of (make_all s w cs) (UnitOf u)) → mark_of (make_all s w cs) (UnitOf u) ≡ Running v → mark_of s (TaskOf (task_with g a)) ≡ Running v
      ran a u v i (inl same) e = old.fetches a u v i (sym same ∙ e)
      ran a u v i (inr m) e = begins k a u v m.last_from _ f.condition i m.last e

      stays : (a u : ℕ) (v : WorkerId) → mark_of s (TaskOf (task_with g a)) ≡ Running v → StaysOrMoves (MayMove g s w k) (UnitOf u) (mark_of s (UnitOf u)) (mark_of (make_all s w cs) (UnitOf u)) → mark_of (make_all s w cs) (UnitOf u) ≡ Running v
          → StaysOrMoves (MayMove g s w k) (TaskOf (task_with g a)) (mark_of s (TaskOf (task_with g a))) (mark_of (make_all s w cs) (TaskOf (task_with g a))) → mark_of (make_all s w cs) (TaskOf (task_with g a)) ≡ Running v
      stays a u v task moved e (inl still) = still ∙ task
      stays a u v task (inl same) e (inr m) = absurd (no_task_ends k (task_with g a) u v _ m.first_to f.condition (sym same ∙ e) m.first task)
      stays a u v task (inr n) e (inr m) = absurd (no_task_beside k (task_with g a) u v n.last_from _ _ m.first_to n.last e m.first)

-- along a history
entry_in_step : (g : GraphView) (s : StateView) (w : WorkerId) (k : Kind) (o : Option (List Change)) → Fits g → BelongsTo g s → AreInStep g s → IsKindOf g k → IfSome o (Finishes g s w k) → AreInStep g (changed s w o)
entry_in_step g s w k None fits belongs old kind f = old
entry_in_step g s w k (Some cs) fits belongs old kind f = in_step g s w fits belongs old cs f.possible k kind f

goes_on : (g : GraphView) (h past : List Entry) (s : StateView) → Fits g → Holds g past s → lawful_from g s h → AreInStep g s → AreInStep g (replay_from s h)
goes_on g [] past s fits holds lawful old = old
goes_on g (e ∷ h) past s fits holds lawful old =
    goes_on g h (past ++ e ∷ []) (effect s e) fits (one_more g s e past (apart_of g fits) holds lawful.0) lawful.1
    (entry_in_step g s e.worker e.kind e.changes fits holds.kept.belongs old lawful.0.kind lawful.0.finished)

at_first : (g : GraphView) → AreInStep g (opening_of g)
at_first g = record {
  items = λ a u i e. all_wait g.units u;
  units = λ a u i e skipped. absurd (cc (all_wait g.units u, skipped));
  fetches = λ a u v i runs. absurd (cc (all_wait g.units u, runs));
}

pub in_step_after : (g : GraphView) (h : List Entry) → Fits g → Lawful g h → AreInStep g (replay g h)
in_step_after g h fits lawful = goes_on g h [] (opening_of g) fits (holds_after g [] (apart_of g fits) tt) lawful (at_first g)

-- The items of an action that waits can be queued by the worker of its task, where all before them has passed and the fetch doesn't wait.
pub all_range : (p : ℕ → Bool) (first n : ℕ) → ((u : ℕ) → first ≤ u → u < first + n → p u ≡ true) → list_all p (range_with_len first n) ≡ true
all_range p first zero each = refl
all_range p first (suc n) each = and_from (p first) _ (each first (omega arith) (omega arith)) (all_range p (first + 1) n (λ u low high. each u (omega (arith, low)) (omega (arith, high))))

is_done : (m : Mark) → same_mark m Waiting ≡ false → (m ≡ Queued → ⊥) → ((v : WorkerId) → m ≡ Running v → ⊥) → (m ≡ Skipped → ⊥) → (has_passed m || same_mark m Failed) ≡ true
is_done Waiting waits queued runs skipped = absurd (false≢true (sym waits))
is_done Queued waits queued runs skipped = absurd (queued refl)
is_done (Running v) waits queued runs skipped = absurd (runs v refl)
is_done Passed waits queued runs skipped = refl
is_done Failed waits queued runs skipped = refl
is_done Skipped waits queued runs skipped = absurd (skipped refl)

closed_if : (fetch : Bool) (m : Mark) → (fetch ≡ true → (has_passed m || same_mark m Failed) ≡ true) → (not fetch || has_passed m || same_mark m Failed) ≡ true
closed_if true m done = done refl
closed_if false m done = refl

module _ (g : GraphView) (s : StateView) (w : WorkerId) (fits : Fits g) (are : AreInStep g s) (items : (u : ℕ) → mark_of s (UnitOf u) ≡ Queued → is_item g u ≡ true) where
  closed_fetch : (a : ℕ) → mark_of s (TaskOf (task_with g a)) ≡ Running w → runs_unit s w ≡ false → mark_of s (ActionOf a) ≡ Waiting → fetch_waits g s a ≡ false → fetch_closed g s a ≡ true
  closed_fetch a task none waits fetched = closed_if (action_of g a).fetch (mark_of s (UnitOf (action_of g a).first_unit)) (λ fetch.
      is_done (mark_of s (UnitOf (action_of g a).first_unit))
      (sym (ap (λ b. b && same_mark (mark_of s (UnitOf (action_of g a).first_unit)) Waiting) fetch) ∙ fetched)
      (λ queued. no_fetch_is_item g a (action_of g a).first_unit (fetch, refl) (leb-true _ _ (is_item_from g a (action_of g a).first_unit fits (inl (fetch, refl)) ∙ items (action_of g a).first_unit queued)))
      (λ v runs. false≢true (sym none ∙ unit_runs_by s w (action_of g a).first_unit (runs ∙ (sym (are.fetches a (action_of g a).first_unit v (fetch, refl) runs) ∙ task))))
      (are.units a (action_of g a).first_unit (inl (fetch, refl)) waits))

  pub queues_next : (a : ℕ) → mark_of s (TaskOf (task_with g a)) ≡ Running w → runs_unit s w ≡ false → mark_of s (ActionOf a) ≡ Waiting → earlier_passed g s a ≡ true → fetch_waits g s a ≡ false → can_queue g s a ≡ true
  queues_next a task none waits earlier fetched =
      and_from _ _ (and_from _ _ (and_from _ _ (ap (λ m. same_mark m Waiting) waits) earlier) (closed_fetch a task none waits fetched))
      (all_range (λ u. same_mark (mark_of s (UnitOf u)) Waiting) (first_item (action_of g a)) (action_of g a).items (λ u low high. ap (λ m. same_mark m Waiting) (are.items a u (low, high) waits)))
