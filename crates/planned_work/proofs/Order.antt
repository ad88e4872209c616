-- What lawful histories keep of tasks that wait, and of the order of a task's actions.
use Rattle.std.proofs.Common.{◌≡◌, ℕ, ◌<◌, Bool, true, false, cond, List, [], ◌∷◌, ◌++◌, length, Option, None, Some, inl, inr, sym, ◌∙◌, subst}
use Rattle.std.specs.Prelude.{IfSome}
use Rattle.std.specs.List.{list_all}
use Rattle.std.proofs.lemmas.Bool.{and_parts}
use Rattle.lock_journal.specs.Names.{make_all, Fits, GraphView, opening_of, IsActionOf, IsUnitOf, actions_of, task_with, BelongsTo, StateView}
use Rattle.lock_journal.specs.Names.{mark_of, Change, WorkerId, Mark, Waiting, Queued, Running, Passed, Failed, Skipped, TaskOf, ActionOf, UnitOf}
use Rattle.lock_journal.specs.Names.{Finishes, IsKindOf, Lawful, lawful_from, Entry, changed, effect, replay, replay_from, condition, units_passed}
use Rattle.lock_journal.specs.Names.{Kind, Start, Skip, Submit, Park, Resume, Claim, Close, Block, Unblock, End}
use Rattle.lock_journal.proofs.Finished.{final_by, has_moved}
use Rattle.lock_journal.proofs.Kept.{mark_stays}
use Rattle.lock_journal.proofs.MarkConditions.{mark_condition}
use Rattle.lock_journal.proofs.Marks.{Moved, StaysOrMoves}
use Rattle.lock_journal.proofs.Moves.{MayMove}
use Rattle.lock_journal.proofs.Runs.{all_wait}
use Rattle.lock_journal.proofs.lemmas.Fitting.{RangesApart, apart_of}
use Rattle.lock_journal.proofs.lemmas.Growing.{lawful-push, replay-push}
use Rattle.lock_journal.proofs.lemmas.Named.{belongs as belongs_to}
use Rattle.planned_work.proofs.Begun.{moved, works, works_to_fetch}

-- the action was queued
abbrev pub HasCome : Mark → Type 0
HasCome Queued = Unit {0}
HasCome (Running w) = Unit {0}
HasCome Passed = Unit {0}
HasCome _ = ⊥

-- Where a task waits its actions wait, and their units. Behind an action that was queued each earlier one of the task has passed.
pub record AreInOrder (g : GraphView) (s : StateView) : Type 0 where
  pub actions : (t a : ℕ) → IsActionOf g t a → mark_of s (TaskOf t) ≡ Waiting → mark_of s (ActionOf a) ≡ Waiting
  pub units : (t a u : ℕ) → IsActionOf g t a → IsUnitOf g a u → mark_of s (TaskOf t) ≡ Waiting → mark_of s (UnitOf u) ≡ Waiting
  pub earlier : (t a b : ℕ) → IsActionOf g t a → IsActionOf g t b → b < a → HasCome (mark_of s (ActionOf a)) → mark_of s (ActionOf b) ≡ Passed

ends_waiting : (b : Bool) → cond b Passed Failed ≡ Waiting → ⊥
ends_waiting true e = absurd (cc)
ends_waiting false e = absurd (cc)

-- no task goes back to waiting
never_back : (g : GraphView) (s : StateView) (w : WorkerId) (k : Kind) (t : ℕ) (from to : Mark) → MayMove g s w k (TaskOf t) from to → to ≡ Waiting → ⊥
never_back g s w (Start x) t from to p is = absurd (cc (p.2, is))
never_back g s w (Skip x) t from to p is = absurd (cc (p.2, is))
never_back g s w (Block (Some x)) t from to p is = absurd p
never_back g s w (Block None) t from to p is = absurd p
never_back g s w (Unblock (Some d)) t from to p is = absurd p
never_back g s w (Unblock None) t from to p is = absurd p
never_back g s w (End x) t from to p is = ends_waiting (list_all (units_passed g s) (actions_of g x)) (sym p.2 ∙ is)
never_back g s w k t from to p is = absurd p

module _ (g : GraphView) (s : StateView) (w : WorkerId) (apart : RangesApart g) (belongs : BelongsTo g s) (old : AreInOrder g s) (cs : List Change) where
  task_waited : (k : Kind) (f : Finishes g s w k cs) (t : ℕ) → mark_of (make_all s w cs) (TaskOf t) ≡ Waiting → mark_of s (TaskOf t) ≡ Waiting
  task_waited k f t waits = at (moved g s w k cs f (TaskOf t))
    where
      at : StaysOrMoves (MayMove g s w k) (TaskOf t) (mark_of s (TaskOf t)) (mark_of (make_all s w cs) (TaskOf t)) → mark_of s (TaskOf t) ≡ Waiting
      at (inl same) = sym same ∙ waits
      at (inr move) = absurd (never_back g s w k t move.last_from _ move.last waits)

  -- the task of an entry that skips it, or whose worker runs it, doesn't wait afterwards
  not_skipped : (x t a : ℕ) (f : Finishes g s w (Skip x) cs) → IsKindOf g (Skip x) → IsActionOf g x a → IsActionOf g t a → mark_of (make_all s w cs) (TaskOf t) ≡ Waiting → ⊥
  not_skipped x t a f kind here ia waits =
      let skipped : mark_of (make_all s w cs) (TaskOf x) ≡ Skipped = (has_moved g s w (Skip x) cs belongs kind f.list f.possible).0 in
      let there : mark_of (make_all s w cs) (TaskOf t) ≡ Skipped = subst (λ n. mark_of (make_all s w cs) (TaskOf n) ≡ Skipped) (apart.one_task x t a here ia) skipped in
      absurd (cc (there, waits))

  not_worked : (b t : ℕ) → mark_of s (TaskOf (task_with g b)) ≡ Running w → IsActionOf g t b → mark_of s (TaskOf t) ≡ Waiting → ⊥
  not_worked b t runs ib waits =
      let there : mark_of s (TaskOf t) ≡ Running w = subst (λ n. mark_of s (TaskOf n) ≡ Running w) (apart.one_task (task_with g b) t b (apart.own_task b (apart.action_within t b ib)) ib) runs in
      absurd (cc (there, waits))

  not_over : (x t a : ℕ) (f : Finishes g s w (End x) cs) → IsActionOf g x a → IsActionOf g t a → mark_of s (TaskOf t) ≡ Waiting → ⊥
  not_over x t a f here ia waits =
      let runs : mark_of s (TaskOf x) ≡ Running w = (mark_condition g s w (End x) apart f.condition).0 in
      let there : mark_of s (TaskOf t) ≡ Running w = subst (λ n. mark_of s (TaskOf n) ≡ Running w) (apart.one_task x t a here ia) runs in
      absurd (cc (there, waits))

  no_action_moves : (k : Kind) (f : Finishes g s w k cs) → IsKindOf g k → (t a : ℕ) (to : Mark) → IsActionOf g t a → mark_of (make_all s w cs) (TaskOf t) ≡ Waiting → mark_of s (TaskOf t) ≡ Waiting → MayMove g s w k (ActionOf a) Waiting to → ⊥
  no_action_moves (Skip x) f kind t a to ia after was p = not_skipped x t a f kind p.0 ia after
  no_action_moves (Submit b) f kind t a to ia after was p =
      let at = works s w (task_with g b) (and_parts _ _ (and_parts _ _ (and_parts _ _ f.condition).0).0).0 in
      not_worked b t at.task (subst (IsActionOf g t) p.0 ia) was
  no_action_moves (Park b) f kind t a to ia after was p = absurd (cc (p.1))
  no_action_moves (Resume b) f kind t a to ia after was p = absurd (cc (p.1))
  no_action_moves (Block (Some x)) f kind t a to ia after was p = absurd p
  no_action_moves (Block None) f kind t a to ia after was p = absurd p
  no_action_moves (Unblock (Some d)) f kind t a to ia after was p = absurd p
  no_action_moves (Unblock None) f kind t a to ia after was p = absurd p
  no_action_moves (End x) f kind t a to ia after was p = not_over x t a f p.0.0 ia was
  no_action_moves k f kind t a to ia after was p = absurd p

  no_unit_moves : (k : Kind) (f : Finishes g s w k cs) → IsKindOf g k → (t a u : ℕ) (to : Mark) → IsActionOf g t a → IsUnitOf g a u → mark_of (make_all s w cs) (TaskOf t) ≡ Waiting → mark_of s (TaskOf t) ≡ Waiting → MayMove g s w k (UnitOf u) Waiting to → ⊥
  no_unit_moves (Skip x) f kind t a u to ia iu after was p = not_skipped x t a f kind (subst (IsActionOf g x) (apart.one_action p.0.0 a u p.0.2 iu) p.0.1) ia after
  no_unit_moves (Submit b) f kind t a u to ia iu after was p =
      let at = works s w (task_with g b) (and_parts _ _ (and_parts _ _ (and_parts _ _ f.condition).0).0).0 in
      not_worked b t at.task (subst (IsActionOf g t) (sym (apart.one_action b a u (inr p.0) iu)) ia) was
  no_unit_moves (Claim x) f kind t a u to ia iu after was p = absurd (cc (p.1))
  no_unit_moves (Close d) f kind t a u to ia iu after was p = absurd (cc (p.1))
  no_unit_moves (Block (Some x)) f kind t a u to ia iu after was p =
      let at = works_to_fetch g s w x f.condition in
      not_worked at.0 t at.2.task (subst (IsActionOf g t) (sym (apart.one_action at.0 a u (inl (at.1.0, p.0 ∙ at.1.1)) iu)) ia) was
  no_unit_moves (Block None) f kind t a u to ia iu after was p = absurd p
  no_unit_moves (Unblock (Some d)) f kind t a u to ia iu after was p = absurd (cc (p.1))
  no_unit_moves (Unblock None) f kind t a u to ia iu after was p = absurd p
  no_unit_moves (End x) f kind t a u to ia iu after was p = not_over x t a f (subst (IsActionOf g x) (apart.one_action p.0.0 a u p.0.3 iu) p.0.1) ia was
  no_unit_moves k f kind t a u to ia iu after was p = absurd p

  -- an action that was queued comes from one, or the entry queues it
  came_before : (k : Kind) (f : Finishes g s w k cs) → IsKindOf g k → (t a b : ℕ) → IsActionOf g t a → IsActionOf g t b → b < a → HasCome (mark_of (make_all s w cs) (ActionOf a))
      → Moved (MayMove g s w k) (ActionOf a) (mark_of s (ActionOf a)) (mark_of (make_all s w cs) (ActionOf a)) → mark_of s (ActionOf b) ≡ Passed
  came_before (Skip x) f kind t a b ia ib lt came move = absurd (subst HasCome move.last.2 came)
  came_before (Submit x) f kind t a b ia ib lt came move =
      let here : IsActionOf g t x = subst (IsActionOf g t) move.last.0 ia in
      let same : t ≡ task_with g x = apart.one_task t (task_with g x) x here (apart.own_task x kind) in
      ((mark_condition g s w (Submit x) apart f.condition).0 b (subst (λ n. IsActionOf g n b) same ib) (subst (λ n. b < n) move.last.0 lt)).0
  came_before (Park x) f kind t a b ia ib lt came move = old.earlier t a b ia ib lt (subst HasCome (sym move.first.1) tt)
  came_before (Resume x) f kind t a b ia ib lt came move = old.earlier t a b ia ib lt (subst HasCome (sym move.first.1) tt)
  came_before (Block (Some x)) f kind t a b ia ib lt came move = absurd move.last
  came_before (Block None) f kind t a b ia ib lt came move = absurd move.last
  came_before (Unblock (Some d)) f kind t a b ia ib lt came move = absurd move.last
  came_before (Unblock None) f kind t a b ia ib lt came move = absurd move.last
  came_before (End x) f kind t a b ia ib lt came move = absurd (subst HasCome move.last.2 came)
  came_before k f kind t a b ia ib lt came move = absurd move.last

  in_order : (k : Kind) → Finishes g s w k cs → IsKindOf g k → AreInOrder g (make_all s w cs)
  in_order k f kind = record {
    actions = λ t a ia waits. action t a ia waits (task_waited k f t waits) (moved g s w k cs f (ActionOf a));
    units = λ t a u ia iu waits. unit t a u ia iu waits (task_waited k f t waits) (moved g s w k cs f (UnitOf u));
    earlier = λ t a b ia ib lt came. mark_stays s (make_all s w cs) (final_by g s w k cs f.list f.possible) (ActionOf b) Passed tt (before t a b ia ib lt came (moved g s w k cs f (ActionOf a)));
  }
    where
      action : (t a : ℕ) → IsActionOf g t a → mark_of (make_all s w cs) (TaskOf t) ≡ Waiting → mark_of s (TaskOf t) ≡ Waiting → StaysOrMoves (MayMove g s w k) (ActionOf a) (mark_of s (ActionOf a)) (mark_of (make_all s w cs) (ActionOf a)) → mark_of (make_all s w cs) (ActionOf a) ≡ Waiting
      action t a ia waits was (inl same) = same ∙ old.actions t a ia was
      action t a ia waits was (inr move) = absurd (no_action_moves k f kind t a move.first_to ia waits was (subst (λ m. MayMove g s w k (ActionOf a) m move.first_to) (old.actions t a ia was) move.first))

      unit : (t a u : ℕ) → IsActionOf g t a → IsUnitOf g a u → mark_of (make_all s w cs) (TaskOf t) ≡ Waiting → mark_of s (TaskOf t) ≡ Waiting → StaysOrMoves (MayMove g s w k) (UnitOf u) (mark_of s (UnitOf u)) (mark_of (make_all s w cs) (UnitOf u)) → mark_of (make_all s w cs) (UnitOf u) ≡ Waiting
      unit t a u ia iu waits was (inl same) = same ∙ old.units t a u ia iu was
      unit t a u ia iu waits was (inr move) = absurd (no_unit_moves k f kind t a u move.first_to ia iu waits was (subst (λ m. MayMove g s w k (UnitOf u) m move.first_to) (old.units t a u ia iu was) move.first))

      before : (t a b : ℕ) → IsActionOf g t a → IsActionOf g t b → b < a → HasCome (mark_of (make_all s w cs) (ActionOf a)) → StaysOrMoves (MayMove g s w k) (ActionOf a) (mark_of s (ActionOf a)) (mark_of (make_all s w cs) (ActionOf a)) → mark_of s (ActionOf b) ≡ Passed
      before t a b ia ib lt came (inl same) = old.earlier t a b ia ib lt (subst HasCome same came)
      before t a b ia ib lt came (inr move) = came_before k f kind t a b ia ib lt came move

-- along a history
entry_in_order : (g : GraphView) (s : StateView) (w : WorkerId) (k : Kind) (o : Option (List Change)) → RangesApart g → BelongsTo g s → AreInOrder g s → IsKindOf g k → IfSome o (Finishes g s w k) → AreInOrder g (changed s w o)
entry_in_order g s w k None apart belongs old kind f = old
entry_in_order g s w k (Some cs) apart belongs old kind f = in_order g s w apart belongs old cs k f kind

goes_on : (g : GraphView) (h past : List Entry) → RangesApart g → Lawful g past → lawful_from g (replay g past) h → AreInOrder g (replay g past) → AreInOrder g (replay_from (replay g past) h)
goes_on g [] past apart front lawful old = old
goes_on g (e ∷ h) past apart front lawful old =
    let now : replay g (past ++ e ∷ []) ≡ effect (replay g past) e = replay-push g past e in
    subst (λ (s : StateView). AreInOrder g (replay_from s h)) now
    (goes_on g h (past ++ e ∷ []) apart (lawful-push g past e front lawful.0) (subst (λ (s : StateView). lawful_from g s h) (sym now) lawful.1)
    (subst (AreInOrder g) (sym now) (entry_in_order g (replay g past) e.worker e.kind e.changes apart (belongs_to g past front) old lawful.0.kind lawful.0.finished)))

at_first : (g : GraphView) → AreInOrder g (opening_of g)
at_first g = record {
  actions = λ t a ia waits. all_wait (length g.actions) a;
  units = λ t a u ia iu waits. all_wait g.units u;
  earlier = λ t a b ia ib lt came. absurd (subst HasCome (all_wait (length g.actions) a) came);
}

pub order_after : (g : GraphView) (h : List Entry) → Fits g → Lawful g h → AreInOrder g (replay g h)
order_after g h fits lawful = goes_on g h [] (apart_of g fits) tt lawful (at_first g)
