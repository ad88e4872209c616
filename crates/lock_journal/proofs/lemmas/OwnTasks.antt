-- What stands under a task that a worker runs is moved by that worker's entries alone.
use Rattle.std.proofs.Common.{◌≡◌, ◌≢◌, ℕ, true, List, [], ◌∷◌, ◌++◌, Option, None, Some, inl, inr, refl, sym, ap, ◌∙◌, subst}
use Rattle.std.specs.Prelude.{IfSome, ◌&&◌, ◌==◌}
use Rattle.std.specs.List.{range_with_len}
use Rattle.std.proofs.lemmas.Bool.{and_parts, eq-eqb, eqb-true}
use Rattle.std.proofs.lemmas.List.Folds.{Any-from_list_any}
use Rattle.lock_journal.specs.Names.{same_mark, Fits, GraphView, action_of, opening_of, IsActionOf, IsFetchOf, IsUnitOf, task_with, StateView}
use Rattle.lock_journal.specs.Names.{mark_of, runs_by, Change, WorkerId, Mark, Waiting, Running, MarkId, TaskOf, ActionOf, UnitOf, Finishes}
use Rattle.lock_journal.specs.Names.{lawful_from, Lawful, Entry, changed, effect, replay_from, replay, condition, earlier_passed, works_on, Kind}
use Rattle.lock_journal.specs.Names.{Skip, Submit, Park, Resume, Claim, Close, Block, Unblock, End, NoneOf}
use Rattle.resource_lock.proofs.lemmas.Undo.{same_mark_is}
use Rattle.lock_journal.proofs.lemmas.Fitting.{RangesApart, apart_of}
use Rattle.lock_journal.proofs.lemmas.Replays.{lawful_from-append, replay_from-append}
use Rattle.lock_journal.proofs.MarkConditions.{mark_condition}
use Rattle.lock_journal.proofs.Marks.{StaysOrMoves, stays_or_moves}
use Rattle.lock_journal.proofs.Moves.{MayMove, list_moves}
use Rattle.lock_journal.proofs.lemmas.Others.{others_after}

-- who works on a task runs it, and no two workers do
runs_of : (s : StateView) (v : WorkerId) (t : ℕ) → works_on s v t ≡ true → mark_of s (TaskOf t) ≡ Running v
runs_of s v t h = same_mark_is (mark_of s (TaskOf t)) (Running v) (and_parts _ _ (and_parts _ _ h).0).0

one_runner : (m : Mark) (v w : WorkerId) → v.0 ≢ w.0 → m ≡ Running v → m ≡ Running w → ⊥
one_runner m v w other first second =
    let same : runs_by w (Running v) ≡ true = ap (runs_by w) (sym first ∙ second) ∙ eq-eqb w.0 w.0 refl in
    other (eqb-true v.0 w.0 same)

module _ (g : GraphView) (s : StateView) (v w : WorkerId) (t : ℕ) (apart : RangesApart g) (other : v.0 ≢ w.0) (task : mark_of s (TaskOf t) ≡ Running w) where
  not_worked : (a b : ℕ) → IsActionOf g t a → b ≡ a → works_on s v (task_with g b) ≡ true → ⊥
  not_worked a b ia same h =
      let own : task_with g a ≡ t = apart.one_task (action_of g a).task t a (apart.own_task a (apart.action_within t a ia)) ia in
      let mine : works_on s v (task_with g a) ≡ true = subst (λ n. works_on s v (task_with g n) ≡ true) same h in
      one_runner (mark_of s (TaskOf t)) v w other (subst (λ n. mark_of s (TaskOf n) ≡ Running v) own (runs_of s v (task_with g a) mine)) task

  not_waiting : (r : ℕ) → r ≡ t → mark_of s (TaskOf r) ≡ Waiting → ⊥
  not_waiting r same waits = let here : mark_of s (TaskOf t) ≡ Waiting = subst (λ n. mark_of s (TaskOf n) ≡ Waiting) same waits in absurd (cc)

  not_run : (r : ℕ) → r ≡ t → mark_of s (TaskOf r) ≡ Running v → ⊥
  not_run r same runs = one_runner (mark_of s (TaskOf t)) v w other (subst (λ n. mark_of s (TaskOf n) ≡ Running v) same runs) task

  -- another worker moves no action of the task, but maybe one that runs
  no_action_moves : (k : Kind) (a : ℕ) (from to : Mark) → condition g s v k ≡ true → IsActionOf g t a → ((x : WorkerId) → from ≢ Running x) → MayMove g s v k (ActionOf a) from to → ⊥
  no_action_moves (Skip r) a from to h ia still p = not_waiting r (apart.one_task r t a p.0 ia) (mark_condition g s v (Skip r) apart h).0
  no_action_moves (Submit b) a from to h ia still p = not_worked a b ia (sym p.0) (and_parts _ _ (and_parts _ _ (and_parts _ _ h).0).0).0
  no_action_moves (Park b) a from to h ia still p = not_worked a b ia (sym p.0) (and_parts _ _ h).0
  no_action_moves (Resume b) a from to h ia still p = still v p.1
  no_action_moves (End r) a from to h ia still p = not_run r (apart.one_task r t a p.0.0 ia) (mark_condition g s v (End r) apart h).0
  no_action_moves (Block (Some n)) a from to h ia still p = absurd p
  no_action_moves (Block None) a from to h ia still p = absurd p
  no_action_moves (Unblock (Some d)) a from to h ia still p = absurd p
  no_action_moves (Unblock None) a from to h ia still p = absurd p
  no_action_moves _ a from to h ia still p = absurd p

  -- nor a unit of it that waits
  no_unit_moves : (k : Kind) (a u : ℕ) (to : Mark) → condition g s v k ≡ true → IsActionOf g t a → IsUnitOf g a u → MayMove g s v k (UnitOf u) Waiting to → ⊥
  no_unit_moves (Skip r) a u to h ia iu p =
      not_waiting r (apart.one_task r t a (subst (IsActionOf g r) (apart.one_action p.0.0 a u p.0.2 iu) p.0.1) ia) (mark_condition g s v (Skip r) apart h).0
  no_unit_moves (Submit b) a u to h ia iu p = not_worked a b ia (apart.one_action b a u (inr p.0) iu) (and_parts _ _ (and_parts _ _ (and_parts _ _ h).0).0).0
  no_unit_moves (Claim n) a u to h ia iu p = absurd (cc (p.1))
  no_unit_moves (Close d) a u to h ia iu p = absurd (cc (p.1))
  no_unit_moves (Block (Some n)) a u to h ia iu p =
      let found = Any-from_list_any (λ b. (action_of g b).fetch && (action_of g b).first_unit == n && works_on s v (task_with g b) && same_mark (mark_of s (ActionOf b)) Waiting && same_mark (mark_of s (UnitOf n)) Waiting && earlier_passed g s b) (range_with_len 0 _) h in
      let b : ℕ = found.1 in
      let first = and_parts _ _ (and_parts _ _ (and_parts _ _ (and_parts _ _ found.4).0).0).0 in
      let fetch = and_parts _ _ first.0 in
      let own : IsFetchOf g found.1 u = (fetch.0, p.0 ∙ sym (eqb-true (action_of g found.1).first_unit n fetch.1)) in
      not_worked a found.1 ia (apart.one_action found.1 a u (inl own) iu) first.1
  no_unit_moves (Unblock (Some d)) a u to h ia iu p = absurd (cc (p.1))
  no_unit_moves (End r) a u to h ia iu p =
      not_run r (apart.one_task r t a (subst (IsActionOf g r) (apart.one_action p.0.0 a u p.0.3 iu) p.0.1) ia) (mark_condition g s v (End r) apart h).0
  no_unit_moves _ a u to h ia iu p = absurd p

-- a mark that no other worker moves while the task runs stays through the entries of others
module _ (g : GraphView) (w : WorkerId) (t : ℕ) (m : MarkId) (mark : Mark)
    (never : (s : StateView) (v : WorkerId) (k : Kind) (to : Mark) → v.0 ≢ w.0 → mark_of s (TaskOf t) ≡ Running w → condition g s v k ≡ true → MayMove g s v k m mark to → ⊥) where
  stays_once : (s : StateView) (v : WorkerId) (k : Kind) (o : Option (List Change)) → v.0 ≢ w.0 → IfSome o (Finishes g s v k) → mark_of s (TaskOf t) ≡ Running w → mark_of s m ≡ mark → mark_of (changed s v o) m ≡ mark
  stays_once s v k None other f task is = is
  stays_once s v k (Some cs) other f task is = at (stays_or_moves (MayMove g s v k) cs s v (list_moves g s v k cs f.list) f.possible m)
    where
      at : StaysOrMoves (MayMove g s v k) m (mark_of s m) (mark_of (changed s v (Some cs)) m) → mark_of (changed s v (Some cs)) m ≡ mark
      at (inl same) = same ∙ is
      at (inr moved) = absurd (never s v k moved.first_to other task f.condition (subst (λ x. MayMove g s v k m x moved.first_to) is moved.first))

  stays : (h : List Entry) (s : StateView) → lawful_from g s h → NoneOf w h → mark_of s (TaskOf t) ≡ Running w → mark_of s m ≡ mark → mark_of (replay_from s h) m ≡ mark
  stays [] s lawful others task is = is
  stays (e ∷ h) s lawful others task is =
      let next : mark_of (effect s e) m ≡ mark = stays_once s e.worker e.kind e.changes others.0 lawful.0.finished task is in
      let still : mark_of (effect s e) (TaskOf t) ≡ Running w = ((others_after g (e ∷ []) s w (lawful.0, tt) (others.0, tt)).running (TaskOf t)).0 task in
      stays h (effect s e) lawful.1 others.1 still next

  stays_along : (own later : List Entry) → Lawful g (own ++ later) → NoneOf w later → mark_of (replay g own) (TaskOf t) ≡ Running w → mark_of (replay g own) m ≡ mark → mark_of (replay g (own ++ later)) m ≡ mark
  stays_along own later lawful others task is =
      ap (λ (s : StateView). mark_of s m) (replay_from-append (opening_of g) own later)
      ∙ stays later (replay g own) (lawful_from-append g (opening_of g) own later lawful).1 others task is

pub actions_stay : (g : GraphView) (own later : List Entry) (w : WorkerId) (t a : ℕ) → Fits g → Lawful g (own ++ later) → NoneOf w later → mark_of (replay g own) (TaskOf t) ≡ Running w → IsActionOf g t a
    → ((v : WorkerId) → mark_of (replay g own) (ActionOf a) ≢ Running v) → mark_of (replay g (own ++ later)) (ActionOf a) ≡ mark_of (replay g own) (ActionOf a)
actions_stay g own later w t a fits lawful others task ia still =
    stays_along g w t (ActionOf a) (mark_of (replay g own) (ActionOf a)) (λ s v k to other runs h p. no_action_moves g s v w t (apart_of g fits) other runs k a _ to h ia still p) own later lawful others task refl

pub waiting_units_stay : (g : GraphView) (own later : List Entry) (w : WorkerId) (t a u : ℕ) → Fits g → Lawful g (own ++ later) → NoneOf w later → mark_of (replay g own) (TaskOf t) ≡ Running w → IsActionOf g t a → IsUnitOf g a u
    → mark_of (replay g own) (UnitOf u) ≡ Waiting → mark_of (replay g (own ++ later)) (UnitOf u) ≡ Waiting
waiting_units_stay g own later w t a u fits lawful others task ia iu is =
    stays_along g w t (UnitOf u) Waiting (λ s v k to other runs h p. no_unit_moves g s v w t (apart_of g fits) other runs k a u to h ia iu p) own later lawful others task is
