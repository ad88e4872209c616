-- A finished entry keeps what holds of every state, kind by kind.
use Rattle.std.proofs.Common.{◌≡◌, ℕ, Bool, true, false, cond, refl, sym, ap, ◌∙◌, subst, inl, inr, Some, None}
use Rattle.lock_journal.specs.Names.{WorkerId, Mark, Waiting, Queued, Running, Passed, Failed, Skipped, MarkId, TaskOf, ActionOf, UnitOf, GraphView}
use Rattle.lock_journal.specs.Names.{action_of, IsActionOf, IsFetchOf, IsUnitOf, SameShape, StateView, mark_of, Kind, Start, Skip, Submit, Park}
use Rattle.lock_journal.specs.Names.{Resume, Claim, Close, Block, Unblock, End, end_mark, mark_from, IsDone, IsEnded, AfterPassed}
use Rattle.resource_lock.proofs.lemmas.Runs.{belongs_along}
use Rattle.item_actions.specs.declared.outcomes.Outcome.{Outcome}
use Rattle.item_actions.specs.declared.outcomes.Outcome.TheVariants.{Number, Digest, NotThere, TooLong, Fault, NoMemory, Skipped as NotRun}
use Rattle.lock_journal.proofs.Conditions.{HasFallen, EarlierPassed, EarlierFailed, FetchDone, IsThrough, MarkCondition, all_passed}
use Rattle.lock_journal.proofs.Finished.{IsFinal, HasMoved}
use Rattle.lock_journal.proofs.lemmas.Fitting.{RangesApart}
use Rattle.lock_journal.proofs.Kept.{ended_stays, HasFallenUnit, UnitsBefore, UnitsEnded, WholeEnded, HasUnpassed, TaskFact, ActionFact, UnitFact, IsKept, fallen_stays, after_passed_stays, after_fallen_stays, units_are_stays, units_before_stays, units_ended_stays, fetch_done_stays, earlier_failed_stays, task_fact_stays, action_fact_stays, unit_fact_stays, all_passed-true, all_passed-false, ended_not_passed}
use Rattle.lock_journal.proofs.Marks.{StaysOrMoves}
use Rattle.lock_journal.proofs.Moves.{MayMove}

-- a finished entry of worker w, of kind k, between two states
pub record IsStep (g : GraphView) (s : StateView) (w : WorkerId) (k : Kind) (s' : StateView) : Type 0 where
  pub apart : RangesApart g
  pub before : IsKept g s
  pub condition : MarkCondition g s w k
  pub final : IsFinal s s'
  pub moves_to : HasMoved g s w k s'
  pub stays_or_moves : (m : MarkId) → StaysOrMoves (MayMove g s w k) m (mark_of s m) (mark_of s' m)

-- A task's mark.
after_of_running : (g : GraphView) (s : StateView) (t : ℕ) (w : WorkerId) → IsKept g s → mark_of s (TaskOf t) ≡ Running w → AfterPassed g s t
after_of_running g s t w h e = subst (TaskFact g s t) e (h.tasks t)

fallen_of_unpassed : (g : GraphView) (s : StateView) (w : WorkerId) (t : ℕ) (s' : StateView) → IsStep g s w (End t) s' → HasUnpassed g s t → HasFallenUnit g s' t
fallen_of_unpassed g s w t s' h u = record { action = u.action; unit = u.unit; of_task = u.of_task; of_action = u.of_action; fallen = at (h.condition.1 u.action u.of_task) }
  where
    at : IsThrough g s t u.action → HasFallen (mark_of s' (UnitOf u.unit))
    at (inl passed) =
        let ended = subst (ActionFact g s u.action) passed (h.before.actions u.action) in
        fallen_stays s s' h.final (UnitOf u.unit) (ended_not_passed (mark_of s (UnitOf u.unit)) (ended.each u.unit u.of_action) u.unpassed)
    at (inr waits) = inr (h.moves_to.0 u.action u.unit u.of_task waits.0 u.of_action (h.apart.unit_within u.action u.unit u.of_action).1)

ended_whole : (g : GraphView) (s : StateView) (w : WorkerId) (t : ℕ) (s' : StateView) → IsStep g s w (End t) s' → WholeEnded g s' t
ended_whole g s w t s' h = record { actions = λ a ia. action a ia (h.condition.1 a ia); units = λ a u ia iu. unit a u ia iu (h.condition.1 a ia) }
  where
    action : (a : ℕ) → IsActionOf g t a → IsThrough g s t a → IsEnded (mark_of s' (ActionOf a))
    action a ia (inl passed) = ended_stays s s' h.final (ActionOf a) (subst IsEnded (sym passed) tt)
    action a ia (inr waits) = subst IsEnded (sym (h.moves_to.1 a ia waits.0 (h.apart.action_within t a ia))) tt

    unit : (a u : ℕ) → IsActionOf g t a → IsUnitOf g a u → IsThrough g s t a → IsEnded (mark_of s' (UnitOf u))
    unit a u ia iu (inl passed) =
        let ended = subst (ActionFact g s a) passed (h.before.actions a) in
        ended_stays s s' h.final (UnitOf u) (ended.each u iu)
    unit a u ia iu (inr waits) = subst IsEnded (sym (h.moves_to.0 a u ia waits.0 iu (h.apart.unit_within a u iu).1)) tt

end_fact : (g : GraphView) (s : StateView) (w : WorkerId) (t : ℕ) (s' : StateView) → IsStep g s w (End t) s' → TaskFact g s' t (end_mark g s t)
end_fact g s w t s' h = at (all_passed g s t) refl
  where
    after : AfterPassed g s' t
    after = after_passed_stays g s s' h.final t (after_of_running g s t w h.before h.condition.0)

    at : (b : Bool) → all_passed g s t ≡ b → TaskFact g s' t (cond b Passed Failed)
    at true e = (after, units_are_stays g s s' h.final t Passed tt (all_passed-true g s t e), ended_whole g s w t s' h)
    at false e = (after, fallen_of_unpassed g s w t s' h (all_passed-false g s t e), ended_whole g s w t s' h)

task_moves : (g : GraphView) (s : StateView) (w : WorkerId) (k : Kind) (s' : StateView) → IsStep g s w k s' → (n : ℕ) (from new : Mark) → MayMove g s w k (TaskOf n) from new → TaskFact g s' n new
task_moves g s w (Start t) s' h n from new p =
    subst (TaskFact g s' n) (sym p.2) (subst (AfterPassed g s') (sym p.0) (after_passed_stays g s s' h.final t h.condition.1))
task_moves g s w (Skip t) s' h n from new p =
    let units : (a u : ℕ) → IsActionOf g t a → IsUnitOf g a u → mark_of s' (UnitOf u) ≡ Skipped = λ a u ia iu. h.moves_to.1 a u ia iu (h.apart.unit_within a u iu).1 in
    let whole : WholeEnded g s' t = record { actions = λ a ia. subst IsEnded (sym (h.moves_to.2 a ia (h.apart.action_within t a ia))) tt; units = λ a u ia iu. subst IsEnded (sym (units a u ia iu)) tt } in
    subst (TaskFact g s' n) (sym p.2)
    (subst (λ z. TaskFact g s' z Skipped) (sym p.0) (after_fallen_stays g s s' h.final t h.condition.1, record { each = units }, whole))
task_moves g s w (End t) s' h n from new p =
    subst (TaskFact g s' n) (sym p.2) (subst (λ z. TaskFact g s' z (end_mark g s t)) (sym p.0) (end_fact g s w t s' h))
task_moves g s w (Block None) s' h n from new p = absurd p
task_moves g s w (Unblock None) s' h n from new p = absurd p
task_moves g s w _ s' h n from new p = absurd p

-- An action's mark.
resumed : (g : GraphView) (s : StateView) (w : WorkerId) (a : ℕ) (s' : StateView) → IsStep g s w (Resume a) s' → UnitsEnded g s' a
resumed g s w a s' h = units_ended_stays g s s' h.final a (record { each = λ u i. at u i })
  where
    ended : (m : Mark) → IsDone m → IsEnded m
    ended m (inl e) = subst IsEnded (sym e) tt
    ended m (inr e) = subst IsEnded (sym e) tt

    fetched : FetchDone g s a
    fetched = subst (ActionFact g s a) h.condition.0 (h.before.actions a)

    at : (u : ℕ) → IsUnitOf g a u → IsEnded (mark_of s (UnitOf u))
    at u (inl i) = ended (mark_of s (UnitOf u)) (fetched u i)
    at u (inr i) = h.condition.1 u i

action_moves : (g : GraphView) (s : StateView) (w : WorkerId) (k : Kind) (s' : StateView) → IsStep g s w k s' → (n : ℕ) (from new : Mark) → MayMove g s w k (ActionOf n) from new → ActionFact g s' n new
action_moves g s w (Skip t) s' h n from new p = subst (ActionFact g s' n) (sym p.2) tt
action_moves g s w (End t) s' h n from new p = subst (ActionFact g s' n) (sym p.2) tt
action_moves g s w (Submit a) s' h n from new p =
    subst (ActionFact g s' n) (sym p.2) (subst (FetchDone g s') (sym p.0) (fetch_done_stays g s s' h.final a h.condition.1))
action_moves g s w (Park a) s' h n from new p =
    let fetched : FetchDone g s a = subst (ActionFact g s a) h.condition (h.before.actions a) in
    subst (ActionFact g s' n) (sym p.2) (subst (FetchDone g s') (sym p.0) (fetch_done_stays g s s' h.final a fetched))
action_moves g s w (Resume a) s' h n from new p =
    subst (ActionFact g s' n) (sym p.2) (subst (UnitsEnded g s') (sym p.0) (resumed g s w a s' h))
action_moves g s w (Block None) s' h n from new p = absurd p
action_moves g s w (Unblock None) s' h n from new p = absurd p
action_moves g s w _ s' h n from new p = absurd p

-- A unit's mark.
before_of_earlier : (g : GraphView) (s : StateView) (w : WorkerId) (k : Kind) (s' : StateView) → IsStep g s w k s' → (t a b u : ℕ) → IsActionOf g t a → IsUnitOf g a u → IsUnitOf g b u → EarlierPassed g s (action_of g b).task b → UnitsBefore g s' t a
before_of_earlier g s w k s' h t a b u ia iu ib earlier =
    let same : a ≡ b = h.apart.one_action a b u iu ib in
    let own : IsActionOf g (action_of g b).task b = h.apart.own_task b (h.apart.unit_within b u ib).0 in
    let task : t ≡ (action_of g b).task = h.apart.one_task t (action_of g b).task b (subst (IsActionOf g t) same ia) own in
    let there : UnitsBefore g s (action_of g b).task b = record { each = λ c v ic lt iv. (earlier c ic lt).1 v iv } in
    let moved : UnitsBefore g s t b = subst (λ z. UnitsBefore g s z b) (sym task) there in
    units_before_stays g s s' h.final t a (subst (UnitsBefore g s t) (sym same) moved)

fact_of_old : (g : GraphView) (s : StateView) (w : WorkerId) (k : Kind) (s' : StateView) → IsStep g s w k s' → (t a n u : ℕ) (m : Mark) → IsActionOf g t a → IsUnitOf g a n → n ≡ u → mark_of s (UnitOf u) ≡ m → UnitFact g s t a m
fact_of_old g s w k s' h t a n u m ia iu e is =
    subst (UnitFact g s t a) (ap (λ z. mark_of s (UnitOf z)) e ∙ is) (h.before.units t a n ia iu)

mark_from_fact : (g : GraphView) (s : StateView) (t a : ℕ) (o : Outcome) → UnitsBefore g s t a → UnitFact g s t a (mark_from o)
mark_from_fact g s t a (Number n) h = h
mark_from_fact g s t a (Digest n) h = h
mark_from_fact g s t a NotThere h = h
mark_from_fact g s t a TooLong h = h
mark_from_fact g s t a Fault h = h
mark_from_fact g s t a NoMemory h = h
mark_from_fact g s t a NotRun h = h

unit_moves : (g : GraphView) (s : StateView) (w : WorkerId) (k : Kind) (s' : StateView) → IsStep g s w k s' → (t a n : ℕ) (from new : Mark) → IsActionOf g t a → IsUnitOf g a n → MayMove g s w k (UnitOf n) from new → UnitFact g s' t a new
unit_moves g s w (Skip r) s' h t a n from new ia iu p =
    let same : a ≡ p.0.0 = h.apart.one_action a p.0.0 n iu p.0.2 in
    let task : r ≡ t = h.apart.one_task r t a (subst (IsActionOf g r) (sym same) p.0.1) ia in
    subst (UnitFact g s' t a) (sym p.2) (inl (subst (λ z. mark_of s' (TaskOf z) ≡ Skipped) task h.moves_to.0))
unit_moves g s w (Submit b) s' h t a n from new ia iu p =
    subst (UnitFact g s' t a) (sym p.2) (before_of_earlier g s w (Submit b) s' h t a b n ia iu (inr p.0) h.condition.0)
unit_moves g s w (Claim u) s' h t a n from new ia iu p =
    let old : UnitsBefore g s t a = fact_of_old g s w (Claim u) s' h t a n u Queued ia iu p.0 h.condition in
    subst (UnitFact g s' t a) (sym p.2) (units_before_stays g s s' h.final t a old)
unit_moves g s w (Close d) s' h t a n from new ia iu p =
    let old : UnitsBefore g s t a = fact_of_old g s w (Close d) s' h t a n d.unit (Running w) ia iu p.0 h.condition in
    subst (UnitFact g s' t a) (sym p.2) (mark_from_fact g s' t a d.outcome (units_before_stays g s s' h.final t a old))
unit_moves g s w (Block (Some u)) s' h t a n from new ia iu p =
    let c = h.condition in
    subst (UnitFact g s' t a) (sym p.2) (before_of_earlier g s w (Block (Some u)) s' h t a c.0 n ia iu (inl (subst (IsFetchOf g c.0) (sym p.0) c.1)) c.2)
unit_moves g s w (Unblock (Some d)) s' h t a n from new ia iu p =
    let old : UnitsBefore g s t a = fact_of_old g s w (Unblock (Some d)) s' h t a n d.unit (Running w) ia iu p.0 h.condition in
    subst (UnitFact g s' t a) (sym p.2) (mark_from_fact g s' t a d.outcome (units_before_stays g s s' h.final t a old))
unit_moves g s w (End r) s' h t a n from new ia iu p =
    let same : a ≡ p.0.0 = h.apart.one_action a p.0.0 n iu p.0.3 in
    let here : IsActionOf g r a = subst (IsActionOf g r) (sym same) p.0.1 in
    let task : r ≡ t = h.apart.one_task r t a here ia in
    let waits : mark_of s (ActionOf a) ≡ Waiting = subst (λ z. mark_of s (ActionOf z) ≡ Waiting) (sym same) p.0.2 in
    subst (UnitFact g s' t a) (sym p.2) (inr (earlier_failed_stays g s s' h.final t a (subst (λ z. EarlierFailed g s z a) task (at a waits (h.condition.1 a here)))))
  where
    at : (b : ℕ) → mark_of s (ActionOf b) ≡ Waiting → IsThrough g s r b → EarlierFailed g s r b
    at b waits (inl passed) = absurd (cc (waits, passed))
    at b waits (inr through) = through.1
unit_moves g s w (Start r) s' h t a n from new ia iu p = absurd p
unit_moves g s w _ s' h t a n from new ia iu p = absurd p

pub kept_by_step : (g : GraphView) (s : StateView) (w : WorkerId) (k : Kind) (s' : StateView) → SameShape s s' → IsStep g s w k s' → IsKept g s'
kept_by_step g s w k s' z h = record {
  belongs = belongs_along g s s' z h.before.belongs;
  tasks = λ t. task t (h.stays_or_moves (TaskOf t));
  actions = λ a. action a (h.stays_or_moves (ActionOf a));
  units = λ t a u ia iu. unit t a u ia iu (h.stays_or_moves (UnitOf u));
}
  where
    task : (t : ℕ) → StaysOrMoves (MayMove g s w k) (TaskOf t) (mark_of s (TaskOf t)) (mark_of s' (TaskOf t)) → TaskFact g s' t (mark_of s' (TaskOf t))
    task t (inl same) = subst (TaskFact g s' t) (sym same) (task_fact_stays g s s' h.final t (mark_of s (TaskOf t)) (h.before.tasks t))
    task t (inr moved) = task_moves g s w k s' h t moved.last_from (mark_of s' (TaskOf t)) moved.last

    action : (a : ℕ) → StaysOrMoves (MayMove g s w k) (ActionOf a) (mark_of s (ActionOf a)) (mark_of s' (ActionOf a)) → ActionFact g s' a (mark_of s' (ActionOf a))
    action a (inl same) = subst (ActionFact g s' a) (sym same) (action_fact_stays g s s' h.final a (mark_of s (ActionOf a)) (h.before.actions a))
    action a (inr moved) = action_moves g s w k s' h a moved.last_from (mark_of s' (ActionOf a)) moved.last

    unit : (t a u : ℕ) → IsActionOf g t a → IsUnitOf g a u → StaysOrMoves (MayMove g s w k) (UnitOf u) (mark_of s (UnitOf u)) (mark_of s' (UnitOf u)) → UnitFact g s' t a (mark_of s' (UnitOf u))
    unit t a u ia iu (inl same) = subst (UnitFact g s' t a) (sym same) (unit_fact_stays g s s' h.final t a (mark_of s (UnitOf u)) (h.before.units t a u ia iu))
    unit t a u ia iu (inr moved) = unit_moves g s w k s' h t a u moved.last_from (mark_of s' (UnitOf u)) ia iu moved.last
